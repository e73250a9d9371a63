-- The halves of a byte turn apart.
use Rattle.std.proofs.Common.{sym, ap₂, ◌∙◌}
use Rattle.std.specs.Int.Bits.{bit_xor}
use Rattle.crc32.specs.Table.{byte-halves}
use Rattle.crc32.proofs.table.Table.look_byte.Goals as goal

pub returns : goal.returns
returns c = ap₂ bit_xor c.look.ensures c.look-2.ensures ∙ sym (byte-halves c.args.k c.args.y)
