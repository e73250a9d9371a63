-- What has been looked up and the register after the bytes that are left sum up to the register after all of them.
use Rattle.std.proofs.Common.{◌≡◌, drop}
use Rattle.std.specs.Int.Bits.{bit_xor}
use Rattle.crc32.specs.Shift.{register_after}
use Rattle.crc32.proofs.table.Table.feed.Given as goal

abbrev pub invariant-loop-i : goal.invariant-loop-i
invariant-loop-i l = bit_xor l.sum (register_after l.x (drop l.i l.bytes)) ≡ register_after l.start l.bytes
