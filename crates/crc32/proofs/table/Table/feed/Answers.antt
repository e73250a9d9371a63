-- What has been looked up and the register after the bytes that are left sum up to the register after all of them.
use Rattle.std.proofs.Common.{◌<◌, ◌∙◌, ap, sym, arith, get_or}
use Rattle.std.specs.Int.Bits.{bit_xor}
use Rattle.crc32.specs.Bytes.{after_none}
use Rattle.crc32.proofs.Definition.{register-more}
use Rattle.crc32.proofs.table.Table.feed.Goals as goal

pub loop-i-preserved : goal.loop-i-preserved
loop-i-preserved c =
    let l = c.loop-i in
    let s = c.args.bytes.now in
    let byte : get_or s l.i 0 < 256 = omega (arith, c.type_inv.bytes l.i) in
    rw (c.look_byte-sum.ensures, c.from.ensures) (register-more l.x l.sum l.i s (omega arith) byte ∙ l.invariant)

pub returns : goal.returns
returns c =
    let l = c.loop-i in
    ap (bit_xor l.sum) (sym (after_none l.x l.i c.args.bytes.now (omega arith))) ∙ l.invariant
