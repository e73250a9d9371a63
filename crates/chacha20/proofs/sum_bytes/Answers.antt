-- After i turns the first 4 * i bytes are those of the first i sums; a turn stores the four bytes of one more.
use Rattle.std.proofs.Common.{◌≡◌, ◌+◌, ◌*◌, length, sym, refl, ap, ◌∙◌, arith, take_all}
use Rattle.std.proofs.lemmas.Slice.{take-put_mid}
use borrow.Rule.Slice.PartMut.{same_len_mid}
use Rattle.seq.specs.Lists.{tab}
use Rattle.chacha20.specs.Rfc8439.{sums, serialized}
use Rattle.chacha20.specs.Blocks.{serialized-more}
use Rattle.chacha20.proofs.sum_bytes.Invariants.{sum_at}
use Rattle.seq.specs.Bytes.{little_endian}
use Rattle.chacha20.proofs.sum_bytes.Goals as goal

pub loop-i-init : goal.loop-i-init
unfolding tab serialized
loop-i-init c = (refl, refl)

pub loop-i-preserved : goal.loop-i-preserved
unfolding little_endian
loop-i-preserved c =
    let l = c.loop-i in
    let bytes = c.copy_from_slice.new.self in
    let word : bytes ≡ little_endian (sum_at c.args.s.now c.args.t.now l.i) = c.copy_from_slice.ensures.after ∙ c.to_le_bytes.ensures in
    let four : 4 * (l.i + 1) ≡ 4 * l.i + 4 = omega arith in
    let size : length bytes ≡ 4 = ap length word in (
      same_len_mid (4 * l.i) _ l.out bytes c.copy_from_slice.ensures.len ∙ l.invariant.0,
      rw (four, take-put_mid (4 * l.i) _ l.out bytes (4 * l.i + 4) (omega arith) (omega arith), l.invariant.1, word) (sym (serialized-more _ l.i)),
    )

pub returns : goal.returns
unfolding sums
returns c =
    let all : c.loop-i.i ≡ 16 = omega arith in
    sym (take_all 64 c.loop-i.out (omega arith)) ∙ rw all at c.loop-i.invariant.1
