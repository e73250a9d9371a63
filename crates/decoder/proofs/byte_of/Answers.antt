-- After k turns the value is that of k bits, the highest first, which fits a byte.
use Rattle.std.proofs.Common.{◌≡◌, refl, ap, ◌∙◌, ℕ, ◌+◌, ◌-◌, ◌*◌, ◌≤◌, ◌<◌, List, length, get_or, take, drop, arith, length-drop, length-take-le, get_or-take, get_or-drop}
use Rattle.std.proofs.Math.Nat.{add-sub_cancel_left}
use Rattle.encoder.specs.Bits.{bits_at}
use Rattle.decoder.specs.Loops.{eaten, eaten-fits, eaten-more, eaten-all}
use Rattle.decoder.proofs.byte_of.Goals as goal

-- the eight bits from 8 i on
module _ (bs : List ℕ) (i : ℕ) (room : 8 * i + 8 ≤ length bs) where
  eight : length (take (8 * i + 8 - 8 * i) (drop (8 * i) bs)) ≡ 8
  eight = rw (add-sub_cancel_left (8 * i) 8) (length-take-le 8 (drop (8 * i) bs) (omega (arith, length-drop (8 * i) bs)))

  bit_is : (k : ℕ) → k < 8 → get_or (take (8 * i + 8 - 8 * i) (drop (8 * i) bs)) k 0 ≡ get_or bs (8 * i + k) 0
  bit_is k h = rw (add-sub_cancel_left (8 * i) 8) (get_or-take 8 (drop (8 * i) bs) k 0 h ∙ get_or-drop (8 * i) bs k 0)

pub loop-bit-init : goal.loop-bit-init
unfolding eaten
loop-bit-init c = refl

pub overflow_mul-v : goal.overflow_mul-v
overflow_mul-v c =
    let l = c.loop-bit in
    let bs = c.args.bits.now in
    let i = c.args.i in
    let K : l.bit-index < 8 = omega (arith, c.loop-bit-test.true, eight bs i c.requires.0) in
    let V : l.v ≡ eaten bs (8 * i) l.bit-index = l.invariant in
    omega (arith, V, eaten-fits bs (8 * i) l.bit-index c.requires.1 K)

pub overflow_add-v : goal.overflow_add-v
overflow_add-v c =
    let l = c.loop-bit in
    let bs = c.args.bits.now in
    let i = c.args.i in
    let B = c.requires.1 in
    let K : l.bit-index < 8 = omega (arith, c.loop-bit-test.true, eight bs i c.requires.0) in
    let V : l.v ≡ eaten bs (8 * i) l.bit-index = l.invariant in
    omega (arith, V, eaten-fits bs (8 * i) l.bit-index B K, bits_at bs (8 * i + l.bit-index) B, bit_is bs i c.requires.0 l.bit-index K)

pub loop-bit-preserved : goal.loop-bit-preserved
loop-bit-preserved c =
    let l = c.loop-bit in
    let bs = c.args.bits.now in
    let i = c.args.i in
    let K : l.bit-index < 8 = omega (arith, c.loop-bit-test.true, eight bs i c.requires.0) in
    ap (λ (b : ℕ). l.v * 2 + b) (bit_is bs i c.requires.0 l.bit-index K) ∙ eaten-more bs (8 * i) l.bit-index l.v l.invariant

pub returns : goal.returns
returns c =
    let l = c.loop-bit in
    let bs = c.args.bits.now in
    let e : l.bit-index ≡ 8 = omega (arith, c.loop-bit-test.false, l.auto.bit-index-end, eight bs c.args.i c.requires.0) in
    l.invariant ∙ ap (eaten bs (8 * c.args.i)) e ∙ eaten-all bs c.args.i
