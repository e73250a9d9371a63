-- After t turns the state is that after t bits, and the first 2 t outputs are those of t bits.
use mathlib.Core.Path.{◌≡◌, refl, sym, ap, ◌∙◌}
use Prim.Native.Nat.{ℕ, ◌+◌, ◌*◌, ◌<◌}
use native.Mathlib.Omega.{arith}
use lib.ListN.{length, get_or, length-set}
use lib.Seq.{take_all}
use Rattle.encoder.specs.Ccsds131.{code, run, record_bits, six_zeros, encode_of}
use Rattle.encoder.specs.Bits.{bits_at, record_bits-bits, record_bits-length, six-bits}
use Rattle.encoder.specs.Loops.{word-step}
use Rattle.encoder.proofs.encode_into.Goals as goal

pub loop-t-init : goal.loop-t-init
unfolding run code
loop-t-init c = (refl, omega arith, refl, refl)

pub loop-t-preserved : goal.loop-t-preserved
loop-t-preserved c =
    let l = c.loop-t in
    let a = c.args in
    let bs = record_bits a.bytes.now six_zeros in
    let n : length bs ≡ 8 * length a.bytes.now + 6 = record_bits-length a.bytes.now six_zeros in
    let x = c.from.result in
    let X : x ≡ get_or bs l.t 0 = c.from.ensures ∙ c.bit_at.ensures in
    let B : x < 2 = rw X (bits_at bs l.t (record_bits-bits a.bytes.now six_zeros six-bits)) in
    let w = word-step bs l.coded l.t l.state (x * 64 + l.state) c.parity_of.result c.parity_of-in-loop-t.result (omega arith) (omega arith)
    l.invariant.2 (ap (λ (y : ℕ). y * 64 + l.state) X) c.parity_of.ensures c.parity_of-in-loop-t.ensures l.invariant.3 in
    (simp length-set l.invariant.0, omega arith, w.0, w.1)

pub returns : goal.returns
unfolding encode_of
returns c =
    let l = c.loop-t in
    let a = c.args in
    let bs = record_bits a.bytes.now six_zeros in
    let n : length bs ≡ 8 * length a.bytes.now + 6 = record_bits-length a.bytes.now six_zeros in
    sym (take_all (2 * l.t) l.coded (omega arith)) ∙ l.invariant.3 ∙ ap (code 0) (take_all l.t bs (omega arith))
