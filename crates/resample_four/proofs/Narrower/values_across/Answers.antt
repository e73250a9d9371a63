-- After some taps each of the four sums is theirs, over its own row.
use Rattle.std.proofs.Common.{ap, get_or, ◌≡◌, ◌+◌, ◌*◌, ◌<◌, ℕ, List, length, take, refl, arith, Float}
use Rattle.std.specs.Float.{nan, binary32}
use Rattle.std.specs.Float.Ieee.{add, mul, neg, of_bits}
use Rattle.std.proofs.Math.ListN.{length-map}
use Rattle.seq.specs.Lists.{tab}
use Rattle.float.specs.Base.{zero-}
use Rattle.resample_window.specs.declared.Tap.{Tap}
use Rattle.resample_window.specs.Window.{taps, tap_sources, tap_weights}
use Rattle.resample.specs.Resampled.{tap_total, across}
use Rattle.resample.specs.Taps.{tap-more, all_there}
use Rattle.resample_four.specs.Four.{lane}
use Rattle.resample_four.proofs.Narrower.values_across.Goals as goal

length-sources : (ts : List Tap) → length (tap_sources ts) ≡ length ts
length-sources ts = length-map ts (λ t. t.from)

length-weights : (ts : List Tap) → length (tap_weights ts) ≡ length ts
length-weights ts = length-map ts (λ t. t.weight)

pub loop-n-init : goal.loop-n-init
unfolding neg of_bits tap_total
loop-n-init c = (refl, refl, refl, refl)

pub bounds-weight-n : goal.bounds-weight-n
bounds-weight-n c =
    let ts = taps c.args.self.now.taps.src c.args.self.now.taps.dst c.args.x in
    omega (arith, ap length c.of.ensures.from, ap length c.of.ensures.with, length-sources ts, length-weights ts)

pub loop-n-preserved : goal.loop-n-preserved
unfolding lane
loop-n-preserved c =
    let width = c.args.self.now.pixels.picture.width in
    let axis = c.args.self.now.axis in
    let line = c.args.line.now in
    let at = c.loop-n in
    let ts = taps width 256 c.args.x in
    let from : c.of.result.0.now ≡ tap_sources ts = rw axis at c.of.ensures.from in
    let with : c.of.result.1.now ≡ tap_weights ts = rw axis at c.of.ensures.with in
    let less : at.n < length ts = omega (arith, ap length from, length-sources ts) in
    let more : (l : ℕ) (v : Float) → v ≡ tap_total zero- (take at.n ts) (lane line l)
    → add binary32 v (mul binary32 (get_or c.of.result.1.now at.n nan) (lane line l (get_or c.of.result.0.now at.n 0)))
    ≡ tap_total zero- (take (at.n + 1) ts) (lane line l) =
    λ l v e. tap-more width 256 c.args.x (lane line l) at.n less _ _ (ap (λ (xs : List ℕ). get_or xs at.n 0) from)
    (ap (λ (xs : List Float). get_or xs at.n nan) with) v e in
    let zero : 4 * get_or c.of.result.0.now at.n 0 + 0 ≡ 4 * get_or c.of.result.0.now at.n 0 = omega arith in
    rw c.from-k.ensures (rw zero at (more 0 at.t at.invariant.0), more 1 at.u at.invariant.1, more 2 at.v at.invariant.2, more 3 at.w at.invariant.3)

pub returns : goal.returns
unfolding tab
returns c =
    let width = c.args.self.now.pixels.picture.width in
    let axis = c.args.self.now.axis in
    let line = c.args.line.now in
    let at = c.loop-n in
    let ts = taps width 256 c.args.x in
    let from : c.of.result.0.now ≡ tap_sources ts = rw axis at c.of.ensures.from in
    let n : at.n ≡ length ts = omega (arith, ap length from, length-sources ts) in
    let all : (l : ℕ) (v : Float) → v ≡ tap_total zero- (take at.n ts) (lane line l) → v ≡ across width 256 (lane line l) c.args.x =
    λ l v e. all_there width 256 c.args.x (lane line l) at.n v n e in
    rw (all 0 at.t at.invariant.0, all 1 at.u at.invariant.1, all 2 at.v at.invariant.2, all 3 at.w at.invariant.3) refl
