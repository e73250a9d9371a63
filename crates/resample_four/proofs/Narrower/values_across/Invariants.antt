-- After some taps each of the four sums is theirs, over its own row.
use Rattle.std.proofs.Common.{◌≡◌, ℕ, Float, take}
use Rattle.float.specs.Base.{zero-}
use Rattle.resample_window.specs.Window.{taps}
use Rattle.resample.specs.Resampled.{tap_total}
use Rattle.resample_four.specs.Four.{lane}
use Rattle.resample_four.proofs.Narrower.values_across.Given as goal

abbrev pub invariant-loop-n : goal.invariant-loop-n
invariant-loop-n l =
    let so_far : ℕ → Float = λ r. tap_total zero- (take l.n (taps l.self.pixels.picture.width 256 l.x)) (lane l.line r) in
    (l.t ≡ so_far 0) × (l.u ≡ so_far 1) × (l.v ≡ so_far 2) × (l.w ≡ so_far 3)
