-- After some taps the sum is theirs.
use Rattle.std.proofs.Common.{◌≡◌, length, get_or, take}
use Rattle.std.specs.Float.{nan}
use Rattle.float.specs.Base.{zero-}
use Rattle.resample_window.specs.Window.{taps}
use Rattle.resample.specs.Resampled.{tap_total}
use Rattle.resample.proofs.axis.Taps.value.Given as goal

abbrev pub invariant-loop-from : goal.invariant-loop-from
invariant-loop-from l =
    l.sum ≡ tap_total zero- (take (length l.yielded) (taps l.fn.self.src l.fn.self.dst l.fn.x)) (λ k. get_or l.source k nan)
