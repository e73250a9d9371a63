-- The sum is that of the rows of the taps that came, which with those that are left are the window's.
use Rattle.std.proofs.Common.{◌≡◌, ◌++◌}
use Rattle.resample_window.specs.Window.{taps}
use Rattle.resample.specs.Samples.{narrow_row}
use Rattle.resample.specs.Resampled.{sum_rows}
use Rattle.resample_down.proofs.Narrowing.plane_row.Given as goal

abbrev pub invariant-loop-tap : goal.invariant-loop-tap
invariant-loop-tap l =
    (l.yielded ++ l.tap-iterator ≡ taps l.fn.self.fours.maker.from.pixels.picture.height 256 l.fn.y) × (l.self.fours.maker.from ≡ l.fn.self.fours.maker.from)
    × (l.out ≡ sum_rows 256 (narrow_row l.fn.self.fours.maker.from.pixels.picture.width l.fn.self.fours.maker.from.pixels.picture.channels l.fn.self.fours.maker.from.pixels.samples.now) l.yielded)
