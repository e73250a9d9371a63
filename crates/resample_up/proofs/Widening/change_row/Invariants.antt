-- The sum is that of the rows of the taps that came, which with those that are left are the window's.
use Rattle.std.proofs.Common.{◌≡◌, ◌++◌}
use Rattle.resample_window.specs.Window.{taps}
use Rattle.resample.specs.Samples.{wide_row}
use Rattle.resample.specs.Resampled.{sum_rows}
use Rattle.resample_up.proofs.Widening.change_row.Given as goal

abbrev pub invariant-loop-tap : goal.invariant-loop-tap
invariant-loop-tap l =
    (l.yielded ++ l.tap-iterator ≡ taps 256 l.fn.height l.fn.y) × (l.self.rows.maker.width ≡ l.fn.self.rows.maker.width) × (l.self.rows.maker.change ≡ l.fn.self.rows.maker.change)
    × (l.out ≡ sum_rows l.fn.self.rows.maker.width (wide_row l.fn.self.rows.maker.width l.fn.self.rows.maker.change.now) l.yielded)
