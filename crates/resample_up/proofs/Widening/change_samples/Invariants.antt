-- After y turns the first y rows are changed and the rest is as it was; `rows_more` is a turn.
use Rattle.std.proofs.Common.{◌≡◌}
use Rattle.resample_up.specs.Changed.{changed_rows}
use Rattle.resample_up.proofs.Widening.change_samples.Given as goal

abbrev pub invariant-loop-y : goal.invariant-loop-y
invariant-loop-y l =
    (l.self.rows.maker.width ≡ l.fn.self.rows.maker.width) × (l.self.rows.maker.change ≡ l.fn.self.rows.maker.change) × (l.samples ≡ changed_rows l.width l.height l.channels l.fn.self.rows.maker.change.now l.fn.samples l.y)
