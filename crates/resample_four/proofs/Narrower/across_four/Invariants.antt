-- After x turns the first x values of each row stand in it.
use Rattle.std.specs.Float.{nan}
use Rattle.resample.specs.Resampled.{across}
use Rattle.resample_four.specs.Four.{lane}
use Rattle.resample_four.specs.Laws.{Behind}
use Rattle.resample_four.proofs.Narrower.across_four.Given as goal

abbrev pub invariant-loop-x : goal.invariant-loop-x
invariant-loop-x l = Behind nan (λ r x. across l.self.pixels.picture.width 256 (lane l.line r) x) l.x l.out
