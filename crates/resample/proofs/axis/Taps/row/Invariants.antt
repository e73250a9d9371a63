-- After x output samples they stand in the first places.
use Rattle.std.proofs.Common.{◌≡◌, get_or}
use Rattle.std.specs.Float.{nan}
use Rattle.seq.specs.Lists.{filled}
use Rattle.resample.specs.Resampled.{across}
use Rattle.resample.proofs.axis.Taps.row.Given as goal

abbrev pub invariant-loop-x : goal.invariant-loop-x
invariant-loop-x l = l.out ≡ filled (across l.self.src l.self.dst (λ k. get_or l.source k nan)) l.x l.fn.out
