-- After x turns the first 4 x places hold the luma of the first x pixels of each row.
use Rattle.std.proofs.Common.{◌≡◌, ◌*◌}
use Rattle.seq.specs.Lists.{filled}
use Rattle.resample.specs.Samples.{luma_at}
use Rattle.resample_four.specs.Four.{beside, of_four}
use Rattle.resample_four.proofs.Narrower.luma_four.Given as goal

abbrev pub invariant-loop-x : goal.invariant-loop-x
invariant-loop-x l = l.line ≡ filled (beside (λ r. luma_at l.channels (of_four l.a l.b l.c l.d r))) (4 * l.x) l.fn.line
