-- After x turns the first x places hold the luma of their pixels.
use Rattle.std.proofs.Common.{◌≡◌}
use Rattle.seq.specs.Lists.{filled}
use Rattle.resample.specs.Samples.{luma_at}
use Rattle.comparison.proofs.pictures.luma.Given as goal

abbrev pub invariant-loop-x : goal.invariant-loop-x
invariant-loop-x l = l.out ≡ filled (luma_at l.channels l.row) l.x l.fn.out
