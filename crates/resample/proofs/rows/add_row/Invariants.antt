-- After x turns the first x places are the sums and the rest is as it was.
use Rattle.std.proofs.Common.{◌≡◌}
use Rattle.seq.specs.Lists.{filled}
use Rattle.resample.specs.Tables.{added_at}
use Rattle.resample.proofs.rows.add_row.Given as goal

abbrev pub invariant-loop-x : goal.invariant-loop-x
invariant-loop-x l = l.sum ≡ filled (added_at l.fn.sum l.w l.row) l.x l.fn.sum
