-- After x turns the first x pixels are changed and the rest is as it was; `pixel-more` is a turn.
use Rattle.std.proofs.Common.{◌≡◌, ◌*◌, get_or}
use Rattle.std.specs.Float.{nan}
use Rattle.seq.specs.Lists.{filled}
use Rattle.resample.specs.Samples.{changed_at}
use Rattle.resample_up.proofs.write_row.Given as goal

abbrev pub invariant-loop-x : goal.invariant-loop-x
invariant-loop-x l = l.row ≡ filled (changed_at l.channels (λ k. get_or l.delta k nan) l.fn.row) (l.x * l.channels) l.fn.row
