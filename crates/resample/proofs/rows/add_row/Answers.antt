-- After x turns the first x places are the sums and the rest is as it was.
use Rattle.std.proofs.Common.{◌≡◌, ◌<◌, ◌∙◌, arith, length}
use Rattle.seq.specs.Tab.{filled_none, filled_more, filled-all}
use Rattle.resample.specs.Pixels.{filled_at}
use Rattle.resample.proofs.rows.add_row.Goals as goal

pub loop-x-init : goal.loop-x-init
loop-x-init c = filled_none _ _

pub loop-x-preserved : goal.loop-x-preserved
loop-x-preserved c =
    let h : c.loop-x.x < length c.args.sum.now = omega arith in
    rw (c.loop-x.invariant, filled_at) (filled_more _ _ _ h)

pub returns : goal.returns
returns c =
    let e : c.loop-x.x ≡ length c.args.sum.now = omega arith in
    (rw e at c.loop-x.invariant) ∙ filled-all _ c.args.sum.now
