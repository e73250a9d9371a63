-- After x turns the first x places hold the luma of their pixels.
use Rattle.std.proofs.Common.{◌≡◌, ◌+◌, ◌*◌, ◌≤◌, ◌<◌, ◌∙◌, arith, length}
use Rattle.seq.specs.Tab.{filled_none, filled_more, filled-all}
use Rattle.resample.specs.Samples.{luma_at}
use Rattle.resample.specs.Pixels.{pixel-fits}
use Rattle.comparison.proofs.pictures.luma.Goals as goal

pub loop-x-init : goal.loop-x-init
loop-x-init c = filled_none _ _

pub loop-x-preserved : goal.loop-x-preserved
loop-x-preserved c =
    let a = c.args in
    let h : c.loop-x.x < length a.out.now = omega arith in
    rw (c.loop-x.invariant, c.luma.ensures) (filled_more (luma_at a.channels a.row.now) c.loop-x.x a.out.now h)

pub returns : goal.returns
returns c =
    let e : c.loop-x.x ≡ length c.args.out.now = omega arith in
    (rw e at c.loop-x.invariant) ∙ filled-all _ c.args.out.now
