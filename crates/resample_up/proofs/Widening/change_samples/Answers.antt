-- After y turns the first y rows are changed and the rest is as it was; `rows_more` is a turn.
use Rattle.std.proofs.Common.{◌≡◌, ◌∙◌, ap, refl, ◌*◌, ◌<◌, arith, get_or}
use Rattle.std.specs.Float.{nan}
use Rattle.seq.specs.Lists.{on_part}
use Rattle.resample.specs.Samples.{change_row, changed_row}
use Rattle.resample.specs.Kept.{part-size}
use Rattle.resample.specs.Pixels.{part-row}
use Rattle.resample_up.specs.Changed.{rows_none, changed-rows-more, rows_all}
use Rattle.resample_up.proofs.Widening.change_samples.Goals as goal

pub loop-y-init : goal.loop-y-init
loop-y-init c =
    let p = c.args.picture in
    (refl, refl, rows_none p.width p.height p.channels c.args.self.now.rows.maker.change.now c.args.samples.now)

pub loop-y-preserved : goal.loop-y-preserved
unfolding on_part
loop-y-preserved c =
    let p = c.args.picture in
    let change = c.args.self.now.rows.maker.change.now in
    let at = c.loop-y in
    let n = p.width * p.channels in
    let less : at.y < p.height = omega arith in
    let delta = c.change_row.new.out in
    let is : delta ≡ change_row p.width p.height change at.y = rw (at.invariant.0, at.invariant.1, ← c.requires.1) at c.change_row.ensures.row in
    let more = changed-rows-more p.width p.height p.channels change c.args.samples.now c.requires.0.full at.y at.samples
    c.write_row.new.row delta less at.invariant.2 is
    (c.write_row.ensures ∙ ap (changed_row p.channels (λ x. get_or delta x nan)) (part-row n at.samples at.y)) in
    (c.change_row.ensures.same.0 ∙ at.invariant.0, c.change_row.ensures.same.1 ∙ at.invariant.1, rw (part-size (at.y * n) n) more)

pub returns : goal.returns
returns c =
    let p = c.args.picture in
    let e : c.loop-y.y ≡ p.height = omega arith in
    (rw e at c.loop-y.invariant.2) ∙ rows_all p.width p.height p.channels c.args.self.now.rows.maker.change.now c.args.samples.now c.requires.0.full
