-- The luma of the four rows, and the taps over them.
use Rattle.resample_four.specs.Laws.{narrowed-four}
use Rattle.resample_four.proofs.Narrower.narrow_four.Goals as goal

pub returns-clause-rows : goal.returns-clause-rows
returns-clause-rows c =
    let p = c.args.self.now.pixels in
    narrowed-four p.picture.width p.picture.height p.picture.channels p.samples.now c.args.g p.sized.wide c.args.line.now c.luma_four.new.line
    c.across_four.new.out c.luma_four.ensures c.across_four.ensures
