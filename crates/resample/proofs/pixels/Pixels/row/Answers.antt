-- The part is the row.
use Rattle.std.proofs.Common.{◌*◌}
use Rattle.resample.specs.Pixels.{part-row}
use Rattle.resample.proofs.pixels.Pixels.row.Goals as goal

pub returns : goal.returns
returns c = let p = c.args.self.now in part-row (p.picture.width * p.picture.channels) p.samples.now c.args.i
