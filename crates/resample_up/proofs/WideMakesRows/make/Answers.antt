-- Row k of the change, put through the taps, is the wide row.
use Rattle.resample.specs.Pixels.{part-row}
use Rattle.resample_up.specs.Written.{widened}
use Rattle.resample_up.proofs.WideMakesRows.make.Goals as goal

pub returns-clause-row : goal.returns-clause-row
returns-clause-row c =
    let m = c.args.self.now in
    widened m.width m.change.now c.args.k _ c.row.new.out (part-row 256 m.change.now c.args.k) (rw m.axis at c.row.ensures)
