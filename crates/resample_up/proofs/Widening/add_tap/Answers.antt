-- The row that is kept is as long as the sum.
use Rattle.std.proofs.Common.{◌∙◌, sym, ap, length}
use Rattle.resample_up.specs.Rows.{wide-length}
use Rattle.resample_up.proofs.Widening.add_tap.Goals as goal

pub add_row-requires : goal.add_row-requires
add_row-requires c =
    let m = c.args.self.now.rows.maker in
    c.requires.1 ∙ sym (ap length ((rw c.keep-slot.ensures.same.0 at c.row.ensures) ∙ c.keep-slot.ensures.row) ∙ wide-length m.width m.change.now c.args.tap.from)
