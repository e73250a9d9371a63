-- The row stands among its four, and is as long as the sum.
use Rattle.std.proofs.Common.{◌∙◌, ◌*◌, ◌/◌, ◌%◌, sym, ap, arith, length}
use Rattle.resample.specs.Kept.{part-size}
use Rattle.resample_down.specs.Rows.{four-length, narrow-length, row-among}
use Rattle.resample_down.proofs.Narrowing.add_tap.Goals as goal

pub slice_bounds-add_row-end : goal.slice_bounds-add_row-end
slice_bounds-add_row-end c =
    let p = c.args.self.now.fours.maker.from.pixels in
    omega (
      arith,
      ap length (c.row-four.ensures ∙ c.keep-slot.ensures.row) ∙ four-length p.picture.width p.picture.height p.picture.channels p.samples.now (c.args.tap.from / 4),
    )

pub add_row-requires : goal.add_row-requires
add_row-requires c =
    let p = c.args.self.now.fours.maker.from.pixels in
    let i = c.args.tap.from in
    let row = row-among p.picture.width p.picture.height p.picture.channels p.samples.now c.row-four.result.now i c.requires.0
    (c.row-four.ensures ∙ c.keep-slot.ensures.row) in
    rw (part-size (i % 4 * 256) 256) (c.requires.1 ∙ sym (ap length row ∙ narrow-length p.picture.width p.picture.channels p.samples.now i))

pub returns-clause-row : goal.returns-clause-row
returns-clause-row c =
    let p = c.args.self.now.fours.maker.from.pixels in
    let i = c.args.tap.from in
    let row = row-among p.picture.width p.picture.height p.picture.channels p.samples.now c.row-four.result.now i c.requires.0
    (c.row-four.ensures ∙ c.keep-slot.ensures.row) in
    rw (part-size (i % 4 * 256) 256, row, c.requires.1) at c.add_row.ensures
