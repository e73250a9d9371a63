-- From zeros, the rows of the window's taps are added.
use Rattle.std.proofs.Common.{refl, ap, ◌∙◌, length, replicate}
use Rattle.std.specs.Float.Ieee.{of_bits}
use Rattle.float.specs.Base.{zero+}
use Rattle.resample_window.specs.Window.{taps}
use Rattle.resample_window.specs.Taps.{window-small, taps-of, taps-from}
use Rattle.resample_window.specs.Walk.{walked, next-from, next-more}
use Rattle.resample.specs.Samples.{narrow_row}
use Rattle.resample.specs.Resampled.{sum_rows}
use Rattle.resample.specs.Sums.{length-sum_rows, sum_rows-none, sum_rows-more}
use Rattle.resample_down.specs.Rows.{plane-of}
use Rattle.resample_down.proofs.Narrowing.plane_row.Goals as goal

pub taps-tap-items-requires : goal.taps-tap-items-requires
taps-tap-items-requires c =
    let p = c.args.self.now.fours.maker.from.pixels in
    (window-small c.new.result p.picture.height 256 c.args.y c.new.ensures, p.sized.high)

pub loop-tap-init : goal.loop-tap-init
unfolding of_bits
loop-tap-init c =
    let p = c.args.self.now.fours.maker.from.pixels in (
      c.into_iter-tap-iterator.ensures.into_iter_gives ∙ (c.taps-tap-items.ensures ∙ taps-of c.new.result p.picture.height 256 c.args.y c.new.ensures),
      refl,
      c.zero_floats.ensures ∙ (ap (λ n. replicate n zero+) c.requires ∙ sum_rows-none 256 (narrow_row p.picture.width p.picture.channels p.samples.now)),
    )

pub loop-tap-preserved : goal.loop-tap-preserved
loop-tap-preserved c =
    let p = c.args.self.now.fours.maker.from.pixels in
    let i = c.loop-tap.invariant in
    let row = narrow_row p.picture.width p.picture.channels p.samples.now in (
      next-more (taps p.picture.height 256 c.args.y) _ _ i.0 c.in-Some.tap _ c.in-Some.ensures.steps,
      c.add_tap.ensures.same ∙ i.1,
      (rw i.1 at c.add_tap.ensures.row) ∙ sum_rows-more 256 row c.loop-tap.yielded c.in-Some.tap c.loop-tap.out (row c.in-Some.tap.from) i.2 refl,
    )

pub add_tap-requires : goal.add_tap-requires
add_tap-requires c =
    let p = c.args.self.now.fours.maker.from.pixels in
    let i = c.loop-tap.invariant in
    let h = p.picture.height in
    rw i.1 (
      next-from (taps h 256 c.args.y) _ _ i.0 c.in-Some.tap _ c.in-Some.ensures.steps h (taps-from h 256 c.args.y c.in-Some.tap p.sized.high),
      ap length i.2 ∙ length-sum_rows 256 _ _,
    )

pub returns-clause-row : goal.returns-clause-row
returns-clause-row c =
    let p = c.args.self.now.fours.maker.from.pixels in
    let i = c.loop-tap.invariant in
    i.2
    ∙ (ap (sum_rows 256 (narrow_row p.picture.width p.picture.channels p.samples.now))
    (walked (taps p.picture.height 256 c.args.y) _ _ i.0 c.in-None.ensures.steps.0)
    ∙ plane-of p.picture.width p.picture.height p.picture.channels p.samples.now c.args.y)
