-- From zeros, the rows of the window's taps are added.
use Rattle.std.proofs.Common.{refl, ap, ◌∙◌, arith, length, replicate}
use Rattle.std.specs.Float.Ieee.{of_bits}
use Rattle.float.specs.Base.{zero+}
use Rattle.resample_window.specs.Window.{taps}
use Rattle.resample_window.specs.Taps.{window-small, taps-of, taps-from}
use Rattle.resample_window.specs.Walk.{walked, next-from, next-more}
use Rattle.resample.specs.Samples.{wide_row}
use Rattle.resample.specs.Resampled.{sum_rows}
use Rattle.resample.specs.Sums.{length-sum_rows, sum_rows-none, sum_rows-more}
use Rattle.resample_up.specs.Rows.{change-of}
use Rattle.resample_up.proofs.Widening.change_row.Goals as goal

pub taps-tap-items-requires : goal.taps-tap-items-requires
taps-tap-items-requires c = (window-small c.new.result 256 c.args.height c.args.y c.new.ensures, omega arith)

pub loop-tap-init : goal.loop-tap-init
unfolding of_bits
loop-tap-init c =
    let n = c.args.self.now.rows.maker in (
      c.into_iter-tap-iterator.ensures.into_iter_gives ∙ (c.taps-tap-items.ensures ∙ taps-of c.new.result 256 c.args.height c.args.y c.new.ensures),
      refl,
      refl,
      c.zero_floats.ensures ∙ (ap (λ k. replicate k zero+) c.requires ∙ sum_rows-none n.width (wide_row n.width n.change.now)),
    )

pub add_tap-requires : goal.add_tap-requires
add_tap-requires c =
    let i = c.loop-tap.invariant in
    rw i.1 (
      next-from (taps 256 c.args.height c.args.y) _ _ i.0 c.in-Some.tap _ c.in-Some.ensures.steps 256
          (taps-from 256 c.args.height c.args.y c.in-Some.tap (omega arith)),
      ap length i.3 ∙ length-sum_rows _ _ _,
    )

pub loop-tap-preserved : goal.loop-tap-preserved
loop-tap-preserved c =
    let n = c.args.self.now.rows.maker in
    let i = c.loop-tap.invariant in
    let row = wide_row n.width n.change.now in (
      next-more (taps 256 c.args.height c.args.y) _ _ i.0 c.in-Some.tap _ c.in-Some.ensures.steps,
      c.add_tap.ensures.same.0 ∙ i.1,
      c.add_tap.ensures.same.1 ∙ i.2,
      (rw (i.1, i.2) at c.add_tap.ensures.row) ∙ sum_rows-more n.width row c.loop-tap.yielded c.in-Some.tap c.loop-tap.out (row c.in-Some.tap.from) i.3 refl,
    )

pub returns-clause-row : goal.returns-clause-row
returns-clause-row c =
    let n = c.args.self.now.rows.maker in
    let i = c.loop-tap.invariant in
    i.3
    ∙ (ap (sum_rows n.width (wide_row n.width n.change.now)) (walked (taps 256 c.args.height c.args.y) _ _ i.0 c.in-None.ensures.steps.0)
    ∙ change-of n.width c.args.height n.change.now c.args.y)
