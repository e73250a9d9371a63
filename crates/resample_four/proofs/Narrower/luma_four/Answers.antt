-- After x turns the first 4 x places hold the luma of the first x pixels of each row; the rows are those of the picture.
use Rattle.std.proofs.Common.{◌≡◌, ◌+◌, ◌-◌, ◌*◌, ◌≤◌, ◌<◌, ◌∙◌, ℕ, List, min, ap, arith, length}
use Rattle.seq.specs.Tab.{filled_none}
use Rattle.picture.specs.Sizes.{Sized, row_of}
use Rattle.resample.specs.Samples.{luma_at}
use Rattle.resample.specs.Pixels.{pixel-fits, row_inside, length-row}
use Rattle.resample_four.specs.Four.{of_four, capped_at}
use Rattle.resample_four.specs.Laws.{capped-min, filled-four, line-found}
use Rattle.resample_four.proofs.Narrower.luma_four.Goals as goal

module _ {width height channels : ℕ} {samples : List ℕ} (s : Sized width height channels samples) (k i : ℕ) (row : List ℕ) (e : i ≡ min k (height - 1))
    (r : row ≡ row_of (width * channels) samples i) where
  -- in a turn the pixel ends within the row
  fits : (x : ℕ) → x < width → x * channels + 3 ≤ length row
  fits x h =
      let less : i < height = omega (arith, s.high) in
      let long : length row ≡ width * channels = ap length r ∙ length-row (width * channels) samples i (row_inside s i less) in
      omega (arith, pixel-fits x channels width h, s.three)

  -- row k, or the last
  own : row ≡ row_of (width * channels) samples (capped_at k height)
  own = r ∙ ap (row_of (width * channels) samples) (e ∙ capped-min k height s.high)

pub loop-x-init : goal.loop-x-init
loop-x-init c = filled_none _ _

pub luma-t-requires : goal.luma-t-requires
luma-t-requires c = fits c.args.self.now.pixels.sized _ _ _ c.min.ensures c.row-a.ensures c.loop-x.x c.loop-x-test.true

pub luma-u-requires : goal.luma-u-requires
luma-u-requires c = fits c.args.self.now.pixels.sized _ _ _ c.min-2.ensures c.row-b.ensures c.loop-x.x c.loop-x-test.true

pub luma-v-requires : goal.luma-v-requires
luma-v-requires c = fits c.args.self.now.pixels.sized _ _ _ c.min-3.ensures c.row-c.ensures c.loop-x.x c.loop-x-test.true

pub luma-w-requires : goal.luma-w-requires
luma-w-requires c = fits c.args.self.now.pixels.sized _ _ _ c.min-4.ensures c.row-d.ensures c.loop-x.x c.loop-x-test.true

pub loop-x-preserved : goal.loop-x-preserved
unfolding of_four
loop-x-preserved c =
    let at = c.loop-x in
    let p = c.args.self.now.pixels in
    let four =
    filled-four (λ l. luma_at p.picture.channels (of_four c.row-a.result.now c.row-b.result.now c.row-c.result.now c.row-d.result.now l)) at.x c.args.line.now
    c.luma-t.result c.luma-u.result c.luma-v.result c.luma-w.result
    (omega arith) c.luma-t.ensures c.luma-u.ensures c.luma-v.ensures c.luma-w.ensures in
    rw (c.put_four.ensures, at.invariant) four

pub returns : goal.returns
returns c =
    let p = c.args.self.now.pixels in
    let s = p.sized in
    let e : c.loop-x.x ≡ p.picture.width = omega arith in
    (rw e at c.loop-x.invariant)
    ∙ line-found p.picture.width p.picture.height p.picture.channels p.samples.now c.args.g s.wide _ _ _ _ c.args.line.now
    (own s _ _ _ c.min.ensures c.row-a.ensures) (own s _ _ _ c.min-2.ensures c.row-b.ensures) (own s _ _ _ c.min-3.ensures c.row-c.ensures)
    (own s _ _ _ c.min-4.ensures c.row-d.ensures)
