-- After x turns the first x values of each row stand in it.
use Rattle.std.proofs.Common.{◌≡◌, ◌<◌, ◌∙◌, ℕ, List, ap, arith, get_or, Float}
use Rattle.std.specs.Float.{nan}
use Rattle.seq.specs.Tab.{get_or-tab}
use Rattle.resample.specs.Resampled.{across}
use Rattle.resample_four.specs.Four.{lane}
use Rattle.resample_four.specs.Laws.{behind_more, behind-all}
use Rattle.resample_four.proofs.Narrower.across_four.Goals as goal

pub loop-x-preserved : goal.loop-x-preserved
loop-x-preserved c =
    let at = c.loop-x in
    let f : ℕ → ℕ → Float = λ l x. across c.args.self.now.pixels.picture.width 256 (lane c.args.line.now l) x in
    let made = c.values_across in
    let is : (l : ℕ) → l < 4 → get_or made.result l nan ≡ f l at.x =
    λ l h. ap (λ (xs : List Float). get_or xs l nan) made.ensures ∙ get_or-tab (λ l. f l at.x) 4 l nan h in
    let v : ℕ → Float = λ l. get_or made.result l nan in
    rw c.put_four.ensures
    (behind_more nan f at.x at.out (v 0) (v 1) (v 2) (v 3) (omega arith) (at.auto.out ∙ c.requires.1) (is 0 (omega arith)) (is 1 (omega arith))
    (is 2 (omega arith)) (is 3 (omega arith)) at.invariant)

pub returns : goal.returns
returns c =
    let at = c.loop-x in
    let e : at.x ≡ 256 = omega arith in
    behind-all nan (λ l x. across c.args.self.now.pixels.picture.width 256 (lane c.args.line.now l) x) at.out (at.auto.out ∙ c.requires.1) (rw e at at.invariant)
