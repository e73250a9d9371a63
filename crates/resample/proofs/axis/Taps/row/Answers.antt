-- After x output samples they stand in the first places.
use Rattle.std.proofs.Common.{◌≡◌, ◌<◌, ◌∙◌, ℕ, ap, arith, length, get_or, Float}
use Rattle.std.specs.Float.{nan}
use Rattle.resample.specs.Resampled.{across}
use Rattle.seq.specs.Lists.{tab}
use Rattle.seq.specs.Tab.{filled_none, filled_more, filled-all}
use Rattle.resample.proofs.axis.Taps.row.Goals as goal

pub loop-x-init : goal.loop-x-init
loop-x-init c = filled_none _ _

pub loop-x-preserved : goal.loop-x-preserved
loop-x-preserved c =
    let h : c.loop-x.x < length c.args.out.now = omega arith in
    rw (c.loop-x.invariant, c.value.ensures) (filled_more _ _ _ h)

pub returns : goal.returns
returns c =
    let a = c.args in
    let e : c.loop-x.x ≡ length a.out.now = omega arith in
    let f : ℕ → Float = across a.self.now.src a.self.now.dst (λ k. get_or a.source.now k nan) in
    (rw e at c.loop-x.invariant) ∙ (filled-all f a.out.now ∙ ap (tab f) c.requires.1)
