-- The test decides between the luma and what was lent.
use mathlib.Core.Path.{◌≡◌, sym, ap, ◌∙◌}
use mathlib.Core.Bool.{Bool, true, false, cond}
use mathlib.Core.List.{List}
use Prim.Native.Nat.{ℕ}
use lib.Ieee.{Float}
use lib.ListN.{length}
use Rattle.seq.specs.Lists.{tab}
use Rattle.resample.specs.Samples.{luma_at}
use Rattle.comparison.specs.Stages.{has_luma, luma_into}
use Rattle.comparison.proofs.pictures.vk_luma.Goals as goal

has : (channels : ℕ) (row : List ℕ) (out made : List Float) → has_luma (length row) channels (length out) ≡ true → made ≡ tab (luma_at channels row) (length out)
    → made ≡ luma_into channels row out
unfolding luma_into
has channels row out made e f = f ∙ sym (ap (λ (t : Bool). cond t (tab (luma_at channels row) (length out)) out) e)

has-none : (channels : ℕ) (row : List ℕ) (out : List Float) → has_luma (length row) channels (length out) ≡ false → out ≡ luma_into channels row out
unfolding luma_into
has-none channels row out e = sym (ap (λ (t : Bool). cond t (tab (luma_at channels row) (length out)) out) e)

pub returns-then-done-clause-lent : goal.returns-then-done-clause-lent
returns-then-done-clause-lent c =
    has c.args.channels c.args.row.now c.args.out.now c.luma.new.out (sym c.has_luma-done.ensures ∙ c.if-done.true) c.luma.ensures

pub returns-else-done-clause-lent : goal.returns-else-done-clause-lent
returns-else-done-clause-lent c = has-none c.args.channels c.args.row.now c.args.out.now (sym c.has_luma-done.ensures ∙ c.if-done.false)
