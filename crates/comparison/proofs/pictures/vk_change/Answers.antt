-- The test decides between the samples changed and those lent.
use mathlib.Core.Path.{◌≡◌, sym, ap, ◌∙◌}
use mathlib.Core.Bool.{Bool, true, false, cond}
use mathlib.Core.List.{List}
use Prim.Native.Nat.{ℕ}
use lib.Ieee.{Float}
use lib.ListN.{length}
use Rattle.resample.specs.Samples.{changed_of}
use Rattle.comparison.specs.Stages.{has_change, change_into}
use Rattle.comparison.proofs.pictures.vk_change.Goals as goal

module _ (width height channels : ℕ) (change : List Float) (samples : List ℕ) where
  has : has_change width height channels (length change) (length samples) ≡ true → (made : List ℕ) → made ≡ changed_of width height channels change samples
      → made ≡ change_into width height channels change samples
  unfolding change_into
  has e made f = f ∙ sym (ap (λ (t : Bool). cond t (changed_of width height channels change samples) samples) e)

  has-none : has_change width height channels (length change) (length samples) ≡ false → samples ≡ change_into width height channels change samples
  unfolding change_into
  has-none e = sym (ap (λ (t : Bool). cond t (changed_of width height channels change samples) samples) e)

pub returns-then-done-clause-lent : goal.returns-then-done-clause-lent
returns-then-done-clause-lent c =
    let a = c.args in
    has a.width a.height a.channels a.change.now a.samples.now (sym c.has_change-done.ensures ∙ c.if-done.true) c.change_samples.new.samples c.change_samples.ensures

pub returns-else-done-clause-lent : goal.returns-else-done-clause-lent
returns-else-done-clause-lent c =
    let a = c.args in
    has-none a.width a.height a.channels a.change.now a.samples.now (sym c.has_change-done.ensures ∙ c.if-done.false)
