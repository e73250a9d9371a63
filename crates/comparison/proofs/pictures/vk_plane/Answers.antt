-- The test decides between the plane and what was lent.
use mathlib.Core.Path.{◌≡◌, sym, ap, ◌∙◌}
use mathlib.Core.Bool.{Bool, true, false, cond}
use mathlib.Core.List.{List}
use Prim.Native.Nat.{ℕ}
use lib.Ieee.{Float}
use lib.ListN.{length}
use Rattle.resample.specs.Samples.{plane_of}
use Rattle.comparison.specs.Stages.{has_plane, plane_into}
use Rattle.comparison.proofs.pictures.vk_plane.Goals as goal

module _ (width height channels : ℕ) (samples : List ℕ) (plane : List Float) where
  has : has_plane width height channels (length samples) (length plane) ≡ true → (made : List Float) → made ≡ plane_of width height channels samples
      → made ≡ plane_into width height channels samples plane
  unfolding plane_into
  has e made f = f ∙ sym (ap (λ (t : Bool). cond t (plane_of width height channels samples) plane) e)

  has-none : has_plane width height channels (length samples) (length plane) ≡ false → plane ≡ plane_into width height channels samples plane
  unfolding plane_into
  has-none e = sym (ap (λ (t : Bool). cond t (plane_of width height channels samples) plane) e)

pub returns-then-done-clause-lent : goal.returns-then-done-clause-lent
returns-then-done-clause-lent c =
    let a = c.args in
    has a.width a.height a.channels a.samples.now a.plane.now (sym c.has_plane-done.ensures ∙ c.if-done.true) c.plane.new.plane c.plane.ensures

pub returns-else-done-clause-lent : goal.returns-else-done-clause-lent
returns-else-done-clause-lent c =
    let a = c.args in
    has-none a.width a.height a.channels a.samples.now a.plane.now (sym c.has_plane-done.ensures ∙ c.if-done.false)
