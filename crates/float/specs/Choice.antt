-- The smaller and the larger of two, by the tests that choose: a number equals itself and a NaN doesn't.
use Rattle.std.specs.Prelude.{◌≡◌, Bool, true, false, cond, not, T, refl, Float}
use Rattle.std.proofs.Common.{ap, ◌∙◌, subst}
use Rattle.std.specs.Float.{nan, inf, fin}
use Rattle.std.specs.Float.Ieee.{lt, ne, is_nan}
use Rattle.std.specs.Float.Ieee.Compare.{nan_differs, differs_from_itself}
use Rattle.float.specs.Calls.{smaller, larger}
use Rattle.float.specs.Known.{known, known-not}

pub equals_itself : (x : Float) → ne x x ≡ false → T (not (is_nan x))
unfolding is_nan
equals_itself nan h = absurd (subst (λ (b : Bool). T (not b)) nan_differs (known-not h))
equals_itself (inf s) h = tt
equals_itself (fin s m e) h = tt

of_number : (x y a b : Float) (t : Bool) → T (not (is_nan x)) → cond (is_nan x) y (cond t a b) ≡ cond t a b
unfolding is_nan
of_number nan y a b t h = absurd h
of_number (inf s) y a b t h = refl
of_number (fin s m e) y a b t h = refl

pub least-nan : (x y : Float) → ne x x ≡ true → smaller x y ≡ y
unfolding smaller is_nan
least-nan x y h = ap (λ (z : Float). cond (is_nan z) y (cond (lt y z) y z)) (differs_from_itself x (known h))

pub most-nan : (x y : Float) → ne x x ≡ true → larger x y ≡ y
unfolding larger is_nan
most-nan x y h = ap (λ (z : Float). cond (is_nan z) y (cond (lt z y) y z)) (differs_from_itself x (known h))

pub least-number : (x y : Float) (t : Bool) → ne x x ≡ false → lt y x ≡ t → smaller x y ≡ cond t y x
unfolding smaller
least-number x y t h e = of_number x y y x (lt y x) (equals_itself x h) ∙ ap (λ (b : Bool). cond b y x) e

pub most-number : (x y : Float) (t : Bool) → ne x x ≡ false → lt x y ≡ t → larger x y ≡ cond t y x
unfolding larger
most-number x y t h e = of_number x y y x (lt x y) (equals_itself x h) ∙ ap (λ (b : Bool). cond b y x) e
