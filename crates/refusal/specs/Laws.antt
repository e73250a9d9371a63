-- What an answer tells: a refusal gives nothing, and where the first of two answers gives () both do.
use Rattle.std.specs.Prelude.{◌≡◌, refl, Result, Ok, Err}
use Rattle.refusal.specs.declared.Refusal.{Refusal}
use Rattle.refusal.specs.Numbers.{first}

pub refused-not-done : {A : Type 0} (r : Refusal) (x : A) → Err r ≡ Ok x → ⊥
refused-not-done r x e = cc

pub first_done : (a b : Result (Unit {0}) Refusal) → first a b ≡ Ok tt → (a ≡ Ok tt) × (b ≡ Ok tt)
first_done (Ok tt) b e = (refl, e)
first_done (Err r) b e = absurd (refused-not-done r tt e)

pub first_ok : {A B : Type 0} (a : Result A Refusal) (b : Result B Refusal) (y : B) → first a b ≡ Ok y → b ≡ Ok y
first_ok (Ok x) b y e = e
first_ok (Err r) b y e = absurd (refused-not-done r y e)
