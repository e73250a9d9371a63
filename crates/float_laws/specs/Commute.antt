-- Multiplication commutes, at every value. Generic over the format.
use Rattle.std.specs.Prelude.{◌≡◌, refl, Bool, true, false, ◌*◌, Float}
use Rattle.std.proofs.Common.{ap, mul_comm}
use Rattle.std.specs.Float.{nan, inf, fin, Format}
use Rattle.std.specs.Float.Ieee.{mul, unlike, up, down}

unlike-comm : (s t : Bool) → unlike s t ≡ unlike t s
unlike-comm true true = refl
unlike-comm true false = refl
unlike-comm false true = refl
unlike-comm false false = refl

pub mul_commutes : (f : Format) (x y : Float) → mul f x y ≡ mul f y x
unfolding mul
mul_commutes f nan nan = refl
mul_commutes f nan (inf t) = refl
mul_commutes f nan (fin t n d) = refl
mul_commutes f (inf s) nan = refl
mul_commutes f (inf s) (inf t) = ap inf (unlike-comm s t)
mul_commutes f (inf s) (fin t n d) = rw (unlike-comm s t)
mul_commutes f (fin s m e) nan = refl
mul_commutes f (fin s m e) (inf t) = rw (unlike-comm s t)
mul_commutes f (fin s m e) (fin t n d) = rw (unlike-comm s t, mul_comm (m * up e) (n * up d), mul_comm (down e) (down d))
