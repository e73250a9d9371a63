-- A value in units of its format's smallest one, 2 ^ -low: every finite value of the format is a whole number of them. Generic over the format.
use Rattle.std.specs.Prelude.{◌≡◌, ℕ, ◌-◌, ◌*◌, ◌/◌, ◌^◌, ◌≤◌, Bool, ℤ, refl, Float}
use Rattle.std.proofs.Common.{sym, ap, ◌∙◌, subst, mul_assoc, mul-div_cancel, pow-add}
use Rattle.std.specs.Float.{nan, inf, fin, Format}
use Rattle.std.specs.Float.Ieee.{low, up, down}
use Rattle.std.specs.Float.Ieee.Digits.{back}
use Rattle.std.specs.Float.Ieee.Fits.{down_pos}
use Rattle.std.specs.Float.Ieee.Exact.{HasValue}
use Rattle.float.specs.Fraction.{downx, down_is}
use Rattle.float.specs.Rounding.{Held, pow-inj-le}

abbrev pub in_units : Format → Float → ℕ
in_units f nan = 0
in_units f (inf s) = 0
in_units f (fin s m e) = m * up e * 2 ^ low f / down e

pub units_of : (f : Format) (s : Bool) (m : ℕ) (e : ℤ) → Held f m e → HasValue (fin s m e) s (in_units f (fin s m e)) (2 ^ low f)
units_of f s m e h =
    let d = downx e in
    let L : d ≤ low f = pow-inj-le d (low f) (subst (λ (z : ℕ). z ≤ 2 ^ low f) (down_is e) h.lowest) in
    let r = low f - d in
    let spl : 2 ^ low f ≡ 2 ^ r * down e = sym (ap (λ (z : ℕ). 2 ^ z) (back (low f) d L)) ∙ pow-add 2 r d ∙ ap (λ (z : ℕ). 2 ^ r * z) (sym (down_is e)) in
    let w : m * up e * 2 ^ low f ≡ m * up e * 2 ^ r * down e = ap (λ (z : ℕ). m * up e * z) spl ∙ sym (mul_assoc (m * up e) (2 ^ r) (down e)) in
    (refl, w ∙ ap (λ (z : ℕ). z * down e) (sym (ap (λ (z : ℕ). z / down e) w ∙ mul-div_cancel (m * up e * 2 ^ r) (down_pos e))))
