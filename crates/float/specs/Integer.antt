-- A float as an integer, by Rust's saturating `as`: in range, at and beyond the ends, and no number. Generic over the integer's width and the float's format.
use Rattle.std.specs.Prelude.{◌≡◌, ℕ, ◌+◌, ◌-◌, ◌*◌, ◌/◌, ◌%◌, ◌^◌, ◌<◌, ◌≤◌, min, Bool, true, false, not, ◌&&◌, ◌||◌, T, ℤ, pos, neg_ℤ, nat_eq, nat_le, nat_lt, refl, Float}
use Rattle.std.proofs.Common.{sym, ap, ◌∙◌, subst, true≢false, le_trans, le_of_eq, mul-one, one-mul, zero-mul, mul-div_cancel, le-div_iff_mul-le, mul-pos, arith, lt→ltb, le→leb, nltb→le, pow_pos}
use Rattle.std.proofs.Math.Nat.{mul-mod_left}
use Rattle.std.specs.Float.{nan, inf, fin, Format}
use Rattle.std.specs.Float.Ieee.{prec, up, down, lt, le, level, whole, in_unsigned, to_signed, to_unsigned}
use Rattle.std.specs.Float.Ieee.Fits.{down_pos, and_i, eq→eqb}
use Rattle.std.specs.Float.Ieee.Exact.{HasValue}
use Rattle.float.specs.Base.{zero+, two_to, minus_two_to}

-- ---- to a signed integer of h bits and a sign, at and beyond the ends

over : (a h : ℕ) → 2 ^ h ≤ a → min a (2 ^ h - 1) ≡ 2 ^ h - 1
over a h g = omega arith

over-neg : (a h : ℕ) → 2 ^ h ≤ a → min a (2 ^ h) ≡ 2 ^ h
over-neg a h g = omega arith

-- 2 ^ h ≤ a / c, from the fraction's test
reaches : (m : ℕ) (e : ℤ) (h : ℕ) → 1 * 2 ^ h * down e ≤ m * up e * 1 → 2 ^ h ≤ m * up e / down e
reaches m e h g = (le-div_iff_mul-le (down_pos e)).1
    (le_trans (le_of_eq (ap (λ (z : ℕ). z * down e) (sym (one-mul (2 ^ h))))) (le_trans g (le_of_eq (mul-one (m * up e)))))

positive-top : (h : ℕ) (e : ℤ) → 0 < 1 * 2 ^ h * down e
positive-top h e = mul-pos (subst (λ (z : ℕ). 0 < z) (sym (one-mul (2 ^ h))) (pow_pos h)) (down_pos e)

nor-l : (p q : Bool) → T (not (p || q)) → T (not p)
nor-l true q t = t
nor-l false q t = tt

pub too_large : (h : ℕ) (x : Float) → T (not (lt x (two_to h))) → T (lt zero+ x) → to_signed h x ≡ pos (2 ^ h - 1)
unfolding lt to_signed
too_large h nan p q = absurd q
too_large h (inf true) p q = absurd q
too_large h (inf false) p q = refl
too_large h (fin true m e) p q = absurd q
too_large h (fin false m e) p q = ap pos (over (m * up e / down e) h (reaches m e h (nltb→le (m * up e * 1) (1 * 2 ^ h * down e) p)))

pub too_small : (h : ℕ) (x : Float) → T (lt x (two_to h)) → T (not (le (minus_two_to h) x)) → to_signed h x ≡ neg_ℤ (pos (2 ^ h))
unfolding lt le to_signed
too_small h nan p q = absurd p
too_small h (inf true) p q = refl
too_small h (inf false) p q = absurd p
too_small h (fin false m e) p q =
    let z : 1 * 2 ^ h * down e + m * up e * 1 ≤ 0 =
    nltb→le 0 (1 * 2 ^ h * down e + m * up e * 1)
    (nor-l (nat_lt 0 (1 * 2 ^ h * down e + m * up e * 1)) (level true (1 * 2 ^ h * down e) false (m * up e * 1)) q) in
    let w : 0 < 1 * 2 ^ h * down e = positive-top h e in
    absurd (omega arith)
too_small h (fin true m e) p q =
    let z : 1 * 2 ^ h * down e ≤ m * up e * 1 =
    nltb→le (m * up e * 1) (1 * 2 ^ h * down e) (nor-l (nat_lt (m * up e * 1) (1 * 2 ^ h * down e)) (level true (1 * 2 ^ h * down e) true (m * up e * 1)) q) in
    ap (λ (k : ℕ). neg_ℤ (pos k)) (over-neg (m * up e / down e) h (reaches m e h z))

pub neither : (h : ℕ) (x : Float) → T (not (lt x (two_to h))) → T (not (lt zero+ x)) → to_signed h x ≡ pos 0
unfolding lt to_signed
neither h nan p q = refl
neither h (inf true) p q = absurd p
neither h (inf false) p q = absurd q
neither h (fin true m e) p q =
    let z : m * up e * 1 + 1 * 2 ^ h * down e ≤ 0 = nltb→le 0 (m * up e * 1 + 1 * 2 ^ h * down e) p in
    let w : 0 < 1 * 2 ^ h * down e = positive-top h e in
    absurd (omega arith)
neither h (fin false m e) p q =
    let z : 1 * 2 ^ h * down e ≤ m * up e * 1 = nltb→le (m * up e * 1) (1 * 2 ^ h * down e) p in
    let y : m * up e * 1 ≤ 0 * 1 * down e = nltb→le (0 * 1 * down e) (m * up e * 1) q in
    let v : 0 * 1 * down e ≡ 0 = zero-mul (down e) in
    let w : 0 < 1 * 2 ^ h * down e = positive-top h e in
    absurd (omega arith)

-- ---- to an unsigned integer: a whole number in range, and the cast that Rattle defines

pub value-byte : (f : Format) (w : ℕ) (y : Float) (n : ℕ) → HasValue y false n 1 → n < 2 ^ w → n ≤ 2 ^ prec f → T (in_unsigned f w y) × (to_unsigned w y ≡ n)
unfolding in_unsigned whole to_unsigned
value-byte f w nan n v l p = absurd v
value-byte f w (inf t) n v l p = absurd v
value-byte f w (fin true m e) n v l p = absurd (true≢false v.0)
value-byte f w (fin false m e) n v l p =
    let d : m * up e ≡ n * down e = sym (mul-one (m * up e)) ∙ v.1 in
    let q : m * up e / down e ≡ n = ap (λ (z : ℕ). z / down e) d ∙ mul-div_cancel n (down_pos e) in
    let r : m * up e % down e ≡ 0 = ap (λ (z : ℕ). z % down e) d ∙ mul-mod_left n (down e) in
    let A : Bool = nat_eq (m * up e % down e) 0 in
    let B : Bool = nat_le (m * up e / down e) (2 ^ prec f) in (
      and_i (A && B && true) (true && nat_lt (m * up e / down e) (2 ^ w))
          (and_i (A && B) true (and_i A B (eq→eqb r) (le→leb (m * up e / down e) (2 ^ prec f) (subst (λ (z : ℕ). z ≤ 2 ^ prec f) (sym q) p))) tt)
          (lt→ltb (m * up e / down e) (2 ^ w) (subst (λ (z : ℕ). z < 2 ^ w) (sym q) l)),
      ap (λ (z : ℕ). min z (2 ^ w - 1)) q ∙ (let k : min n (2 ^ w - 1) ≡ n = omega arith in k),
    )

-- a whole number of which only the value is known, at or beyond the end
pub value-top : (w : ℕ) (y : Float) (n : ℕ) → HasValue y false n 1 → 2 ^ w - 1 ≤ n → to_unsigned w y ≡ 2 ^ w - 1
unfolding to_unsigned
value-top w nan n v l = absurd v
value-top w (inf t) n v l = absurd v
value-top w (fin true m e) n v l = absurd (true≢false v.0)
value-top w (fin false m e) n v l =
    let q : m * up e / down e ≡ n = ap (λ (z : ℕ). z / down e) (sym (mul-one (m * up e)) ∙ v.1) ∙ mul-div_cancel n (down_pos e) in
    ap (λ (z : ℕ). min z (2 ^ w - 1)) q ∙ (let k : min n (2 ^ w - 1) ≡ 2 ^ w - 1 = omega arith in k)
