-- A value rounded to 0..255: brought into that range first, it is rounded to the same byte.
use Rattle.std.specs.Prelude.{◌≡◌, ℕ, ◌*◌, ◌<◌, ◌≤◌, Bool, true, false, cond, not, T, ℤ, pos, Float}
use Rattle.std.proofs.Math.Path.{refl}
use Rattle.std.proofs.Common.{sym, ap, ◌∙◌, subst, le_trans, lt_of_lt_of_le, lt_of_le_of_lt, mul-one, zero-mul, mul-le-mul_right, le-div_iff_mul-le, mul_assoc, arith, ltb→lt, nltb→le, lit≤, lit<}
use Rattle.std.specs.Float.{nan, inf, fin, binary32}
use Rattle.std.specs.Float.Ieee.{up, down, lt, fits, to_unsigned, in_unsigned, whole}
use Rattle.std.specs.Float.Ieee.Fits.{down_pos}
use Rattle.std.specs.Float.Ieee.Exact.{HasValue}
use Rattle.float.specs.Calls.{round_away, rounded_byte, half_away, clamped, Under}
use Rattle.float.specs.Whole.{half-rule, round_away-value}
use Rattle.float.specs.Integer.{value-byte, value-top}
use Rattle.float.specs.Base.{zero+, natural}
use Rattle.float.specs.Known.{known, known-not}

data Range (x : Float) : Type 0 where
  low : T (not (lt zero+ x)) → clamped x ≡ zero+ → Range x
  mid : T (lt zero+ x) → T (lt x (natural 255)) → clamped x ≡ x → Range x
  high : T (lt zero+ x) → T (not (lt x (natural 255))) → clamped x ≡ natural 255 → Range x

range : (x : Float) → Range x
unfolding clamped lt
range x = go (lt zero+ x) (lt x (natural 255)) refl refl
  where
    go : (p q : Bool) → lt zero+ x ≡ p → lt x (natural 255) ≡ q → Range x
    go false q e g = low (known-not e) (ap (λ (b : Bool). cond (lt (cond b x zero+) (natural 255)) (cond b x zero+) (natural 255)) e)
    go true true e g = mid (known e) (known g)
        (ap (λ (b : Bool). cond (lt (cond b x zero+) (natural 255)) (cond b x zero+) (natural 255)) e ∙ ap (λ (b : Bool). cond b x (natural 255)) g)
    go true false e g = high (known e) (known-not g)
        (ap (λ (b : Bool). cond (lt (cond b x zero+) (natural 255)) (cond b x zero+) (natural 255)) e ∙ ap (λ (b : Bool). cond b x (natural 255)) g)

-- ---- in the range a value is at most 255, and so is the whole number that it is rounded to

record Small (y : Float) : Type 0 where
  pub under : Under 23 y
  pub byte : T (in_unsigned binary32 8 (round_away binary32 y))

below-255 : (a c : ℕ) → a * 1 < 255 * 1 * c → a < 255 * c
below-255 a c h = subst (λ (z : ℕ). z < 255 * c) (mul-one a) (subst (λ (z : ℕ). a * 1 < z * c) (mul-one 255) h)

small-fin : (m : ℕ) (e : ℤ) → T (fits binary32 (fin false m e)) → m * up e < 255 * down e → Small (fin false m e)
small-fin m e t l = record {
  under = (refl, lt_of_lt_of_le l (mul-le-mul_right (down e) (lit≤ tt)));
  byte =
      let b : half_away (m * up e) (down e) ≤ 255 = half-rule.small (m * up e) (down e) 255 (down_pos e) l in
      (value-byte binary32 8 (round_away binary32 (fin false m e)) (half_away (m * up e) (down e)) (round_away-value binary32 false m e t)
      (lt_of_le_of_lt b (lit< tt)) (le_trans b (lit≤ tt))).0;
}

small-mid : (x : Float) → T (fits binary32 x) → T (lt zero+ x) → T (lt x (natural 255)) → Small x
unfolding lt
small-mid nan t p q = absurd p
small-mid (inf true) t p q = absurd p
small-mid (inf false) t p q = absurd q
small-mid (fin true m e) t p q = absurd p
small-mid (fin false m e) t p q = small-fin m e t (below-255 (m * up e) (down e) (ltb→lt (m * up e * 1) (255 * 1 * down e) q))

top_byte : T (in_unsigned binary32 8 (round_away binary32 (natural 255)))
unfolding in_unsigned round_away whole
top_byte = tt

zero-fits : T (fits binary32 zero+)
unfolding fits
zero-fits = tt

clamped-small : (x : Float) → T (fits binary32 x) → Small (clamped x)
clamped-small x t = go (range x)
  where
    go : Range x → Small (clamped x)
    go (low p e) = subst Small (sym e) (small-fin 0 (pos 0) zero-fits (lit< tt))
    go (mid p q e) = subst Small (sym e) (small-mid x t p q)
    go (high p q e) = subst Small (sym e) (record { under = (refl, lit< tt); byte = top_byte })

pub clamped-under : (x : Float) → T (fits binary32 x) → Under 23 (clamped x)
clamped-under x t = (clamped-small x t).under

pub clamped-byte : (x : Float) → T (fits binary32 x) → T (in_unsigned binary32 8 (round_away binary32 (clamped x)))
clamped-byte x t = (clamped-small x t).byte

-- ---- out of the range the byte is its end

negative-value : (w : ℕ) (y : Float) (n : ℕ) → HasValue y true n 1 → to_unsigned w y ≡ 0
unfolding to_unsigned
negative-value w nan n v = absurd v
negative-value w (inf s) n v = absurd v
negative-value w (fin true m e) n v = refl
negative-value w (fin false m e) n v = absurd (mathlib.Core.Bool.false≢true v.0)

low_byte : (x : Float) → T (fits binary32 x) → T (not (lt zero+ x)) → to_unsigned 8 (round_away binary32 x) ≡ 0
unfolding lt to_unsigned
low_byte nan t p = unfold round_away in refl
low_byte (inf true) t p = unfold round_away in refl
low_byte (inf false) t p = absurd p
low_byte (fin true m e) t p = negative-value 8 (round_away binary32 (fin true m e)) (half_away (m * up e) (down e)) (round_away-value binary32 true m e t)
low_byte (fin false m e) t p =
    let l : m * up e * 1 ≤ 0 * 1 * down e = nltb→le (0 * 1 * down e) (m * up e * 1) p in
    let z : 0 * 1 * down e ≡ 0 = zero-mul (down e) in
    let a : m * up e ≡ 0 * down e = (let y : 0 * down e ≡ 0 = zero-mul (down e) in let r : m * up e ≡ 0 * down e = omega arith in r) in
    let h : half_away (m * up e) (down e) ≡ 0 = ap (λ (n : ℕ). half_away n (down e)) a ∙ half-rule.stays 0 (down e) (down_pos e) in
    (value-byte binary32 8 (round_away binary32 (fin false m e)) 0
    (subst (λ (n : ℕ). HasValue (round_away binary32 (fin false m e)) false n 1) h (round_away-value binary32 false m e t)) (lit< tt) (lit≤ tt)).1

high_byte : (x : Float) → T (fits binary32 x) → T (lt zero+ x) → T (not (lt x (natural 255))) → to_unsigned 8 (round_away binary32 x) ≡ 255
unfolding lt to_unsigned
high_byte nan t p q = absurd p
high_byte (inf true) t p q = absurd p
high_byte (inf false) t p q = unfold round_away in refl
high_byte (fin true m e) t p q = absurd p
high_byte (fin false m e) t p q =
    let l : 255 * 1 * down e ≤ m * up e * 1 = nltb→le (m * up e * 1) (255 * 1 * down e) q in
    let d : 255 * 1 * down e ≡ 255 * down e = ap (λ (z : ℕ). z * down e) (mul-one 255) in
    let c : 255 * (down e * 2) ≡ 255 * down e * 2 = sym (mul_assoc 255 (down e) 2) in
    let h : 255 ≤ half_away (m * up e) (down e) = (le-div_iff_mul-le (twice (down e) (down_pos e))).1 (omega arith) in
    value-top 8 (round_away binary32 (fin false m e)) (half_away (m * up e) (down e)) (round_away-value binary32 false m e t) h
  where
    twice : (c : ℕ) → 0 < c → 0 < c * 2
    twice c h = omega arith

zero-byte : to_unsigned 8 (round_away binary32 zero+) ≡ 0
unfolding to_unsigned round_away
zero-byte = refl

full-byte : to_unsigned 8 (round_away binary32 (natural 255)) ≡ 255
unfolding to_unsigned round_away
full-byte = refl

pub clamped-same : (x : Float) → T (fits binary32 x) → to_unsigned 8 (round_away binary32 (clamped x)) ≡ rounded_byte x
unfolding rounded_byte
clamped-same x t = go (range x)
  where
    at : {y : Float} → clamped x ≡ y → to_unsigned 8 (round_away binary32 (clamped x)) ≡ to_unsigned 8 (round_away binary32 y)
    at e = ap (λ (z : Float). to_unsigned 8 (round_away binary32 z)) e

    go : Range x → to_unsigned 8 (round_away binary32 (clamped x)) ≡ to_unsigned 8 (round_away binary32 x)
    go (low p e) = at e ∙ zero-byte ∙ sym (low_byte x t p)
    go (mid p q e) = at e
    go (high p q e) = at e ∙ full-byte ∙ sym (high_byte x t p q)
