-- The support of a window is at least 1 and, rounded, at most any whole number that src / dst is at most; and how many numbers a window has.
use Rattle.std.specs.Prelude.{◌≡◌, refl, Bool, true, false, not, cond, ℕ, suc, ◌+◌, ◌-◌, ◌*◌, ◌^◌, ◌≤◌, ◌<◌, ℤ, pos, negsuc, neg_ℤ, nat_abs, ◌+ℤ◌, ◌-ℤ◌, T, ltb, Float}
use Rattle.std.proofs.Common.{sym, ◌∙◌, subst, inl, inr, zero-le, le_refl, le_trans, le_of_eq, zero-lt-suc, mul-one, one-mul, mul-le-mul_right, arith, nltb→le, lit≤, pow_pos}
use Rattle.std.specs.Int.Signed.{lt_z}
use Rattle.std.specs.Float.{nan, inf, fin, Format, binary64}
use Rattle.std.specs.Float.Ieee.{low, round, of_int, add, mul, lt, is_nan, fits}
use Rattle.std.specs.Float.Ieee.Exact.{HasValue}
use Rattle.std.specs.Float.Ieee.Fits.{sub-fits}
use Rattle.std.specs.Float.Ieee.Scale.{grid}
use Rattle.float.specs.Base.{two_to, half}
use Rattle.float.specs.Calls.{larger}
use Rattle.float.specs.Fraction.{lt_at}
use Rattle.float_laws.specs.Exact.{abs_neg}
use Rattle.float_laws.specs.AddError.{size-within}
use Rattle.float_laws.specs.Values.{Within, Holds}
use Rattle.float_laws.specs.Bounds.{holds-whole, round-within}
use Rattle.float.specs.Rounding.{round-shape}
use Rattle.resample_window.specs.Window.{scale_of, center_of, support_of, window_of, numbers}
use Rattle.picture.specs.Sizes.{longest_side}
use Rattle.resample_window.specs.Range.{scale-is, first-within, last_within, span}

-- ---- the support: at least 1, and at most any whole number r that is at least 1 and at least src / dst

-- in units of the format's smallest value
pub record Between (f : Format) (x : Float) (r : ℕ) : Type 0 where
  pub size : ℕ
  pub value : HasValue x false size (2 ^ low f)
  pub least : 2 ^ low f ≤ size
  pub greatest : size ≤ r * 2 ^ low f

pub one-is : (c : ℕ) → HasValue (two_to 0) false c c
one-is c = (refl, one-mul c ∙ sym (mul-one c))

at-least-own : (r u : ℕ) → 1 ≤ r → u ≤ r * u
at-least-own r u h = le_trans (le_of_eq (sym (one-mul u))) (mul-le-mul_right u h)

number : (x : Float) (s : Bool) (a c : ℕ) → HasValue x s a c → is_nan x ≡ false
unfolding is_nan
number nan s a c h = absurd h
number (inf t) s a c h = absurd h
number (fin t m e) s a c h = refl

most-between : (f : Format) (x : Float) (g r : ℕ) → 1 ≤ r → HasValue x false g (2 ^ low f) → g ≤ r * 2 ^ low f → Between f (larger x (two_to 0)) r
unfolding larger
most-between f x g r R v l =
    subst (λ (b : Bool). Between f (cond b (two_to 0) (cond (lt x (two_to 0)) (two_to 0) x)) r) (sym (number x false g (2 ^ low f) v))
    (subst (λ (b : Bool). Between f (cond b (two_to 0) x) r)
    (sym (lt_at x (two_to 0) false false g (2 ^ low f) (2 ^ low f) (pow_pos (low f)) v (one-is (2 ^ low f))))
    (go (ltb g (2 ^ low f)) (nltb→le g (2 ^ low f))))
  where
    go : (b : Bool) → (T (not b) → 2 ^ low f ≤ g) → Between f (cond b (two_to 0) x) r
    go true k = record { size = 2 ^ low f; value = one-is (2 ^ low f); least = le_refl (2 ^ low f); greatest = at-least-own r (2 ^ low f) R }
    go false k = record { size = g; value = v; least = k tt; greatest = l }

round-between : (f : Format) (a c r : ℕ) → 0 < c → 1 ≤ r → Holds f r 1 → a ≤ r * c → Between f (larger (round f false a c) (two_to 0)) r
round-between f a c r C R H h =
    let w : Within (round f false a c) r 1 = round-within f false a c r 1 C (zero-lt-suc 0) H (le_trans (le_of_eq (mul-one a)) h) in
    elim (round-shape f false a c) [
      | inl e ↦ absurd (subst (λ (z : Float). Within z r 1) e w)
      | inr v ↦ most-between f (round f false a c) (grid f a c) r R v
          (size-within f (round f false a c) (pos (grid f a c)) r (record { sign = false; size = grid f a c; value = v; whole = refl }) w)
    ]

pub support-between : (src dst r : ℕ) → src ≤ longest_side → 0 < dst → dst ≤ longest_side → 1 ≤ r → r ≤ longest_side → src ≤ r * dst
    → Between binary64 (support_of src dst) r
unfolding support_of
support-between src dst r B C D R Q h =
    subst (λ (z : Float). Between binary64 (larger z (two_to 0)) r) (sym (scale-is src dst B C D))
    (round-between binary64 src dst r C R (holds-whole binary64 r (le_trans Q (lit≤ tt))) h)

pub center-fits : (src dst i : ℕ) → T (fits binary64 (center_of src dst i))
unfolding center_of
center-fits src dst i = sub-fits binary64 (mul binary64 (add binary64 (of_int binary64 (pos i)) half) (scale_of src dst)) half

-- ---- how many there are

pub nat_abs-add : (a b : ℤ) → nat_abs (a +ℤ b) ≤ nat_abs a + nat_abs b
nat_abs-add (pos a) (pos b) = le_refl (a + b)
nat_abs-add (pos a) (negsuc b) = go (ltb a (suc b))
  where
    go : (t : Bool) → nat_abs (cond t (negsuc (suc b - suc a)) (pos (a - suc b))) ≤ a + suc b
    go true = omega arith
    go false = omega arith
nat_abs-add (negsuc a) (pos b) = go (ltb b (suc a))
  where
    go : (t : Bool) → nat_abs (cond t (negsuc (suc a - suc b)) (pos (b - suc a))) ≤ suc a + b
    go true = omega arith
    go false = omega arith
nat_abs-add (negsuc a) (negsuc b) = omega arith

nat_abs-neg : (a : ℤ) → nat_abs (neg_ℤ a) ≡ nat_abs a
nat_abs-neg (pos a) = abs_neg a
nat_abs-neg (negsuc a) = refl

difference-le : (a b : ℤ) (n : ℕ) → nat_abs a ≤ n → nat_abs b ≤ n → nat_abs (b -ℤ a) ≤ 2 * n
difference-le a b n h k = let l = nat_abs-add b (neg_ℤ a) in let e = nat_abs-neg a in omega arith

numbers-le : (a b : ℤ) (n : ℕ) → nat_abs a ≤ n → nat_abs b ≤ n → numbers a b ≤ 2 * n + 1
unfolding numbers
numbers-le a b n h k = go (lt_z b a)
  where
    go : (t : Bool) → cond t 0 (suc (nat_abs (b -ℤ a))) ≤ 2 * n + 1
    go true = zero-le
    go false = let l = difference-le a b n h k in omega arith

pub numbers-within : (src dst i : ℕ) → numbers (window_of src dst i).first (window_of src dst i).last ≤ 2 * span + 1
numbers-within src dst i = numbers-le (window_of src dst i).first (window_of src dst i).last span (first-within src dst i) (last_within src dst i)

pub window-numbers-small : (src dst i : ℕ) → numbers (window_of src dst i).first (window_of src dst i).last ≤ 2 ^ 31
window-numbers-small src dst i = le_trans (numbers-within src dst i) (lit≤ tt)
