-- The error of an addition, in whole numbers of the format's smallest value: the sum of two values is one rounding of their
-- exact sum, so where that is below 2 ^ j units it is off by at most half of 2 ^ (j - prec).
-- Generic over the format.
use Rattle.std.specs.Prelude.{◌≡◌, refl, Bool, true, false, not, ◌&&◌, cond, ℕ, suc, ◌+◌, ◌-◌, ◌*◌, ◌^◌, ◌≤◌, ◌<◌, ℤ, pos, neg_ℤ, nat_abs, ◌+ℤ◌, ◌-ℤ◌, T, ltb, Float}
use Rattle.std.proofs.Common.{sym, ap, ◌∙◌, subst, le_trans, le_of_eq, mul-one, mul_right_comm, mul-le-mul_right, le_of_mul-le-mul_right, arith, ltb→lt, nltb→le, pow_pos}
use Rattle.std.proofs.Math.IntN.{neg_ℤ-neg_ℤ, neg_ℤ-+ℤ, +ℤ_comm}
use Rattle.std.specs.Float.{nan, inf, fin, Format}
use Rattle.std.specs.Float.Ieee.{prec, emax, low, up, down, round, sum, add}
use Rattle.std.specs.Float.Ieee.Fits.{down_pos}
use Rattle.std.specs.Float.Ieee.Exact.{HasValue}
use Rattle.float.specs.Fraction.{add_at}
use Rattle.float_laws.specs.Values.{Is, signed, Within}
use Rattle.float_laws.specs.Exact.{abs_neg, abs-signed, pos-neg}
use Rattle.float_laws.specs.Error.{rounded}

-- ---- a sum is one rounding of the exact sum

pub record Once (f : Format) (c : ℕ) (x : Float) (z : ℤ) : Type 0 where
  pub sign : Bool
  pub size : ℕ
  pub is : x ≡ round f sign size c
  pub whole : signed sign size ≡ z

sum-once : (f : Format) (s : Bool) (a : ℕ) (t : Bool) (b c : ℕ) → Once f c (sum f s a t b c) (signed s a +ℤ signed t b)
unfolding sum
sum-once f false a false b c = record { sign = false; size = a + b; is = refl; whole = refl }
sum-once f true a true b c = record { sign = true; size = a + b; is = refl; whole = neg_ℤ-+ℤ (pos a) (pos b) }
sum-once f false a true b c = go (ltb a b) (pos-neg a b)
  where
    go : (t : Bool) → pos a +ℤ neg_ℤ (pos b) ≡ cond t (neg_ℤ (pos (b - a))) (pos (a - b))
        → Once f c (cond t (round f true (b - a) c) (round f false (a - b) c)) (pos a +ℤ neg_ℤ (pos b))
    go true e = record { sign = true; size = b - a; is = refl; whole = sym e }
    go false e = record { sign = false; size = a - b; is = refl; whole = sym e }
sum-once f true a false b c = go (ltb a b) (ltb b a) (ltb→lt a b) (ltb→lt b a) (nltb→le a b) (nltb→le b a) (+ℤ_comm (neg_ℤ (pos a)) (pos b) ∙ pos-neg b a)
  where
    go : (t u : Bool) → (T t → a < b) → (T u → b < a) → (T (not t) → b ≤ a) → (T (not u) → a ≤ b)
        → neg_ℤ (pos a) +ℤ pos b ≡ cond u (neg_ℤ (pos (a - b))) (pos (b - a))
        → Once f c (cond t (round f false (b - a) c) (round f (true && u) (a - b) c)) (neg_ℤ (pos a) +ℤ pos b)
    go true true p q p' q' e = absurd (let x : a < b = p tt in let y : b < a = q tt in omega arith)
    go true false p q p' q' e = record { sign = false; size = b - a; is = refl; whole = sym e }
    go false true p q p' q' e = record { sign = true; size = a - b; is = refl; whole = sym e }
    go false false p q p' q' e =
        record {
          sign = false;
          size = a - b;
          is = refl;
          whole =
              ap pos (let x : b ≤ a = p' tt in let y : a ≤ b = q' tt in let k : a - b ≡ b - a = omega arith in k) ∙ sym e;
        }

pub add_once : (f : Format) (c : ℕ) {x y : Float} {z w : ℤ} → 0 < c → Is c x z → Is c y w → Once f c (add f x y) (z +ℤ w)
add_once f c {x} {y} {z} {w} C h k =
    let e : signed h.sign h.size +ℤ signed k.sign k.size ≡ z +ℤ w =
    ap (λ (v : ℤ). v +ℤ signed k.sign k.size) h.whole ∙ ap (λ (v : ℤ). z +ℤ v) k.whole in
    subst (λ (v : Float). Once f c v (z +ℤ w)) (sym (add_at f x y h.sign k.sign h.size k.size c C h.value k.value))
    (subst (λ (v : ℤ). Once f c (sum f h.sign h.size k.sign k.size c) v) e (sum-once f h.sign h.size k.sign k.size c))

-- ---- distances of integers

abbrev pub dist : ℤ → ℤ → ℕ
dist a b = nat_abs (a -ℤ b)

dist-pos : (a b d : ℕ) → a * 2 ≤ b * 2 + d → b * 2 ≤ a * 2 + d → nat_abs (pos a +ℤ neg_ℤ (pos b)) * 2 ≤ d
dist-pos a b d h k = subst (λ (z : ℤ). nat_abs z * 2 ≤ d) (sym (pos-neg a b)) (go (ltb a b))
  where
    go : (t : Bool) → nat_abs (cond t (neg_ℤ (pos (b - a))) (pos (a - b))) * 2 ≤ d
    go true = subst (λ (n : ℕ). n * 2 ≤ d) (sym (abs_neg (b - a))) (omega arith)
    go false = omega arith

dist-signed : (s : Bool) (a b d : ℕ) → a * 2 ≤ b * 2 + d → b * 2 ≤ a * 2 + d → dist (signed s a) (signed s b) * 2 ≤ d
dist-signed false a b d h k = dist-pos a b d h k
dist-signed true a b d h k =
    subst (λ (z : ℤ). nat_abs z * 2 ≤ d) (sym (ap (λ (z : ℤ). neg_ℤ (pos a) +ℤ z) (neg_ℤ-neg_ℤ (pos b)) ∙ +ℤ_comm (neg_ℤ (pos a)) (pos b))) (dist-pos b a d k h)

-- ---- one addition

pub record Near (f : Format) (x : Float) (z : ℤ) (d : ℕ) : Type 0 where
  pub at : ℤ
  pub value : Is (2 ^ low f) x at
  pub off : dist at z * 2 ≤ d

pub add-near : (f : Format) (x y : Float) (z w : ℤ) (j : ℕ) → j < low f + suc (emax f) → Is (2 ^ low f) x z → Is (2 ^ low f) y w → nat_abs (z +ℤ w) < 2 ^ j
    → Near f (add f x y) (z +ℤ w) (2 ^ (j - prec f))
add-near f x y z w j J h k l =
    let U = 2 ^ low f in
    let o = add_once f U (pow_pos (low f)) h k in
    let n : o.size < 2 ^ j = subst (λ (v : ℕ). v < 2 ^ j) (ap nat_abs (sym o.whole) ∙ abs-signed o.sign o.size) l in
    let r = rounded f o.sign o.size j n J in
    record {
      at = signed o.sign r.to;
      value = record { sign = o.sign; size = r.to; value = subst (λ (v : Float). HasValue v o.sign r.to U) (sym o.is) r.value; whole = refl };
      off = subst (λ (v : ℤ). dist (signed o.sign r.to) v * 2 ≤ 2 ^ (j - prec f)) o.whole
          (dist-signed o.sign r.to o.size (2 ^ (j - prec f)) r.not_more r.not_less);
    }

-- ---- a bound on the value bounds the number of units

pub size-within : (f : Format) (x : Float) (z : ℤ) (b : ℕ) → Is (2 ^ low f) x z → Within x b 1 → nat_abs z ≤ b * 2 ^ low f
size-within f x z b h k = subst (λ (n : ℕ). n ≤ b * 2 ^ low f) (sym (ap nat_abs (sym h.whole) ∙ abs-signed h.sign h.size)) (go x h.value k)
  where
    go : (x : Float) → HasValue x h.sign h.size (2 ^ low f) → Within x b 1 → h.size ≤ b * 2 ^ low f
    go nan v l = absurd v
    go (inf s) v l = absurd v
    go (fin s m e) v l =
        le_of_mul-le-mul_right
        (le_trans (le_of_eq (sym v.1))
        (le_trans (mul-le-mul_right (2 ^ low f) (le_trans (le_of_eq (sym (mul-one (m * up e)))) l)) (le_of_eq (mul_right_comm b (down e) (2 ^ low f)))))
        (down_pos e)
