-- The error of rounding, in whole numbers: in units of the format's smallest value, `round` moves a fraction n / den by at most
-- half of the 2 ^ drop units that it rounds to. Generic over the format.
use Rattle.std.specs.Prelude.{◌≡◌, Bool, true, false, ℕ, suc, ◌+◌, ◌-◌, ◌*◌, ◌/◌, ◌^◌, ◌≤◌, ◌<◌}
use Rattle.std.proofs.Common.{sym, ap, ◌∙◌, subst, arith, pow_pos, pow_mono}
use native.Mathlib.Nat.{le_trans, le_of_eq, mul_comm, mul_assoc, mul_right_comm, add-mul, mul-pos, div-lt_iff_lt-mul}
use lib.Ieee.{Float, Format, prec, emax, low, round}
use Rattle.std.specs.Float.Ieee.Digits.{size-le}
use Rattle.std.specs.Float.Ieee.Exact.{HasValue}
use Rattle.std.specs.Float.Ieee.Nearest.{closest}
use Rattle.std.specs.Float.Ieee.Order.{drop}
use Rattle.std.specs.Float.Ieee.Scale.{grid, overflow, round_val}
use Rattle.float.specs.Rounding.{neg-round}
use Rattle.float.specs.Fraction.{neg_value}
use Rattle.float.specs.Nearest.{closest-error}

-- ---- of `round`: with n = num * 2 ^ low, the result in units is `grid`, and n / den is the fraction in units

round-error : (f : Format) (num den : ℕ) → 0 < den
    → (grid f num den * den * 2 ≤ num * 2 ^ low f * 2 + den * 2 ^ drop (prec f) (num * 2 ^ low f) den)
    × (num * 2 ^ low f * 2 ≤ grid f num den * den * 2 + den * 2 ^ drop (prec f) (num * 2 ^ low f) den)
round-error f num den D =
    let n = num * 2 ^ low f in
    let k = drop (prec f) n den in
    let u = den * 2 ^ k in
    let h = closest-error n u (mul-pos D (pow_pos k)) in
    let e : closest n u * u ≡ grid f num den * den = ap (λ (z : ℕ). closest n u * z) (mul_comm den (2 ^ k)) ∙ sym (mul_assoc (closest n u) (2 ^ k) den) in
    (subst (λ (z : ℕ). z * 2 ≤ n * 2 + u) e h.0, subst (λ (z : ℕ). n * 2 ≤ z * 2 + u) e h.1)

-- a fraction below 2 ^ j units is rounded to a multiple of at most 2 ^ (j - prec) units
drop_le : (p n den j : ℕ) → 0 < den → n < 2 ^ j * den → drop p n den ≤ j - p
drop_le p n den j D h = fewer (lib.Ieee.size (n / den)) j p (size-le (n / den) j ((div-lt_iff_lt-mul D).1 h))
  where
    fewer : (x y q : ℕ) → x ≤ y → x - q ≤ y - q
    fewer x y q l = omega arith

-- ---- a whole number n of units, below 2 ^ j: what it rounds to, and by how much it moves

pub record Rounded (f : Format) (s : Bool) (n j : ℕ) : Type 0 where
  pub to : ℕ
  pub value : HasValue (round f s n (2 ^ low f)) s to (2 ^ low f)
  pub not_more : to * 2 ≤ n * 2 + 2 ^ (j - prec f)
  pub not_less : n * 2 ≤ to * 2 + 2 ^ (j - prec f)

signed-val : (f : Format) (s : Bool) (a c : ℕ) → grid f a c < overflow f → HasValue (round f s a c) s (grid f a c) (2 ^ low f)
signed-val f false a c h = round_val f a c h
signed-val f true a c h =
    subst (λ (z : Float). HasValue z true (grid f a c) (2 ^ low f)) (neg-round f false a c)
    (neg_value (round f false a c) false (grid f a c) (2 ^ low f) (round_val f a c h))

scaled-le : (g U n u : ℕ) → 0 < U → g * U * 2 ≤ n * U * 2 + U * u → g * 2 ≤ n * 2 + u
scaled-le g U n u P h =
    native.Mathlib.Nat.le_of_mul-le-mul_right
    (le_trans (le_of_eq (mul_right_comm g 2 U))
    (le_trans h (le_of_eq (ap (λ (z : ℕ). z + U * u) (mul_right_comm n U 2) ∙ ap (λ (z : ℕ). n * 2 * U + z) (mul_comm U u) ∙ sym (add-mul (n * 2) u U)))))
    P

-- 2 ^ j < overflow leaves room for the half unit
pub rounded : (f : Format) (s : Bool) (n j : ℕ) → n < 2 ^ j → j < low f + suc (emax f) → Rounded f s n j
rounded f s n j h J =
    let U = 2 ^ low f in
    let P : 0 < U = pow_pos (low f) in
    let g = grid f n U in
    let k = drop (prec f) (n * U) U in
    let K : k ≤ j - prec f = drop_le (prec f) (n * U) U j P (native.Mathlib.Nat.mul-lt-mul_of_pos_right h P) in
    let r = round-error f n U P in
    let m : 2 ^ k ≤ 2 ^ (j - prec f) = pow_mono K in
    let a : g * 2 ≤ n * 2 + 2 ^ k = scaled-le g U n (2 ^ k) P r.0 in
    let b : n * 2 ≤ g * 2 + 2 ^ k = scaled-le n U g (2 ^ k) P r.1 in
    let top : 2 ^ (j - prec f) ≤ 2 ^ j = pow_mono (native.Mathlib.Nat.sub-le j (prec f)) in
    let dbl : 2 ^ j + 2 ^ j ≤ overflow f = le_trans (le_of_eq (sym (native.Mathlib.Nat.two-pow-succ j))) (pow_mono J) in
    record {
      to = g;
      value = signed-val f s n U (let x : g * 2 < (2 ^ j + 2 ^ j) * 2 = omega arith in omega arith);
      not_more = omega arith;
      not_less = omega arith;
    }
