-- Rounding to a multiple of 2 ^ k units by an addition: with M = 2 ^ (prec - 1 + k) units, and 0 <= x < M, the sum x + M has no
-- digit below 2 ^ k units, so it is x rounded to such a multiple, and taking M off again is exact.
-- A unit is the format's smallest value. Generic over the format.
use Rattle.std.specs.Prelude.{◌≡◌, ℕ, suc, ◌+◌, ◌-◌, ◌*◌, ◌/◌, ◌%◌, ◌^◌, ◌<◌, ◌≤◌, Bool, true, false, cond, T, nat_lt, refl, Float}
use Rattle.std.proofs.Common.{sym, ap, ◌∙◌, subst, arith, ltb→lt, lit<, pow-add, pow_pos, pow_mono, shr_lt}
use Prim.Native.Nat.{compare, Ordering}
use native.Mathlib.Nat.{le_trans, le_of_eq, lt_of_lt_of_le, lt_of_le_of_lt, lt_of_not-le, not-le_of_lt, le_antisymm, mul_assoc, mul-pos}
use native.Mathlib.Nat.{mul-le-mul_right, add-mul, mul-div_cancel, add-mul-div_right, add-mul-mod_self_right, two-pow-succ}
use Rattle.std.proofs.Math.Pow.{pow-lt}
use Rattle.std.specs.Float.{Format, binary32, binary64}
use Rattle.std.specs.Float.Ieee.{prec, emax, low, size, nearest, round, sum, add, sub}
use Rattle.std.specs.Float.Ieee.Digits.{size-lt, size-le}
use Rattle.std.specs.Float.Ieee.Fits.{nearest-le}
use Rattle.std.specs.Float.Ieee.Exact.{HasValue, round_exact}
use Rattle.std.specs.Float.Ieee.Nearest.{closest, closest_same}
use Rattle.std.specs.Float.Ieee.Scale.{grid, round_val}
use Rattle.float.specs.Fraction.{add_at, sub_at}

-- ---- the nearest multiple, and the digits of a number

near_add : (w q : ℕ) (o : Ordering) → q % 2 ≡ 0 → nearest (w + q) o ≡ nearest w o + q
near_add w q Ordering.lt h = refl
near_add w q Ordering.eq h = let e : (w + q) % 2 ≡ w % 2 = omega arith in omega arith
near_add w q Ordering.gt h = omega arith

closest-add : (n q b : ℕ) → 0 < b → q % 2 ≡ 0 → closest (n + q * b) b ≡ closest n b + q
closest-add n q b B h =
    ap (λ (z : ℕ). nearest z (compare ((n + q * b) % b * 2) b)) (add-mul-div_right n q B)
    ∙ ap (λ (z : ℕ). nearest (n / b + q) (compare (z * 2) b)) (add-mul-mod_self_right n q b)
    ∙ near_add (n / b) q (compare (n % b * 2) b) h

pub closest-le : (n k p : ℕ) → n < 2 ^ (p + k) → closest n (2 ^ k) ≤ 2 ^ p
closest-le n k p h = le_trans (nearest-le (n / 2 ^ k) (compare (n % 2 ^ k * 2) (2 ^ k))) (shr_lt p k h)

pub size-gt : (n j : ℕ) → 2 ^ j ≤ n → j < size n
size-gt n j h = lt_of_not-le (λ (g : size n ≤ j). not-le_of_lt (lt_of_lt_of_le (size-lt n) (pow_mono g)) h)

size-between : (n j : ℕ) → 2 ^ j ≤ n → n < 2 ^ suc j → size n ≡ suc j
size-between n j h k = le_antisymm (size-le n (suc j) k) (size-gt n j h)

-- ---- the formats' numbers

kept_off : (f : Format) (k : ℕ) → suc (prec f - 1 + k) - prec f ≡ k
kept_off binary32 k = omega arith
kept_off binary64 k = omega arith

even-top : (f : Format) → 2 ^ (prec f - 1) % 2 ≡ 0
even-top binary32 = refl
even-top binary64 = refl

twice-top : (f : Format) → 2 ^ (prec f - 1) + 2 ^ (prec f - 1) ≡ 2 ^ prec f
twice-top binary32 = refl
twice-top binary64 = refl

top-under : (f : Format) → 2 ^ (prec f - 1) < 2 ^ prec f
top-under binary32 = lit< tt
top-under binary64 = lit< tt

-- ---- sums of the two signs

plus : (f : Format) (a b c : ℕ) → sum f false a false b c ≡ round f false (a + b) c
unfolding sum
plus f a b c = refl

pub minus-at-most : (f : Format) (a b c : ℕ) → b ≤ a → sum f false a true b c ≡ round f false (a - b) c
unfolding sum
minus-at-most f a b c h = go (nat_lt a b) (ltb→lt a b)
  where
    go : (t : Bool) → (T t → a < b) → cond t (round f true (b - a) c) (round f false (a - b) c) ≡ round f false (a - b) c
    go true k = absurd (not-le_of_lt (k tt) h)
    go false k = refl

-- ---- the sum with M, and what is left when M is taken off again

module _ (f : Format) (n k : ℕ) (small : n < 2 ^ (prec f - 1 + k)) (room : prec f + k < low f + suc (emax f)) where
  sum-grid : grid f (n + 2 ^ (prec f - 1 + k)) (2 ^ low f) ≡ (closest n (2 ^ k) + 2 ^ (prec f - 1)) * 2 ^ k
  sum-grid =
      let U = 2 ^ low f in
      let M = 2 ^ (prec f - 1 + k) in
      let w = n + M in
      let above : M ≤ w = (let z : M ≤ n + M = omega arith in z) in
      let under : w < 2 ^ suc (prec f - 1 + k) = subst (λ (z : ℕ). w < z) (sym (two-pow-succ (prec f - 1 + k))) (let z : n + M < M + M = omega arith in z) in
      let d : size (w * U / U) - prec f ≡ k =
      ap (λ (z : ℕ). size z - prec f) (mul-div_cancel w (pow_pos (low f)))
      ∙ ap (λ (z : ℕ). z - prec f) (size-between w (prec f - 1 + k) above under)
      ∙ kept_off f k in
      ap (λ (z : ℕ). closest (w * U) (U * 2 ^ z) * 2 ^ z) d
      ∙ ap (λ (z : ℕ). z * 2 ^ k) (closest_same (w * U) (U * 2 ^ k) w (2 ^ k) (mul-pos (pow_pos (low f)) (pow_pos k)) (pow_pos k) (mul_assoc w U (2 ^ k)))
      ∙ ap (λ (z : ℕ). closest (n + z) (2 ^ k) * 2 ^ k) (pow-add 2 (prec f - 1) k)
      ∙ ap (λ (z : ℕ). z * 2 ^ k) (closest-add n (2 ^ (prec f - 1)) (2 ^ k) (pow_pos k) (even-top f))

  no_overflow : (q : ℕ) → q ≤ 2 ^ prec f → q * 2 ^ k < 2 ^ (low f + suc (emax f))
  no_overflow q h = lt_of_le_of_lt (le_trans (mul-le-mul_right (2 ^ k) h) (le_of_eq (sym (pow-add 2 (prec f) k)))) (pow-lt room)

  closest-small : closest n (2 ^ k) ≤ 2 ^ (prec f - 1)
  closest-small = closest-le n k (prec f - 1) small

  sum-value : HasValue (round f false (n + 2 ^ (prec f - 1 + k)) (2 ^ low f)) false ((closest n (2 ^ k) + 2 ^ (prec f - 1)) * 2 ^ k) (2 ^ low f)
  sum-value =
      let q : closest n (2 ^ k) + 2 ^ (prec f - 1) ≤ 2 ^ prec f = (let a = closest-small in let b = twice-top f in omega arith) in
      subst (λ (z : ℕ). HasValue (round f false (n + 2 ^ (prec f - 1 + k)) (2 ^ low f)) false z (2 ^ low f)) sum-grid
      (round_val f (n + 2 ^ (prec f - 1 + k)) (2 ^ low f)
      (subst (λ (z : ℕ). z < 2 ^ (low f + suc (emax f))) (sym sum-grid) (no_overflow (closest n (2 ^ k) + 2 ^ (prec f - 1)) q)))

  -- x is n units, m is M
  pub on-and-off : (x m : Float) → HasValue x false n (2 ^ low f) → HasValue m false (2 ^ (prec f - 1 + k)) (2 ^ low f)
      → HasValue (sub f (add f x m) m) false (closest n (2 ^ k) * 2 ^ k) (2 ^ low f)
  on-and-off x m v w =
      let U = 2 ^ low f in
      let M = 2 ^ (prec f - 1 + k) in
      let q = closest n (2 ^ k) in
      let s = (q + 2 ^ (prec f - 1)) * 2 ^ k in
      let P : 0 < U = pow_pos (low f) in
      let e : s ≡ q * 2 ^ k + M = add-mul q (2 ^ (prec f - 1)) (2 ^ k) ∙ ap (λ (z : ℕ). q * 2 ^ k + z) (sym (pow-add 2 (prec f - 1) k)) in
      let sv : HasValue (add f x m) false s U =
      subst (λ (z : Float). HasValue z false s U) (sym (add_at f x m false false n M U P v w ∙ plus f n M U)) sum-value in
      let b : M ≤ s = (let z : M ≤ s = omega arith in z) in
      let d : s - M ≡ q * 2 ^ k = (let z : s - M ≡ q * 2 ^ k = omega arith in z) in
      let y : sub f (add f x m) m ≡ round f false (q * 2 ^ k) U =
      sub_at f (add f x m) m false false s M U P sv w ∙ minus-at-most f s M U b ∙ ap (λ (z : ℕ). round f false z U) d in
      let Q : q < 2 ^ prec f = lt_of_le_of_lt closest-small (top-under f) in
      subst (λ (z : Float). HasValue z false (q * 2 ^ k) U) (sym y)
      (round_exact f false (q * 2 ^ k) U q k P Q (no_overflow q (native.Mathlib.Nat.le_of_lt Q)) refl)
