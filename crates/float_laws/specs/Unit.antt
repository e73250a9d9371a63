-- The test for a number from -1 to 1 says that the value is within 1.
use Rattle.std.specs.Prelude.{◌≡◌, refl, Bool, true, false, ◌&&◌, ◌||◌, cond, ℕ, ◌+◌, ◌*◌, ◌≤◌, ℤ, T, ltb, eqb, Float}
use Rattle.std.proofs.Common.{sym, inl, inr, le_of_lt, le_of_eq, eq-or-lt_of_le, arith, ltb→lt, lt→ltb, eqb→eq}
use Rattle.std.specs.Float.{nan, inf, fin}
use Rattle.std.specs.Float.Ieee.{up, down, le, level}
use Rattle.std.specs.Float.Ieee.Fits.{down_pos, and_i, and_l, and_r, eq→eqb}
use Rattle.float.specs.Fraction.{or_split, or_l, or_r}
use Rattle.float.specs.Calls.{in_unit}
use Rattle.float_laws.specs.Values.{Within}
use Rattle.float.specs.Base.{two_to, minus_two_to}
use Rattle.float.specs.Known.{known}

-- the order of two sizes, as the comparison of two values of one sign has it
at-most→ : (s : Bool) (a b : ℕ) → T (ltb a b || (eqb (cond s b a) (cond s a b) && true)) → a ≤ b
at-most→ s a b t = elim
    (or_split (ltb a b) (eqb (cond s b a) (cond s a b) && true) t)
    [ inl u ↦ le_of_lt (ltb→lt a b u) | inr u ↦ same s (eqb→eq (cond s b a) (cond s a b) (and_l (eqb (cond s b a) (cond s a b)) true u)) ]
  where
    same : (s : Bool) → cond s b a ≡ cond s a b → a ≤ b
    same true e = le_of_eq (sym e)
    same false e = le_of_eq e

→at-most : (s : Bool) (a b : ℕ) → a ≤ b → T (ltb a b || (eqb (cond s b a) (cond s a b) && true))
→at-most s a b h =
    elim (eq-or-lt_of_le h) [
      | inl e ↦ or_r (ltb a b) (eqb (cond s b a) (cond s a b) && true) (and_i (eqb (cond s b a) (cond s a b)) true (eq→eqb (same s e)) tt)
      | inr l ↦ or_l (ltb a b) (eqb (cond s b a) (cond s a b) && true) (lt→ltb a b l)
    ]
  where
    same : (s : Bool) → a ≡ b → cond s b a ≡ cond s a b
    same true e = sym e
    same false e = e

pub unit-within : (x : Float) → in_unit x ≡ true → Within x 1 1
unfolding in_unit le
unit-within x h = go x (known h)
  where
    go : (x : Float) → T (in_unit x) → Within x 1 1
    go nan t = absurd t
    go (inf true) t = absurd t
    go (inf false) t = absurd t
    go (fin false m e) t = at-most→ false (m * up e * 1) (1 * 1 * down e) (and_r (le (minus_two_to 0) (fin false m e)) (le (fin false m e) (two_to 0)) t)
    go (fin true m e) t = at-most→ true (m * up e * 1) (1 * 1 * down e) (and_l (le (minus_two_to 0) (fin true m e)) (le (fin true m e) (two_to 0)) t)

above_minus_one : (m : ℕ) (e : ℤ) → T (le (minus_two_to 0) (fin false m e))
unfolding le
above_minus_one m e =
    or_l (ltb 0 (1 * 1 * down e + m * up e * 1)) (level true (1 * 1 * down e) false (m * up e * 1))
    (lt→ltb 0 (1 * 1 * down e + m * up e * 1) (let d = down_pos e in omega arith))

below_one : (m : ℕ) (e : ℤ) → T (le (fin true m e) (two_to 0))
unfolding le
below_one m e =
    or_l (ltb 0 (m * up e * 1 + 1 * 1 * down e)) (level true (m * up e * 1) false (1 * 1 * down e))
    (lt→ltb 0 (m * up e * 1 + 1 * 1 * down e) (let d = down_pos e in omega arith))

pub within-unit : (x : Float) → Within x 1 1 → in_unit x ≡ true
unfolding in_unit le
within-unit x h = true_of (le (minus_two_to 0) x && le x (two_to 0)) (go x h)
  where
    true_of : (b : Bool) → T b → b ≡ true
    true_of true t = refl
    true_of false t = absurd t

    go : (x : Float) → Within x 1 1 → T (le (minus_two_to 0) x && le x (two_to 0))
    go nan w = absurd w
    go (inf s) w = absurd w
    go (fin false m e) w =
        and_i (le (minus_two_to 0) (fin false m e)) (le (fin false m e) (two_to 0)) (above_minus_one m e) (→at-most false (m * up e * 1) (1 * 1 * down e) w)
    go (fin true m e) w =
        and_i (le (minus_two_to 0) (fin true m e)) (le (fin true m e) (two_to 0)) (→at-most true (m * up e * 1) (1 * 1 * down e) w) (below_one m e)
