-- The whole number nearest to a fraction a / b is at most half away.
use Rattle.std.specs.Prelude.{◌≡◌, ℕ, suc, ◌+◌, ◌*◌, ◌/◌, ◌%◌, ◌<◌, ◌≤◌, not, T, ◌==◌}
use Rattle.std.proofs.Common.{◌∙◌, subst, arith, leb→le, eqb→eq}
use Prim.Native.Nat.{compare, Ordering}
use native.Mathlib.Nat.{le_trans, le_of_eq, one-mul, add-mul, mul-le-mul_right, mod-lt, div-add-mod'}
use Rattle.std.proofs.Math.Dec.{is_le, compare_is_eq, nleb→lt, eqb_refl}
use Rattle.std.proofs.Math.Arith.{lt_of_le-ne}
use Rattle.std.specs.Float.Ieee.{nearest}
use Rattle.std.specs.Float.Ieee.Nearest.{closest}

abbrev Cmp : Ordering → ℕ → ℕ → Type 0
Cmp Ordering.lt a b = a < b
Cmp Ordering.eq a b = a ≡ b
Cmp Ordering.gt a b = b < a

cmp : (a b : ℕ) → Cmp (compare a b) a b
cmp a b = go (compare a b) (leb→le a b) (nleb→lt a b) (eqb→eq a b) (λ (e : a ≡ b). subst (λ (x : ℕ). T (a == x)) e (eqb_refl a))
  where
    go : (o : Ordering) → (T (is_le o) → a ≤ b) → (T (not (is_le o)) → b < a) → (T (compare_is_eq o) → a ≡ b) → (a ≡ b → T (compare_is_eq o)) → Cmp o a b
    go Ordering.lt h k e n = lt_of_le-ne (h tt) n
    go Ordering.eq h k e n = e tt
    go Ordering.gt h k e n = k tt

-- at most half away: g * b is a, give or take b / 2
abbrev pub Half : ℕ → ℕ → ℕ → Type 0
Half g a b = (g * b * 2 ≤ a * 2 + b) × (a * 2 ≤ g * b * 2 + b)

tie : (w t b r a : ℕ) → t ≤ 1 → t * b ≤ b → w * b + r ≡ a → r * 2 ≡ b → (w + t) * b ≡ w * b + t * b → Half (w + t) a b
tie w t b r a T1 tb e h s = (omega arith, omega arith)

near : (w r b a : ℕ) (o : Ordering) → w * b + r ≡ a → r < b → Cmp o (r * 2) b → Half (nearest w o) a b
near w r b a Ordering.lt e l h = (omega arith, omega arith)
near w r b a Ordering.eq e l h =
    let t1 : w % 2 ≤ 1 = omega arith in
    tie w (w % 2) b r a t1 (le_trans (mul-le-mul_right b t1) (le_of_eq (one-mul b))) e h (add-mul w (w % 2) b)
near w r b a Ordering.gt e l h = let s : suc w * b ≡ b + w * b = native.Mathlib.Nat.suc-mul w b ∙ native.Mathlib.Nat.add_comm (w * b) b in
    (omega arith, omega arith)

pub closest-error : (a b : ℕ) → 0 < b → Half (closest a b) a b
closest-error a b B = near (a / b) (a % b) b a (compare (a % b * 2) b) (div-add-mod' a b) (mod-lt a B) (cmp (a % b * 2) b)
