-- Sums over the numbers below n in any commutative monoid: exchanged, at one point only, and along a list that undoes another.
use Rattle.std.specs.Prelude.{◌≡◌, Bool, true, false, eqb}
use Rattle.std.proofs.Math.Path.{refl, sym, ap, ap₂}
use Rattle.std.proofs.Common.{◌∙◌, eq-or-lt_of_le, eqb-true, eq-eqb, ne_eqb}
use Rattle.std.proofs.Math.Logic.{inl, inr}
use Prim.Native.Nat.{ℕ, zero, suc, ◌≤◌, ◌<◌}
use native.Mathlib.Omega.{arith}
use Rattle.std.proofs.lemmas.Bool.{eqb-false}
use Rattle.seq.specs.Sum.{sum_same}
use Rattle.seq.specs.Lists.{sum_to}
use Rattle.decoder.specs.Decoder.{pick}

module _ {A : Type 0} (nil : A) (plus : A → A → A) where
  abbrev pub sum : (ℕ → A) → ℕ → A
  sum f n = sum_to plus nil n f

  module _ (idl : (a : A) → plus nil a ≡ a) (idr : (a : A) → plus a nil ≡ a) (mix : (a b c d : A)
      → plus (plus a b) (plus c d) ≡ plus (plus a c) (plus b d)) where
    sum-nil : (n : ℕ) → sum (λ _. nil) n ≡ nil
    unfolding sum_to
    sum-nil zero = refl
    sum-nil (suc n) = idr (sum (λ _. nil) n) ∙ sum-nil n

    sum-plus : (f g : ℕ → A) (n : ℕ) → sum (λ j. plus (f j) (g j)) n ≡ plus (sum f n) (sum g n)
    unfolding sum_to
    sum-plus f g zero = sym (idl nil)
    sum-plus f g (suc n) = ap (λ (x : A). plus x (plus (f n) (g n))) (sum-plus f g n) ∙ mix (sum f n) (sum g n) (f n) (g n)

    exchange : (f : ℕ → ℕ → A) (m n : ℕ) → sum (λ j. sum (λ b. f j b) n) m ≡ sum (λ b. sum (λ j. f j b) m) n
    unfolding sum_to
    exchange f zero n = sym (sum-nil n)
    exchange f (suc m) n = ap (λ (x : A). plus x (sum (λ b. f m b) n)) (exchange f m n) ∙ sym (sum-plus (λ b. sum (λ j. f j b) m) (λ b. f m b) n)

    -- a sum whose terms are nil but at k
    off : (f : ℕ → A) (k n : ℕ) → n ≤ k → sum (λ b. pick (eqb b k) (f b) nil) n ≡ nil
    off f k n h = sum_same plus nil (λ b. pick (eqb b k) (f b) nil) (λ _. nil) n
        (λ j l. ap (λ (t : Bool). pick t (f j) nil) (ne_eqb j k (λ e. omega arith))) ∙ sum-nil n

    point : (f : ℕ → A) (k n : ℕ) → k < n → sum (λ b. pick (eqb b k) (f b) nil) n ≡ f k
    unfolding sum_to
    point f k zero h = absurd (omega arith)
    point f k (suc n) h =
        elim (eq-or-lt_of_le h) [
          | inl e ↦
              let g : n ≡ k = omega arith in
              ap₂ plus (off f k n (omega arith)) (ap (λ (t : Bool). pick t (f n) nil) (eq-eqb n k g)) ∙ idl (f n) ∙ ap f g
          | inr l ↦
              ap₂ plus (point f k n (omega arith)) (ap (λ (t : Bool). pick t (f n) nil) (ne_eqb n k (λ e. omega arith))) ∙ idr (f k)
        ]

    -- where l and back undo each other below n, a sum over l's values is the sum over all
    module _ (l back : ℕ → ℕ) (n : ℕ) (lo : (j : ℕ) → j < n → l j < n) (bo : (b : ℕ) → b < n → back b < n) (there : (j : ℕ) → j < n → back (l j) ≡ j)
        (again : (b : ℕ) → b < n → l (back b) ≡ b) where
      turned : (j b : ℕ) → j < n → b < n → eqb b (l j) ≡ eqb j (back b)
      turned j b J B = go (eqb b (l j)) refl
        where
          go : (t : Bool) → eqb b (l j) ≡ t → eqb b (l j) ≡ eqb j (back b)
          go true e = e ∙ sym (eq-eqb j (back b) (sym (there j J) ∙ ap back (sym (eqb-true b (l j) e))))
          go false e = e ∙ sym (ne_eqb j (back b) (λ q. eqb-false b (l j) e (sym (again b B) ∙ ap l (sym q))))

      pub rearrange : (f : ℕ → A) → sum (λ j. f (l j)) n ≡ sum f n
      rearrange f =
          sum_same plus nil (λ j. f (l j)) (λ j. sum (λ b. pick (eqb b (l j)) (f b) nil) n) n (λ j J. sym (point f (l j) n (lo j J)))
          ∙ exchange (λ j b. pick (eqb b (l j)) (f b) nil) n n
          ∙ sum_same plus nil (λ b. sum (λ j. pick (eqb b (l j)) (f b) nil) n) f n
          (λ b B. sum_same plus nil (λ j. pick (eqb b (l j)) (f b) nil) (λ j. pick (eqb j (back b)) (f b) nil) n
          (λ j J. ap (λ (t : Bool). pick t (f b) nil) (turned j b J B)) ∙ point (λ _. f b) (back b) n (bo b B))
