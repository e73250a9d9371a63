-- A table's rule, at each of its entries, from one test that is computed over the whole table.
use Rattle.std.proofs.Common.{◌∙◌, subst, sym, add-zero, zero-add, add-suc, suc-add, le_of_suc-le-suc, not-suc-le-zero}
use Rattle.std.specs.Prelude.{Bool, true, false, List, [], ◌∷◌, ℕ, zero, suc, ◌+◌, ◌<◌, T, length, get_or}

abbrev both : Bool → Bool → Bool
both true b = b
both false b = false

both_left : (a b : Bool) → T (both a b) → T a
both_left true b t = tt
both_left false b t = t

both_right : (a b : Bool) → T (both a b) → T b
both_right true b t = t
both_right false b t = absurd t

module _ {A : Type 0} (rule : ℕ → A → Bool) where
  -- the rule holds at each entry and its place, counted from i
  abbrev pub every : ℕ → List A → Bool
  every i [] = true
  every i (x ∷ xs) = both (rule i x) (every (suc i) xs)

  from : (xs : List A) (z : A) (i : ℕ) → T (every i xs) → (k : ℕ) → k < length xs → T (rule (i + k) (get_or xs k z))
  from [] z i t k h = absurd (not-suc-le-zero h)
  from (x ∷ xs) z i t zero h = subst (λ (m : ℕ). T (rule m x)) (sym (add-zero i)) (both_left (rule i x) (every (suc i) xs) t)
  from (x ∷ xs) z i t (suc k) h =
      subst (λ (m : ℕ). T (rule m (get_or xs k z))) (suc-add i k ∙ sym (add-suc i k))
      (from xs z (suc i) (both_right (rule i x) (every (suc i) xs) t) k (le_of_suc-le-suc h))

  pub at : (xs : List A) (z : A) → T (every 0 xs) → (k : ℕ) → k < length xs → T (rule k (get_or xs k z))
  at xs z t k h = subst (λ (m : ℕ). T (rule m (get_or xs k z))) (zero-add k) (from xs z 0 t k h)
