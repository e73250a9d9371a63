-- A list made by a function of the place, and a list whose first places are made so.
use Rattle.std.specs.Prelude.{◌≡◌, take, replicate}
use Rattle.std.proofs.Math.Path.{refl, sym, ap, ap₂}
use Rattle.std.proofs.Common.{◌∙◌, eq-or-lt_of_le, add-zero, add-suc, take_all, ext_get_or}
use Rattle.std.proofs.Math.Logic.{inl, inr}
use mathlib.Core.List.{List, [], ◌∷◌, ◌++◌, append_assoc, append-nil}
use Prim.Native.Nat.{ℕ, zero, suc, ◌+◌, ◌<◌}
use Rattle.std.proofs.Math.Numerals.{add-one}
use native.Mathlib.Omega.{arith}
use Rattle.std.proofs.Math.ListN.{length, drop, set, get_or, length-append, get_or-append}
use Rattle.std.proofs.Math.Seq.{drop-cons, drop-length, take-suc-set}
use Rattle.std.proofs.lemmas.List.{set_at, get_or_at}
use Rattle.seq.specs.Lists.{tab, filled}

module _ {A : Type 0} where
  pub length-tab : (f : ℕ → A) (n : ℕ) → length (tab f n) ≡ n
  unfolding tab
  length-tab f zero = refl
  length-tab f (suc n) = let h : length (tab f n) ≡ n = length-tab f n in omega (arith, length-append (tab f n) (f n ∷ []))

  pub get_or-tab : (f : ℕ → A) (n k : ℕ) (d : A) → k < n → get_or (tab f n) k d ≡ f k
  unfolding tab
  get_or-tab f zero k d h = absurd (omega arith)
  get_or-tab f (suc n) k d h =
      elim (eq-or-lt_of_le h) [
        | inl e ↦ (let g : k ≡ n = omega arith in rw g (get_or_at (tab f n) (f n) [] d n (length-tab f n)))
        | inr l ↦
            let g : k < n = omega arith in
            let g' : k < length (tab f n) = omega (arith, length-tab f n) in
            get_or-append (tab f n) (f n ∷ []) d k g' ∙ get_or-tab f n k d g
      ]

  pub tab-front : (f : ℕ → A) (n : ℕ) → tab f (suc n) ≡ f 0 ∷ tab (λ i. f (suc i)) n
  unfolding tab
  tab-front f zero = refl
  tab-front f (suc n) = ap (λ (xs : List A). xs ++ (f (suc n) ∷ [])) (tab-front f n)

  pub tab-same : (f g : ℕ → A) (n : ℕ) → ((i : ℕ) → i < n → f i ≡ g i) → tab f n ≡ tab g n
  unfolding tab
  tab-same f g zero h = refl
  tab-same f g (suc n) h = ap₂ (λ (xs : List A) (x : A). xs ++ (x ∷ [])) (tab-same f g n (λ i k. h i (omega arith))) (h n (omega arith))

  pub tab-append : (f : ℕ → A) (n m : ℕ) → tab f (n + m) ≡ tab f n ++ tab (λ k. f (n + k)) m
  unfolding tab
  tab-append f n zero = ap (tab f) (add-zero n) ∙ sym (append-nil (tab f n))
  tab-append f n (suc m) = rw (add-suc, tab-append f n m) (append_assoc (tab f n) (tab (λ k. f (n + k)) m) (f (n + m) ∷ []))

  -- a list is the table of its places
  pub tab-get_or : (xs : List A) (z : A) → tab (λ k. get_or xs k z) (length xs) ≡ xs
  tab-get_or xs z =
      ext_get_or z (tab (λ k. get_or xs k z) (length xs)) xs (length-tab _ _)
      (λ i h. get_or-tab (λ k. get_or xs k z) (length xs) i z (rw length-tab at h))

  pub tab-replicate : (a : A) (n : ℕ) → tab (λ (i : ℕ). a) n ≡ replicate n a
  unfolding tab
  tab-replicate a zero = refl
  tab-replicate a (suc n) = tab-front (λ (i : ℕ). a) n ∙ ap (λ (xs : List A). a ∷ xs) (tab-replicate a n)

  -- a list whose first n places are made by f: one place more, and all of them
  pub prefix-more : (f : ℕ → A) (n : ℕ) (v : A) (xs : List A) → n < length xs → v ≡ f n → take n xs ≡ tab f n → take (n + 1) (set xs n v) ≡ tab f (n + 1)
  unfolding tab
  prefix-more f n v xs h e p = rw (add-one, take-suc-set xs n v h, p, e) refl

  pub prefix-all : (f : ℕ → A) (n : ℕ) (xs : List A) → length xs ≡ n → take n xs ≡ tab f n → xs ≡ tab f n
  prefix-all f n xs l p = sym (take_all n xs (omega arith)) ∙ p

  pub filled_none : (f : ℕ → A) (d : List A) → d ≡ filled f 0 d
  unfolding filled tab
  filled_none f d = refl

  pub filled_more : (f : ℕ → A) (n : ℕ) (d : List A) → n < length d → set (filled f n d) n (f n) ≡ filled f (n + 1) d
  unfolding filled tab
  filled_more f n d h =
      let rest = drop (suc n) d in
      let cut : drop n d ≡ get_or d n (f n) ∷ rest = drop-cons d n (f n) h in
      let left : set (tab f n ++ drop n d) n (f n) ≡ tab f n ++ (f n ∷ rest) = rw cut (set_at (tab f n) (get_or d n (f n)) rest (f n) n (length-tab f n)) in
      let right : tab f (suc n) ++ rest ≡ tab f n ++ (f n ∷ rest) = simp append_assoc in
      left ∙ sym (rw add-one right)

  pub filled-all : (f : ℕ → A) (d : List A) → filled f (length d) d ≡ tab f (length d)
  unfolding filled
  filled-all f d = rw drop-length (append-nil (tab f (length d)))

  pub filled-replicate : (a : A) (d : List A) → filled (λ (i : ℕ). a) (length d) d ≡ replicate (length d) a
  filled-replicate a d = filled-all (λ (i : ℕ). a) d ∙ tab-replicate a (length d)
