-- The sums of the places' votes: each coded bit's sum has exactly its places, two of them for the coded bits 0 to 275 and one
-- for the others. A coded word laid over the blocks gathers to its own signs.
use Rattle.std.specs.Prelude.{◌≡◌, Bool, true, false, List, eqb, pos, length, get_or, set, Float}
use Rattle.std.proofs.Math.Path.{refl, ap}
use Rattle.std.proofs.Common.{sym, ap₂, ◌∙◌, mod-eq_of_lt, add-zero, add-suc, zero-add, arith, eqb-true, eq-eqb, ne_eqb, get_or-set_same, get_or-set_other}
use Rattle.std.proofs.Math.Bool.{cond}
use Prim.Native.Nat.{ℕ, zero, suc, ◌+◌, ◌-◌, ◌%◌, ◌≤◌, ◌<◌}
use Rattle.std.proofs.lemmas.Bool.{eqb-false}
use Rattle.std.proofs.Math.ListN.{length-set, length-replicate, get_or-replicate}
use Rattle.std.specs.Float.{nan, fin, binary32}
use Rattle.std.specs.Float.Ieee.{add}
use Rattle.seq.specs.Tab.{tab-same, get_or-tab}
use Rattle.seq.specs.Lists.{tab}
use Rattle.encoder.specs.Ccsds131.{coded_bits}
use Rattle.layout.specs.Layout.{block_of, place_of}
use Rattle.picture.specs.Sizes.{block_count}
use Rattle.layout.specs.Permutation.{layout-undo}
use Rattle.layout.specs.Places.{block_bits, through, gather, gather_f, gathered, sure}

module _ {A : Type 0} (blank begun : A) (plus : A → A → A) where
  pub gather-length : (p n : ℕ) (us : List A) → length (gather blank begun plus p n us) ≡ p
  unfolding gather
  gather-length p zero us = length-replicate p begun
  gather-length p (suc j) us =
      length-set (gather blank begun plus p j us) (j % p) (plus (get_or (gather blank begun plus p j us) (j % p) blank) (get_or us j blank)) ∙ gather-length p j us

  -- the sum of the votes of coded bit k's places among the first n, in rising j
  unfoldable pub place_sum : ℕ → List A → ℕ → ℕ → A
  place_sum p us k zero = begun
  place_sum p us k (suc j) = cond (eqb (j % p) k) (plus (place_sum p us k j) (get_or us j blank)) (place_sum p us k j)

  -- gathering sums exactly the places of each coded bit
  pub gather-at : (p n : ℕ) (us : List A) (k : ℕ) → k < p → get_or (gather blank begun plus p n us) k blank ≡ place_sum p us k n
  unfolding gather place_sum
  gather-at p zero us k h = get_or-replicate p k begun blank h
  gather-at p (suc j) us k h = go (eqb (j % p) k) refl (gather-at p j us k h)
    where
      v : A
      v = plus (get_or (gather blank begun plus p j us) (j % p) blank) (get_or us j blank)

      go : (t : Bool) → eqb (j % p) k ≡ t → get_or (gather blank begun plus p j us) k blank ≡ place_sum p us k j
          → get_or (set (gather blank begun plus p j us) (j % p) v) k blank
          ≡ cond (eqb (j % p) k) (plus (place_sum p us k j) (get_or us j blank)) (place_sum p us k j)
      go true e i =
          let q : j % p ≡ k = eqb-true (j % p) k e in
          rw (e, q) (get_or-set_same (gather blank begun plus p j us) k (plus (get_or (gather blank begun plus p j us) k blank) (get_or us j blank)) blank
          (rw (gather-length p j us) h) ∙ ap (λ (x : A). plus x (get_or us j blank)) i)
      go false e i = rw e (get_or-set_other (gather blank begun plus p j us) (j % p) k v blank (λ q. eqb-false (j % p) k e (sym q)) ∙ i)

-- ---- the first edition: coded bits 0 to 275 stand in two places, the others in one

module _ {A : Type 0} (blank begun : A) (plus : A → A → A) (us : List A) (k : ℕ) (K : k < coded_bits) where
  S : ℕ → A
  S n = place_sum blank begun plus coded_bits us k n

  skip : (n : ℕ) → (n % coded_bits ≡ k → ⊥) → S (suc n) ≡ S n
  unfolding S place_sum
  skip n h = ap (λ (t : Bool). cond t (plus (S n) (get_or us n blank)) (S n)) (ne_eqb (n % coded_bits) k h)

  take_in : (n : ℕ) → n % coded_bits ≡ k → S (suc n) ≡ plus (S n) (get_or us n blank)
  unfolding S place_sum
  take_in n h = ap (λ (t : Bool). cond t (plus (S n) (get_or us n blank)) (S n)) (eq-eqb (n % coded_bits) k h)

  -- between a bit's places its sum stays
  stay : (a d : ℕ) → ((i : ℕ) → a ≤ i → i < a + d → i % coded_bits ≡ k → ⊥) → S (a + d) ≡ S a
  stay a zero h = ap S (add-zero a)
  stay a (suc d) h = ap S (add-suc a d) ∙ skip (a + d) (h (a + d) (omega arith) (omega arith)) ∙ stay a d (λ i p q. h i p (omega arith))

  to-first : S (suc k) ≡ plus begun (get_or us k blank)
  unfolding S place_sum
  to-first = take_in k (mod-eq_of_lt K) ∙ ap (λ (x : A). plus x (get_or us k blank)) (ap S (sym (zero-add k)) ∙ stay 0 k (λ i p q e. omega arith))

  once : 276 ≤ k → S block_count ≡ plus begun (get_or us k blank)
  once h = ap S (let e : block_count ≡ suc k + (1023 - k) = omega arith in e) ∙ stay (suc k) (1023 - k) (λ i p q e. omega arith) ∙ to-first

  twice : k < 276 → S block_count ≡ plus (plus begun (get_or us k blank)) (get_or us (k + coded_bits) blank)
  twice h =
      ap S (let e : block_count ≡ suc (k + coded_bits) + (275 - k) = omega arith in e)
      ∙ stay (suc (k + coded_bits)) (275 - k) (λ i p q e. omega arith)
      ∙ take_in (k + coded_bits) (let e : (k + coded_bits) % coded_bits ≡ k = omega arith in e)
      ∙ ap (λ (x : A). plus x (get_or us (k + coded_bits) blank))
      (ap S (let e : k + coded_bits ≡ suc k + 747 = omega arith in e) ∙ stay (suc k) 747 (λ i p q e. omega arith) ∙ to-first)

  pub gather-once : 276 ≤ k → get_or (gather blank begun plus coded_bits block_count us) k blank ≡ plus begun (get_or us k blank)
  unfolding S
  gather-once h = gather-at blank begun plus coded_bits block_count us k K ∙ once h

  pub gather-twice : k < 276
      → get_or (gather blank begun plus coded_bits block_count us) k blank ≡ plus (plus begun (get_or us k blank)) (get_or us (k + coded_bits) blank)
  unfolding S
  gather-twice h = gather-at blank begun plus coded_bits block_count us k K ∙ twice h

-- ---- a coded word laid over the places, a vote of +1 for a 0 and -1 for a 1, gathers to its own signs

abbrev pub sure_twice : ℕ → Float
sure_twice zero = fin false 1 (pos 1)
sure_twice (suc c) = fin true 1 (pos 1)

from-none : (c : ℕ) → add binary32 (fin false 0 (pos 0)) (sure c) ≡ sure c
unfolding add
from-none zero = refl
from-none (suc c) = refl

one_more : (c : ℕ) → add binary32 (sure c) (sure c) ≡ sure_twice c
unfolding add
one_more zero = refl
one_more (suc c) = refl

abbrev pub sure_places : List ℕ → List Float
sure_places cs = tab (λ j. sure (get_or cs (j % coded_bits) 0)) block_count

module _ (cs : List ℕ) (k : ℕ) (K : k < coded_bits) where
  sure-at : (j : ℕ) → j < block_count → j % coded_bits ≡ k → get_or (sure_places cs) j nan ≡ sure (get_or cs k 0)
  sure-at j h e = get_or-tab (λ j. sure (get_or cs (j % coded_bits) 0)) block_count j nan h ∙ ap (λ (i : ℕ). sure (get_or cs i 0)) e

  sure-once : 276 ≤ k → get_or (gather_f coded_bits block_count (sure_places cs)) k nan ≡ sure (get_or cs k 0)
  sure-once h =
      gather-once nan (fin false 0 (pos 0)) (add binary32) (sure_places cs) k K h
      ∙ ap (add binary32 (fin false 0 (pos 0))) (sure-at k (omega arith) (mod-eq_of_lt K))
      ∙ from-none (get_or cs k 0)

  sure-twice : k < 276 → get_or (gather_f coded_bits block_count (sure_places cs)) k nan ≡ sure_twice (get_or cs k 0)
  sure-twice h =
      gather-twice nan (fin false 0 (pos 0)) (add binary32) (sure_places cs) k K h
      ∙ ap₂ (λ (x y : Float). add binary32 (add binary32 (fin false 0 (pos 0)) x) y) (sure-at k (omega arith) (mod-eq_of_lt K))
      (sure-at (k + coded_bits) (omega arith) (let e : (k + coded_bits) % coded_bits ≡ k = omega arith in e))
      ∙ ap (λ (x : Float). add binary32 x (sure (get_or cs k 0))) (from-none (get_or cs k 0))
      ∙ one_more (get_or cs k 0)

-- laid over the blocks and read in the order of the places
abbrev pub sure_blocks : List ℕ → List Float
sure_blocks cs = tab (λ b. sure (get_or (block_bits coded_bits cs) b 0)) block_count

pub laid_through : (cs : List ℕ) → through block_of block_count nan (sure_blocks cs) ≡ sure_places cs
unfolding through block_bits
laid_through cs =
    tab-same _ _ block_count
    (λ j h.
    get_or-tab (λ b. sure (get_or (block_bits coded_bits cs) b 0)) block_count (block_of j) nan (layout-undo.lo j h)
    ∙ ap sure (get_or-tab (λ b. get_or cs (place_of b % coded_bits) 0) block_count (block_of j) 0 (layout-undo.lo j h)
    ∙ ap (λ (i : ℕ). get_or cs (i % coded_bits) 0) (layout-undo.there j h)))

pub laid-once : (cs : List ℕ) (k : ℕ) → k < coded_bits → 276 ≤ k → get_or (gathered coded_bits (sure_blocks cs)) k nan ≡ sure (get_or cs k 0)
unfolding gathered
laid-once cs k K h = ap (λ (us : List Float). get_or (gather_f coded_bits block_count us) k nan) (laid_through cs) ∙ sure-once cs k K h

pub laid-twice : (cs : List ℕ) (k : ℕ) → k < coded_bits → k < 276 → get_or (gathered coded_bits (sure_blocks cs)) k nan ≡ sure_twice (get_or cs k 0)
unfolding gathered
laid-twice cs k K h = ap (λ (us : List Float). get_or (gather_f coded_bits block_count us) k nan) (laid_through cs) ∙ sure-twice cs k K h
