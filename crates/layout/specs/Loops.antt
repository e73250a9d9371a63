-- What the two loops over the places keep: the blocks passed have their bits, and the places passed are in the sums.
use Rattle.std.specs.Prelude.{◌≡◌, Bool, List, ℕ, ◌+◌, ◌%◌, ◌≤◌, ◌<◌, ltb, set, replicate, Float}
use Rattle.std.proofs.Math.Path.{refl, sym, ap}
use Rattle.std.proofs.Common.{◌∙◌, inl, inr, add-one, arith}
use Rattle.std.proofs.Math.Bool.{true, false, cond}
use borrow.Author.Tests.{ltb-true, ltb-false, eqb-true, eqb-false, lt-ltb, le-ltb}
use Rattle.std.proofs.Math.Dec.{eqb}
use Rattle.std.proofs.Math.ListN.{length, get_or, length-set}
use Rattle.std.proofs.Math.Seq.{ext_get_or, get_or-set_same, get_or-set_other}
use Rattle.std.specs.Float.{nan, binary32}
use Rattle.std.specs.Float.Ieee.{add}
use Rattle.seq.specs.Tab.{tab-same, tab-replicate, get_or-tab, length-tab}
use Rattle.seq.specs.Lists.{tab}
use Rattle.layout.specs.Layout.{block_of, place_of}
use Rattle.picture.specs.Sizes.{block_count}
use Rattle.layout.specs.Permutation.{layout-undo}
use Rattle.layout.specs.Places.{block_bits, through, gather, gather_f}

-- the bits of the blocks whose places are below j, and 0 in the others
module _ (f : ℕ → ℕ) where
  at : ℕ → ℕ → ℕ
  at j b = cond (ltb (place_of b) j) (f (place_of b)) 0

  unfoldable pub scattered : ℕ → List ℕ
  unfolding at
  scattered j = tab (at j) block_count

  passed : (j b : ℕ) → b ≡ block_of j → j < block_count → at (j + 1) b ≡ f j
  unfolding at
  passed j b e h =
      let p : place_of b ≡ j = ap place_of e ∙ layout-undo.there j h in
      ap (λ (i : ℕ). cond (ltb i (j + 1)) (f i) 0) p ∙ ap (λ (t : Bool). cond t (f j) 0) (lt-ltb j (j + 1) (omega arith))

  elsewhere : (j b : ℕ) → (b ≡ block_of j → ⊥) → b < block_count → at j b ≡ at (j + 1) b
  unfolding at
  elsewhere j b n h = go (ltb (place_of b) j) refl
    where
      apart : place_of b ≡ j → ⊥
      apart e = n (sym (layout-undo.again b h) ∙ ap block_of e)

      go : (t : Bool) → ltb (place_of b) j ≡ t → cond (ltb (place_of b) j) (f (place_of b)) 0 ≡ cond (ltb (place_of b) (j + 1)) (f (place_of b)) 0
      go true e = let l = ltb-true (place_of b) j e in rw (e, lt-ltb (place_of b) (j + 1) (omega arith)) refl
      go false e =
          let l = ltb-false (place_of b) j e in
          let m : j + 1 ≤ place_of b =
          (elim (native.Mathlib.Nat.eq-or-lt_of_le l) [ inl q ↦ absurd (apart (sym q)) | inr q ↦ (let z : j + 1 ≤ place_of b = omega arith in z) ]) in
          rw (e, le-ltb (place_of b) (j + 1) m) refl

  pub scatter-more : (j : ℕ) → j < block_count → set (scattered j) (block_of j) (f j) ≡ scattered (j + 1)
  unfolding scattered
  scatter-more j h = ext_get_or 0 (set (tab (at j) block_count) (block_of j) (f j)) (tab (at (j + 1)) block_count)
      (length-set (tab (at j) block_count) (block_of j) (f j) ∙ length-tab (at j) block_count ∙ sym (length-tab (at (j + 1)) block_count)) same
    where
      same : (b : ℕ) → b < length (set (tab (at j) block_count) (block_of j) (f j))
          → get_or (set (tab (at j) block_count) (block_of j) (f j)) b 0 ≡ get_or (tab (at (j + 1)) block_count) b 0
      same b l =
          let B : b < block_count = omega (arith, length-set (tab (at j) block_count) (block_of j) (f j), length-tab (at j) block_count) in
          go b B (eqb b (block_of j)) refl ∙ sym (get_or-tab (at (j + 1)) block_count b 0 B)
        where
          go : (b : ℕ) → b < block_count → (t : Bool) → eqb b (block_of j) ≡ t → get_or (set (tab (at j) block_count) (block_of j) (f j)) b 0 ≡ at (j + 1) b
          go b B true e =
              let q : b ≡ block_of j = eqb-true b (block_of j) e in
              ap (λ (i : ℕ). get_or (set (tab (at j) block_count) (block_of j) (f j)) i 0) q
              ∙ get_or-set_same (tab (at j) block_count) (block_of j) (f j) 0 (rw (length-tab (at j) block_count) (layout-undo.lo j h))
              ∙ sym (passed j b q h)
          go b B false e =
              let n = eqb-false b (block_of j) e in
              get_or-set_other (tab (at j) block_count) (block_of j) b (f j) 0 n ∙ get_or-tab (at j) block_count b 0 B ∙ elsewhere j b n B

  pub scatter-none : replicate block_count 0 ≡ scattered 0
  unfolding scattered at
  scatter-none = sym (tab-same (at 0) (λ (b : ℕ). 0) block_count (λ b h. ap (λ (t : Bool). cond t (f (place_of b)) 0) (le-ltb (place_of b) 0 (omega arith)))
      ∙ tab-replicate 0 block_count)

  pub scatter-all : scattered block_count ≡ tab (λ b. f (place_of b)) block_count
  unfolding scattered at
  scatter-all = tab-same (at block_count) (λ b. f (place_of b)) block_count
      (λ b h. ap (λ (t : Bool). cond t (f (place_of b)) 0) (lt-ltb (place_of b) block_count (layout-undo.bo b h)))

pub laid-all : (p : ℕ) (coded : List ℕ) → scattered (λ j. get_or coded (j % p) 0) block_count ≡ block_bits p coded
unfolding block_bits
laid-all p coded = scatter-all (λ j. get_or coded (j % p) 0)

-- one place more in the sums
pub gather-more : (p j n : ℕ) (l : ℕ → ℕ) (votes soft : List Float) → j < n → soft ≡ gather_f p j (through l n nan votes)
    → set soft (j % p) (add binary32 (get_or soft (j % p) nan) (get_or votes (l j) nan)) ≡ gather_f p (j + 1) (through l n nan votes)
unfolding gather through
gather-more p j n l votes soft h e =
    rw (e, add-one j)
    (ap (λ (x : Float). set (gather_f p j (tab (λ j. get_or votes (l j) nan) n)) (j % p)
    (add binary32 (get_or (gather_f p j (tab (λ j. get_or votes (l j) nan) n)) (j % p) nan) x)) (sym (get_or-tab (λ j. get_or votes (l j) nan) n j nan h)))
