-- The entries of a shuffle are distinct and below len, for every key: an exchange keeps a list so.
use Rattle.std.specs.Prelude.{◌≡◌, ℕ, zero, suc, ◌+◌, ◌-◌, ◌<◌, ◌≤◌, min, Bool, true, false, cond, ◌⊎◌, List, [], length, take, ◌==◌, ◌≢◌, nat_le, slice_index, slice_set}
use Rattle.std.specs.List.{swap}
use Rattle.std.proofs.Math.Path.{refl}
use Rattle.std.proofs.Common.{sym, ◌∙◌, length-take, get_or-set_same, get_or-take}
use Rattle.std.proofs.Math.Logic.{inl, inr}
use Rattle.std.proofs.Math.Decide.{ℕ_discrete}
use native.Mathlib.Omega.{arith}
use borrow.Author.Tests.{eq-eqb, ne_eqb}
use Rattle.std.proofs.Math.ListN.{length-set}
use Rattle.std.proofs.Math.Seq.{get_or-set_other}
use Rattle.std.proofs.lemmas.List.Edits.{swap_is, length-swap}
use Rattle.seq.specs.Tab.{length-tab, get_or-tab}
use Rattle.seq.specs.Lists.{tab}
use Rattle.keystream.specs.declared.KeystreamEnd.{KeystreamEnd}
use Rattle.std.specs.Prelude.{Result, Ok, Err}
use Rattle.shuffle.specs.Shuffle.{drawn, draws_from, made, stream_of, shuffled, longest_shuffle, shuffle_of, PartOf}
use Rattle.shuffle.specs.Draws.{drawn-below}
use Rattle.shuffle.specs.Entries.{made_more, made-end}

-- where the entry at place k stood before the entries i and j were exchanged
module _ (i j : ℕ) where
  abbrev before : ℕ → ℕ
  before k = cond (k == j) i (cond (k == i) j k)

  Cases : ℕ → Type 0
  Cases k = ((k ≡ j) × (before k ≡ i)) ⊎ (((k ≢ j) × (k ≡ i) × (before k ≡ j)) ⊎ ((k ≢ j) × (k ≢ i) × (before k ≡ k)))

  cases : (k : ℕ) → Cases k
  unfolding Cases
  cases k =
      elim (ℕ_discrete k j) [
        | yes e ↦ inl (e, rw (eq-eqb k j e))
        | no n ↦
            elim (ℕ_discrete k i) [
              | yes e ↦ inr (inl (n, e, rw (ne_eqb k j n, eq-eqb k i e)))
              | no m ↦ inr (inr (n, m, rw (ne_eqb k j n, ne_eqb k i m)))
            ]
      ]

  before-once : (a b : ℕ) → before a ≡ before b → a ≡ b
  unfolding Cases
  before-once a b e = go (cases a) (cases b)
    where
      go : Cases a → Cases b → a ≡ b
      go (inl x) (inl y) = omega arith
      go (inl x) (inr (inl y)) = omega arith
      go (inl x) (inr (inr y)) = absurd (y.1 (omega arith))
      go (inr (inl x)) (inl y) = omega arith
      go (inr (inl x)) (inr (inl y)) = omega arith
      go (inr (inl x)) (inr (inr y)) = absurd (y.0 (omega arith))
      go (inr (inr x)) (inl y) = absurd (x.1 (omega arith))
      go (inr (inr x)) (inr (inl y)) = absurd (x.0 (omega arith))
      go (inr (inr x)) (inr (inr y)) = omega arith

  before-below : (n k : ℕ) → i < n → j < n → k < n → before k < n
  before-below n k hi hj hk = go (k == j) (k == i)
    where
      go : (s t : Bool) → cond s i (cond t j k) < n
      go true t = hi
      go false true = hj
      go false false = hk

  module _ (l : List ℕ) (hi : i < length l) (hj : j < length l) where
    length_exchanged : length (swap l i j) ≡ length l
    length_exchanged = length-swap l i j

    get_or-exchanged : (k : ℕ) → slice_index (swap l i j) k ≡ slice_index l (before k)
    unfolding Cases
    get_or-exchanged k = rw (← swap_is l i j 0 hi hj) (go (cases k))
      where
        go : Cases k → slice_index (slice_set (slice_set l i (slice_index l j)) j (slice_index l i)) k ≡ slice_index l (before k)
        go (inl x) = rw (x.1, x.0) (get_or-set_same (slice_set l i (slice_index l j)) j (slice_index l i) 0 (simp length-set hj))
        go (inr (inl x)) = get_or-set_other (slice_set l i (slice_index l j)) j k (slice_index l i) 0 x.0 ∙ rw (x.2, x.1) (get_or-set_same l i (slice_index l j) 0 hi)
        go (inr (inr x)) = get_or-set_other (slice_set l i (slice_index l j)) j k (slice_index l i) 0 x.0 ∙ rw x.2 (get_or-set_other l i k (slice_index l j) 0 x.1)

    exchanged-part : (m : ℕ) → PartOf m l → PartOf m (swap l i j)
    exchanged-part m part = record {
      below = λ k h. rw (get_or-exchanged k) (part.below (before k) (before-below (length l) k hi hj (rw length_exchanged at h)));
      once = λ a b ha hb e.
          before-once a b
          (part.once (before a) (before b) (before-below (length l) a hi hj (rw length_exchanged at ha))
          (before-below (length l) b hi hj (rw length_exchanged at hb))
          (sym (get_or-exchanged a) ∙ (e ∙ get_or-exchanged b)));
    }

take_part : (m i : ℕ) (l : List ℕ) → PartOf m l → PartOf m (take i l)
take_part m i l part = record {
  below = λ k h. rw (get_or-take i l k 0 (in-front k h)) (part.below k (in_list k h));
  once = λ a b ha hb e. part.once a b (in_list a ha) (in_list b hb) (sym (get_or-take i l a 0 (in-front a ha)) ∙ (e ∙ get_or-take i l b 0 (in-front b hb)));
}
  where
    in-front : (k : ℕ) → k < length (take i l) → k < i
    in-front k h = omega (arith, length-take i l)

    in_list : (k : ℕ) → k < length (take i l) → k < length l
    in_list k h = omega (arith, length-take i l)

rising_part : (n : ℕ) → PartOf n (tab (λ k. k) n)
rising_part n = record {
  below = λ k h. let b : k < n = rw length-tab at h in rw (get_or-tab (λ k. k) n k 0 b) b;
  once = λ a b ha hb e. sym (get_or-tab (λ k. k) n a 0 (rw length-tab at ha)) ∙ (e ∙ get_or-tab (λ k. k) n b 0 (rw length-tab at hb));
}

made-part : (stream : ℕ → ℕ) (m n i p : ℕ) (l : List ℕ) → n + i ≤ length l → PartOf m l → PartOf m (made stream n i p l)
unfolding made
made-part stream m zero i p l h part = take_part m i l part
made-part stream m (suc n) i p l h part = go (drawn stream (length l - i) (draws_from p) p) refl (λ q k. made-part stream m n (i + 1) q k)
  where
    go : (d : Result (ℕ × ℕ) KeystreamEnd) → drawn stream (length l - i) (draws_from p) p ≡ d
        → ((q : ℕ) (k : List ℕ) → n + (i + 1) ≤ length k → PartOf m k → PartOf m (made stream n (i + 1) q k)) → PartOf m (made stream (suc n) i p l)
    go (Err d) e again = rw (made-end stream n i p l (suc n) refl e) (take_part m i l part)
    go (Ok (r, q)) e again =
        let hi : i < length l = omega arith in
        let hj : i + r < length l = omega (arith, drawn-below stream (length l - i) (draws_from p) p r q (omega arith) e) in
        rw (made_more stream n i p l (suc n) r q refl e)
        (again q (swap l i (i + r)) (omega (arith, length_exchanged i (i + r) l hi hj)) (exchanged-part i (i + r) l hi hj m part))

pub shuffled-part : (key : List ℕ) (len n : ℕ) → n ≤ len → PartOf len (shuffled key len n)
unfolding shuffled
shuffled-part key len n h = made-part (stream_of key) len n 0 0 (tab (λ k. k) len) (omega (arith, length-tab (λ (k : ℕ). k) len)) (rising_part len)

pub shuffle-part : (key : List ℕ) (len count room : ℕ) → PartOf len (shuffle_of key len count room)
unfolding shuffle_of
shuffle-part key len count room = go (nat_le len longest_shuffle)
  where
    go : (t : Bool) → PartOf len (cond t (shuffled key len (min (min count len) room)) [])
    go true = shuffled-part key len (min (min count len) room) (omega arith)
    go false = record { below = λ k h. absurd (omega arith); once = λ a b ha hb e. absurd (omega arith) }
