-- Places that lie at blocks: place j at block l j, each block once. Damage is counted, and scores are summed, over the blocks.
use Rattle.std.specs.Prelude.{◌≡◌, List, ℕ, zero, suc, ◌+◌, ◌*◌, ◌%◌, ◌^◌, ◌≤◌, ◌<◌, ◌≤ℤ◌, ℤ, pos, nat_abs, ◌+ℤ◌, Float}
use Rattle.std.proofs.Math.Path.{sym, ap, ap₂, subst}
use Rattle.std.proofs.Common.{◌∙◌, le_of_eq, zero-add, add-zero, arith, inl, inr}
use Rattle.std.proofs.Math.Nat.{le_trans}
use Rattle.std.proofs.Math.ListN.{length, get_or, get_or-eq_default}
use Rattle.std.proofs.Math.IntN.{neg_ℤ, +ℤ_idl, +ℤ_idr}
use Rattle.std.specs.Float.{nan, binary32}
use Rattle.std.specs.Float.Ieee.{low, prec}
use Rattle.float_laws.specs.Values.{Is}
use Rattle.seq.specs.Tab.{tab-same, get_or-tab, length-tab}
use Rattle.seq.specs.Lists.{tab}
use Rattle.correction.specs.Demand3.{Votes, Fate, kept, voted_f, zeroed_count, reversed_count}
use Rattle.seq.specs.Bytes.{Bytes}
use Rattle.correction.specs.Carried.{votes-length}
use Rattle.seq.specs.Sum.{sum_same}
use Rattle.correction.specs.Rearrange.{sum, rearrange}
use Rattle.decoder.specs.Decoder.{voted}
use Rattle.encoder.specs.Ccsds131.{encode_of}
use Rattle.layout.specs.Layout.{Undo}
use Rattle.layout.specs.Places.{through}
use Rattle.correction.specs.Gathered.{placed, votes-at}
use Rattle.correction.specs.Distance.{Potential}
use Rattle.correction.specs.Puncture.{sent}
use Rattle.correction.specs.Corrects.{laid_votes, upto, cost, total-cost, interleave, votes-snoc, lt-or-ge}
use Rattle.correction.specs.General.{Top, sends, read_by, strength_by, score_by, corrects-by, top-by}

mixed : (a b c d : ℕ) → a + b + (c + d) ≡ a + c + (b + d)
mixed a b c d = omega arith

module _ (l back : ℕ → ℕ) (n : ℕ) (u : Undo l back n) where
  pub upto-blocks : (f : ℕ → ℕ) → upto (λ j. f (l j)) n ≡ upto f n
  upto-blocks f =
      rearrange 0 (λ a b. a + b) zero-add add-zero mixed l back n u.lo u.bo u.there u.again f

  -- a word's score over the places is its score over the blocks, of which block l j puts the coded bit j mod p
  pub blocks-score : (p : ℕ) (cs : List ℕ) (bit : ℕ → ℕ) (zs : List ℤ) → ((j : ℕ) → j < n → bit (l j) ≡ get_or cs (j % p) 0)
      → placed p cs (through l n (pos 0) zs) n ≡ sum (pos 0) (λ a b. a +ℤ b) (λ b. voted neg_ℤ (bit b) (get_or zs b (pos 0))) n
  unfolding through
  blocks-score p cs bit zs h =
      sum_same (λ a b. a +ℤ b) (pos 0) (λ j. voted neg_ℤ (get_or cs (j % p) 0) (get_or (through l n (pos 0) zs) j (pos 0)))
      (λ j. voted neg_ℤ (bit (l j)) (get_or zs (l j) (pos 0))) n
      (λ j k. ap₂ (λ (x : ℕ) (y : ℤ). voted neg_ℤ x y) (sym (h j k)) (get_or-tab (λ j. get_or zs (l j) (pos 0)) n j (pos 0) k))
      ∙ rearrange (pos 0) (λ a b. a +ℤ b) +ℤ_idl +ℤ_idr interleave l back n u.lo u.bo u.there u.again (λ b. voted neg_ℤ (bit b) (get_or zs b (pos 0)))

  -- votes of blocks, each the sure vote of the coded bit that it carries after its fate, give the record back
  module _ (k : ℕ → ℕ) (r : ℕ) (some : 0 < sends k r) (φ : ℕ → ℕ → ℕ) (least : ℕ) (K : (i : ℕ) → k i < 2) (P : Potential k φ least) where
    pub corrects-blocks : (xs : List ℕ) (ts : List Fate) (votes : List Float) → length xs ≡ r → Bytes xs → sends k r ≤ n → n ≤ 2 ^ 24
        → zeroed_count ts + 2 * reversed_count ts < least
        → ((j : ℕ) → j < n → get_or votes (l j) nan ≡ voted_f (get_or (sent k 0 (encode_of xs)) (j % sends k r) 0) (get_or ts (l j) kept))
        → read_by k r n (through l n nan votes) ≡ xs
    unfolding through laid_votes
    corrects-blocks xs ts votes e o fits small ok h =
        let p = sends k r in
        let cs = sent k 0 (encode_of xs) in
        let ts' = tab (λ j. get_or ts (l j) kept) n in
        let few : upto (λ j. cost (get_or ts' j kept)) n ≤ zeroed_count ts + 2 * reversed_count ts =
        le_trans (le_of_eq (sum_same (λ a b. a + b) 0 (λ j. cost (get_or ts' j kept)) (λ j. cost (get_or ts (l j) kept)) n
        (λ j q. ap cost (get_or-tab (λ j. get_or ts (l j) kept) n j kept q)) ∙ upto-blocks (λ b. cost (get_or ts b kept)))) (total-cost ts n) in
        let same : tab (λ j. get_or votes (l j) nan) n ≡ tab (λ j. voted_f (get_or cs (j % p) 0) (get_or ts' j kept)) n =
        tab-same (λ j. get_or votes (l j) nan) (λ j. voted_f (get_or cs (j % p) 0) (get_or ts' j kept)) n
        (λ j q. h j q ∙ ap (voted_f (get_or cs (j % p) 0)) (sym (get_or-tab (λ j. get_or ts (l j) kept) n j kept q))) in
        ap (read_by k r n) same ∙ corrects-by k r n some φ least K P xs ts' e o fits small (omega arith)

-- ---- scores over the blocks

-- a word's bit at block b: that of the place that lies there
abbrev pub bit_at : (ℕ → ℕ) → ℕ → List ℕ → ℕ → ℕ
bit_at back p cs b = get_or cs (back b % p) 0

-- the sum of the blocks' votes where a record puts a 0, less the sum where it puts a 1
unfoldable pub block_score : (ℕ → ℕ) → (ℕ → ℕ) → ℕ → ℕ → List ℤ → List ℕ → ℤ
block_score k back r n zs xs = sum (pos 0) (λ a b. a +ℤ b) (λ b. voted neg_ℤ (bit_at back (sends k r) (sent k 0 (encode_of xs)) b) (get_or zs b (pos 0))) n

votes-tab' : (c : ℕ) (f : ℕ → Float) (g : ℕ → ℤ) (n : ℕ) → ((j : ℕ) → j < n → Is c (f j) (g j)) → Votes c (tab f n) (tab g n)
unfolding tab
votes-tab' c f g zero h = Votes.none
votes-tab' c f g (suc n) h = votes-snoc (votes-tab' c f g n (λ j k. h j (omega arith))) (h n (omega arith))

through-small : (l : ℕ → ℕ) (n : ℕ) (zs : List ℤ) (b : ℕ) → ((j : ℕ) → nat_abs (get_or zs j (pos 0)) ≤ b) → (j : ℕ)
    → nat_abs (get_or (through l n (pos 0) zs) j (pos 0)) ≤ b
unfolding through
through-small l n zs b h j =
    let f : ℕ → ℤ = λ j. get_or zs (l j) (pos 0) in
    elim (lt-or-ge j n) [
      | inl q ↦ subst (λ (x : ℤ). nat_abs x ≤ b) (sym (get_or-tab f n j (pos 0) q)) (h (l j))
      | inr q ↦ subst (λ (x : ℤ). nat_abs x ≤ b) (sym (get_or-eq_default (tab f n) (pos 0) (subst (λ (x : ℕ). x ≤ j) (sym (length-tab f n)) q))) (omega arith)
    ]

votes-through : (c : ℕ) (l : ℕ → ℕ) (n : ℕ) (us : List Float) (zs : List ℤ) → ((j : ℕ) → j < n → l j < length zs) → Votes c us zs
    → Votes c (through l n nan us) (through l n (pos 0) zs)
unfolding through
votes-through c l n us zs h v = votes-tab' c (λ j. get_or us (l j) nan) (λ j. get_or zs (l j) (pos 0)) n (λ j k. votes-at (l j) v (h j k))

module _ (l back : ℕ → ℕ) (n : ℕ) (u : Undo l back n) (k : ℕ → ℕ) (r : ℕ) (some : 0 < sends k r) where
  score-blocks : (zs : List ℤ) (xs : List ℕ) → score_by k r n (through l n (pos 0) zs) xs ≡ block_score k back r n zs xs
  unfolding block_score
  score-blocks zs xs =
      blocks-score l back n u (sends k r) (sent k 0 (encode_of xs)) (bit_at back (sends k r) (sent k 0 (encode_of xs))) zs
      (λ j h. ap (λ (x : ℕ). get_or (sent k 0 (encode_of xs)) (x % sends k r) 0) (u.there j h))

  module _ (m b : ℕ) (votes : List Float) (zs : List ℤ) (L : m ≤ low binary32) (B : b * n ≤ 2 ^ prec binary32) (N : length votes ≡ n)
      (v : Votes (2 ^ m) votes zs)
      (h : (j : ℕ) → nat_abs (get_or zs j (pos 0)) ≤ b) where
    us : List Float
    us = through l n nan votes

    ws : List ℤ
    ws = through l n (pos 0) zs

    in-places : Top k m r n ws (read_by k r n us) (strength_by k r n us)
    unfolding us ws
    in-places =
        let N' : n ≡ length zs = sym N ∙ votes-length v in
        top-by k r n some m b us ws L B (unfold through in length-tab (λ j. get_or votes (l j) nan) n)
        (votes-through (2 ^ m) l n votes zs (λ j q. subst (λ (x : ℕ). l j < x) N' (u.lo j q)) v) (through-small l n zs b h)

    -- the metric is the score of the record read, over the blocks
    pub strong-blocks : Is (2 ^ m) (strength_by k r n (through l n nan votes)) (block_score k back r n zs (read_by k r n (through l n nan votes)))
    unfolding us ws
    strong-blocks = subst (λ (x : ℤ). Is (2 ^ m) (strength_by k r n us) x) (score-blocks zs (read_by k r n us)) in-places.strong

    -- and no record scores above it
    pub top-blocks : (ys : List ℕ) → length ys ≡ r → block_score k back r n zs ys ≤ℤ block_score k back r n zs (read_by k r n (through l n nan votes))
    unfolding us ws
    top-blocks ys y =
        subst (λ (x : ℤ). x ≤ℤ block_score k back r n zs (read_by k r n us)) (score-blocks zs ys)
        (subst (λ (x : ℤ). score_by k r n ws ys ≤ℤ x) (score-blocks zs (read_by k r n us)) (in-places.most ys y))
