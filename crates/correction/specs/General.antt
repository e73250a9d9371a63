-- Of places' votes that are whole multiples of 1 / 2 ^ l: no record scores above the one decoded, and the metric with which state 0 ends is its score.
-- Over any pattern of coded bits sent, any length of record and any number of places.
use Rattle.std.specs.Prelude.{◌≡◌, refl, ◌⊎◌, ℕ, ◌+◌, ◌*◌, ◌^◌, ◌≤◌, ◌<◌, get_or, replicate, ℤ, pos, nat_abs, ◌≤ℤ◌, Float}
use Rattle.std.proofs.Math.Path.{sym, ap, subst}
use Rattle.std.proofs.Common.{ap₂, ◌∙◌, inl, inr, le_trans, le_of_eq, lit<}
use Rattle.std.proofs.Math.Bool.{false}
use mathlib.Core.List.{List}
use native.Mathlib.Omega.{arith}
use Rattle.std.proofs.Math.ListN.{length}
use Rattle.std.proofs.lemmas.List.{length-replicate}
use Rattle.std.specs.Float.{nan, fin, binary32}
use Rattle.std.specs.Float.Ieee.{prec, low, add}
use Rattle.float_laws.specs.Values.{Is}
use Rattle.decoder.specs.Decoder.{floats, decoded, strength, bytes_of}
use Rattle.encoder.specs.Ccsds131.{code, record_bits, six_zeros, encode_of}
use Rattle.encoder.specs.Bits.{record_bits-length, record_bits-bits, six-bits}
use Rattle.correction.specs.Demand3.{Votes, hamming, Fate, kept}
use Rattle.seq.specs.Bytes.{Bytes}
use Rattle.correction.specs.RecordBits.{bytes_of-record_bits, code-length, record-home, record_bits-bytes_of}
use Rattle.correction.specs.Best.{score}
use Rattle.correction.specs.Carried.{votes-length, decoded-best}
use Rattle.layout.specs.Places.{gather_f}
use Rattle.layout.specs.Sums.{gather-length}
use Rattle.correction.specs.Gathered.{gather_z, placed, regroup, gather-sizes, gather-votes}
use Rattle.correction.specs.Distance.{Potential, split}
use Rattle.correction.specs.Puncture.{sent, fill, fill-length, sent-all, fill-all, sent-length, fill-score, fill-sizes, fill-votes, sent-apart}
use Rattle.correction.specs.Corrects.{laid_votes, upto, cost, undone-by}

-- the coded bits of r bytes, and how many of them the pattern k sends
abbrev pub coded : ℕ → ℕ
coded r = 16 * r + 12

unfoldable pub sends : (ℕ → ℕ) → ℕ → ℕ
sends k r = length {A = ℕ} (sent k 0 (replicate (coded r) 0))

pub sends-is : (k : ℕ → ℕ) (r : ℕ) (cs : List ℕ) → length cs ≡ coded r → length (sent k 0 cs) ≡ sends k r
unfolding sends
sends-is k r cs h = sent-length k 0 cs (replicate (coded r) 0) (h ∙ sym (length-replicate (coded r) 0))

pub encode-length : (r : ℕ) (xs : List ℕ) → length xs ≡ r → length (encode_of xs) ≡ coded r
unfolding encode_of
encode-length r xs e =
    let L = record_bits-length xs six_zeros in
    code-length 0 (record_bits xs six_zeros) ∙ (let f : 2 * length (record_bits xs six_zeros) ≡ 16 * r + 12 = omega arith in f)

-- the votes handed to the decoder, the record of r bytes that n places' votes give, and its strength
unfoldable pub soft_of : (ℕ → ℕ) → ℕ → ℕ → List Float → List Float
soft_of k r n us = fill (fin false 0 (pos 0)) k 0 (coded r) (gather_f (sends k r) n us)

unfoldable pub read_by : (ℕ → ℕ) → ℕ → ℕ → List Float → List ℕ
read_by k r n us = bytes_of r (decoded floats (soft_of k r n us))

unfoldable pub strength_by : (ℕ → ℕ) → ℕ → ℕ → List Float → Float
strength_by k r n us = strength floats (soft_of k r n us)

-- a record's score over n places
abbrev pub score_by : (ℕ → ℕ) → ℕ → ℕ → List ℤ → List ℕ → ℤ
score_by k r n zs xs = placed (sends k r) (sent k 0 (encode_of xs)) zs n

pub record Top (k : ℕ → ℕ) (l r n : ℕ) (zs : List ℤ) (xs : List ℕ) (s : Float) : Type 0 where
  pub strong : Is (2 ^ l) s (score_by k r n zs xs)
  pub most : (ys : List ℕ) → length ys ≡ r → score_by k r n zs ys ≤ℤ score_by k r n zs xs

module _ (k : ℕ → ℕ) (r n : ℕ) (some : 0 < sends k r) where
  pub top-by : (l b : ℕ) (us : List Float) (zs : List ℤ) → l ≤ low binary32 → b * n ≤ 2 ^ prec binary32 → length us ≡ n → Votes (2 ^ l) us zs
      → ((j : ℕ) → nat_abs (get_or zs j (pos 0)) ≤ b) → Top k l r n zs (read_by k r n us) (strength_by k r n us)
  unfolding read_by strength_by soft_of encode_of
  top-by l b us zs L B N v h =
      let p = sends k r in
      let gs = gather_f p n us in
      let gz = gather_z p n zs in
      let q = coded r in
      let m = 8 * r + 6 in
      let two : q ≡ 2 * m = omega arith in
      let U = gather-votes l p n b us zs L some (le_of_eq (sym N ∙ votes-length v)) B h v in
      let fz = fill (pos 0) k 0 q gz in
      let best = decoded-best l m (fill (fin false 0 (pos 0)) k 0 q gs) fz L (le_trans (fill-sizes k 0 q gz) (le_trans (gather-sizes p n b zs some h) B))
      (fill-length (fin false 0 (pos 0)) k 0 q gs ∙ two) (fill-votes (2 ^ l) k 0 q U) in
      let hat = decoded floats (fill (fin false 0 (pos 0)) k 0 q gs) in
      let back : record_bits (bytes_of r hat) six_zeros ≡ hat = record_bits-bytes_of r 0 hat (omega arith) best.bits best.long best.home in
      let one-score : (bs : List ℕ) → length bs ≡ m → score (code 0 bs) fz ≡ placed p (sent k 0 (code 0 bs)) zs n =
      λ bs bl.
      let cl : length (code 0 bs) ≡ q = code-length 0 bs ∙ ap (λ (x : ℕ). 2 * x) bl ∙ sym two in
      ap (λ (x : ℕ). score (code 0 bs) (fill (pos 0) k 0 x gz)) (sym cl) ∙ fill-score k 0 (code 0 bs) gz
      ∙ regroup p n (sent k 0 (code 0 bs)) zs some (sends-is k r (code 0 bs) cl) in
      let is : score (code 0 hat) fz ≡ placed p (sent k 0 (code 0 (record_bits (bytes_of r hat) six_zeros))) zs n =
      one-score hat best.long ∙ ap (λ (x : List ℕ). placed p (sent k 0 (code 0 x)) zs n) (sym back) in
      record {
        strong = subst (λ (z : ℤ). Is (2 ^ l) (strength floats (fill (fin false 0 (pos 0)) k 0 q gs)) z) is best.strong;
        most = λ ys y.
            let bs = record_bits ys six_zeros in
            let bl : length bs ≡ m = record_bits-length ys six_zeros ∙ ap (λ (x : ℕ). 8 * x + 6) y in
            subst (λ (z : ℤ). z ≤ℤ placed p (sent k 0 (code 0 (record_bits (bytes_of r hat) six_zeros))) zs n) (one-score bs bl)
            (subst (λ (z : ℤ). score (code 0 bs) fz ≤ℤ z) is (best.most bs (record_bits-bits ys six_zeros six-bits) bl (record-home ys)));
      }

  -- damage below the distance is undone
  module _ (φ : ℕ → ℕ → ℕ) (least : ℕ) (K : (i : ℕ) → k i < 2) (P : Potential k φ least) where
    pub corrects-by : (xs : List ℕ) (ts : List Fate) → length xs ≡ r → Bytes xs → sends k r ≤ n → n ≤ 2 ^ 24 → upto (λ j. cost (get_or ts j kept)) n < least
        → read_by k r n (laid_votes (sends k r) n (sent k 0 (encode_of xs)) ts) ≡ xs
    unfolding read_by soft_of encode_of
    corrects-by xs ts e o fits small ok =
        let bs = record_bits xs six_zeros in
        let bl : length bs ≡ 8 * length xs + 6 = record_bits-length xs six_zeros in
        let two : 2 * length bs ≡ coded r = omega arith in
        let h = undone-by k φ least K P bs (sends k r) n ts (record_bits-bits xs six_zeros six-bits) (record-home xs)
        (sends-is k r (code 0 bs) (code-length 0 bs ∙ two)) some fits small ok in
        ap (bytes_of r) (rw two at h) ∙ ap (λ (x : ℕ). bytes_of x bs) (sym e) ∙ bytes_of-record_bits xs six_zeros o

-- ---- two records that differ, differ in at least so many of the coded bits sent

pub words-apart : (k : ℕ → ℕ) (φ : ℕ → ℕ → ℕ) (least r : ℕ) → ((i : ℕ) → k i < 2) → Potential k φ least → (xs ys : List ℕ) → length xs ≡ r → length ys ≡ r
    → Bytes xs → Bytes ys
    → (xs ≡ ys) ⊎ (least ≤ hamming (sent k 0 (encode_of xs)) (sent k 0 (encode_of ys)))
unfolding encode_of
words-apart k φ least r K P xs ys lx ly ox oy =
    let bs = record_bits xs six_zeros in
    let ds = record_bits ys six_zeros in
    let bl : length bs ≡ 8 * r + 6 = record_bits-length xs six_zeros ∙ ap (λ (x : ℕ). 8 * x + 6) lx in
    let dl : length ds ≡ 8 * r + 6 = record_bits-length ys six_zeros ∙ ap (λ (x : ℕ). 8 * x + 6) ly in
    let same : length (code 0 bs) ≡ length (code 0 ds) = code-length 0 bs ∙ ap (λ (x : ℕ). 2 * x) (bl ∙ sym dl) ∙ sym (code-length 0 ds) in
    elim (split k φ least P 0 0 bs ds refl (lit< tt) (record_bits-bits xs six_zeros six-bits) (record_bits-bits ys six_zeros six-bits) (bl ∙ sym dl)
    (record-home xs ∙ sym (record-home ys))) [
      | inl e ↦ inl (sym (bytes_of-record_bits xs six_zeros ox) ∙ ap₂ bytes_of (lx ∙ sym ly) e ∙ bytes_of-record_bits ys six_zeros oy)
      | inr h ↦ inr (le_trans h (le_of_eq (sym (sent-apart k 0 (code 0 bs) (code 0 ds) K same))))
    ]

-- ---- where every coded bit is sent, as in the first edition

pub sends-all : (r : ℕ) → sends (λ _. 1) r ≡ coded r
unfolding sends
sends-all r = ap length (sent-all 0 (replicate (coded r) 0)) ∙ length-replicate (coded r) 0

soft-all : (r n : ℕ) (us : List Float) → soft_of (λ _. 1) r n us ≡ gather_f (coded r) n us
unfolding soft_of
soft-all r n us =
    let p : sends (λ _. 1) r ≡ coded r = sends-all r in
    let gs = gather_f (coded r) n us in
    let g : length gs ≡ coded r = gather-length nan (fin false 0 (pos 0)) (add binary32) (coded r) n us in
    ap (λ (x : ℕ). fill (fin false 0 (pos 0)) (λ _. 1) 0 (coded r) (gather_f x n us)) p
    ∙ subst (λ (x : ℕ). fill (fin false 0 (pos 0)) (λ _. 1) 0 x gs ≡ gs) g (fill-all (fin false 0 (pos 0)) 0 gs)

pub read_all : (r n : ℕ) (us : List Float) → read_by (λ _. 1) r n us ≡ bytes_of r (decoded floats (gather_f (coded r) n us))
unfolding read_by
read_all r n us = ap (λ (vs : List Float). bytes_of r (decoded floats vs)) (soft-all r n us)

pub strength-all : (r n : ℕ) (us : List Float) → strength_by (λ _. 1) r n us ≡ strength floats (gather_f (coded r) n us)
unfolding strength_by
strength-all r n us = ap (strength floats) (soft-all r n us)
