-- The first edition among the general laws: every coded bit is sent, 46 bytes, and the places of the real layout. The general
-- laws, over any pattern of coded bits sent, length and places, stand in General.antt and Blocks.antt.
use Rattle.std.specs.Prelude.{◌≡◌, ◌⊎◌, List, ℕ, ◌+◌, ◌*◌, ◌%◌, ◌≤◌, ◌<◌, get_or, ℤ, pos, neg_ℤ, ◌+ℤ◌, ◌≤ℤ◌, Float}
use Rattle.std.proofs.Math.Path.{sym, ap}
use Rattle.std.proofs.Common.{ap₂, ◌∙◌, subst, inl, inr, le_of_eq, le_trans, arith, lit≤}
use Rattle.std.proofs.Math.Dec.{lit<}
use Rattle.std.specs.Float.{nan}
use Rattle.seq.specs.Sum.{sum_same}
use Rattle.seq.specs.Tab.{get_or-tab}
use Rattle.float_laws.specs.Values.{Is}
use Rattle.layout.specs.Layout.{block_of, place_of}
use Rattle.picture.specs.Sizes.{block_count}
use Rattle.layout.specs.Permutation.{layout-undo}
use Rattle.layout.specs.Places.{block_bits, through, gathered}
use Rattle.encoder.specs.Ccsds131.{record_size, coded_bits, encode_of}
use Rattle.decoder.specs.Decoder.{voted}
use Rattle.correction.specs.Demand3.{
  IsRecord,
  bit_in,
  decoded_from,
  metric_from,
  WholeVotes,
  score_of,
  unlike,
  hamming,
  blocks_apart,
  Fate,
  kept,
  voted_f,
  zeroed_count,
  reversed_count,
  Laid,
}
use Rattle.correction.specs.Distance.{to_home, ten}
use Rattle.correction.specs.Puncture.{sent, sent-all}
use Rattle.correction.specs.General.{sends, sends-all, read_by, strength_by, read_all, strength-all, encode-length, words-apart}
use Rattle.correction.specs.Blocks.{block_score, upto-blocks, top-blocks, strong-blocks, corrects-blocks}
use Rattle.correction.specs.Corrects.{apart-places}

all : ℕ → ℕ
all i = 1

carried : (xs : List ℕ) (j : ℕ) → get_or (sent all 0 (encode_of xs)) (j % sends all record_size) 0 ≡ get_or (encode_of xs) (j % coded_bits) 0
unfolding all
carried xs j = ap₂ (λ (cs : List ℕ) (p : ℕ). get_or cs (j % p) 0) (sent-all 0 (encode_of xs)) (sends-all record_size)

bit_at : (xs : List ℕ) (b : ℕ) → b < block_count → bit_in xs b ≡ get_or (encode_of xs) (place_of b % coded_bits) 0
unfolding bit_in block_bits
bit_at xs b h = get_or-tab (λ b. get_or (encode_of xs) (place_of b % coded_bits) 0) block_count b 0 h

bit-of-place : (xs : List ℕ) (j : ℕ) → j < block_count → bit_in xs (block_of j) ≡ get_or (encode_of xs) (j % coded_bits) 0
bit-of-place xs j h = bit_at xs (block_of j) (layout-undo.lo j h) ∙ ap (λ (i : ℕ). get_or (encode_of xs) (i % coded_bits) 0) (layout-undo.there j h)

read_is : (votes : List Float) → read_by all record_size block_count (through block_of block_count nan votes) ≡ decoded_from votes
unfolding decoded_from gathered all
read_is votes = read_all record_size block_count (through block_of block_count nan votes)

metric-is : (votes : List Float) → strength_by all record_size block_count (through block_of block_count nan votes) ≡ metric_from votes
unfolding metric_from gathered all
metric-is votes = strength-all record_size block_count (through block_of block_count nan votes)

score-is : (zs : List ℤ) (xs : List ℕ) → block_score all place_of record_size block_count zs xs ≡ score_of zs xs
unfolding block_score score_of
score-is zs xs =
    sum_same (λ a b. a +ℤ b) (pos 0) (λ b. voted neg_ℤ (get_or (sent all 0 (encode_of xs)) (place_of b % sends all record_size) 0) (get_or zs b (pos 0)))
    (λ b. voted neg_ℤ (bit_in xs b) (get_or zs b (pos 0))) block_count
    (λ b h. ap (λ (c : ℕ). voted neg_ℤ c (get_or zs b (pos 0))) (carried xs (place_of b) ∙ sym (bit_at xs b h)))

some : 0 < sends all record_size
unfolding all
some = rw (sends-all record_size) (lit< tt)

-- words that differ in a coded bit differ in the blocks that carry it
words-blocks : (xs ys : List ℕ) → IsRecord xs → IsRecord ys → hamming (encode_of xs) (encode_of ys) ≤ blocks_apart xs ys
unfolding blocks_apart
words-blocks xs ys x y =
    le_trans (apart-places coded_bits block_count (encode_of xs) (encode_of ys) (lit≤ tt) (encode-length record_size xs x.long)
    (encode-length record_size ys y.long))
    (le_of_eq (sum_same (λ a b. a + b) 0 (λ j. unlike (get_or (encode_of xs) (j % coded_bits) 0) (get_or (encode_of ys) (j % coded_bits) 0))
    (λ j. unlike (bit_in xs (block_of j)) (bit_in ys (block_of j))) block_count
    (λ j h. sym (ap₂ unlike (bit-of-place xs j h) (bit-of-place ys j h)))
    ∙ upto-blocks block_of place_of block_count layout-undo (λ b. unlike (bit_in xs b) (bit_in ys b))))

-- ---- the theorems

pub best-record : (votes : List Float) (zs : List ℤ) → WholeVotes votes zs → (ys : List ℕ) → IsRecord ys → score_of zs ys ≤ℤ score_of zs (decoded_from votes)
best-record votes zs w ys y =
    subst (λ (s : ℤ). s ≤ℤ score_of zs (decoded_from votes)) (score-is zs ys)
    (subst (λ (s : ℤ). block_score all place_of record_size block_count zs ys ≤ℤ s)
    (score-is zs (read_by all record_size block_count (through block_of block_count nan votes)) ∙ ap (score_of zs) (read_is votes))
    (top-blocks block_of place_of block_count layout-undo all record_size some 10 1024 votes zs (lit≤ tt) (lit≤ tt) w.many w.means w.small ys y.long))

pub metric-score : (votes : List Float) (zs : List ℤ) → WholeVotes votes zs → Is 1024 (metric_from votes) (score_of zs (decoded_from votes))
metric-score votes zs w =
    subst (λ (f : Float). Is 1024 f (score_of zs (decoded_from votes))) (metric-is votes)
    (subst (λ (s : ℤ). Is 1024 (strength_by all record_size block_count (through block_of block_count nan votes)) s)
    (score-is zs (read_by all record_size block_count (through block_of block_count nan votes)) ∙ ap (score_of zs) (read_is votes))
    (strong-blocks block_of place_of block_count layout-undo all record_size some 10 1024 votes zs (lit≤ tt) (lit≤ tt) w.many w.means w.small))

pub records-apart : (xs ys : List ℕ) → IsRecord xs → IsRecord ys → (xs ≡ ys) ⊎ ((10 ≤ hamming (encode_of xs) (encode_of ys)) × (10 ≤ blocks_apart xs ys))
unfolding all
records-apart xs ys x y =
    elim (words-apart all (λ _ s. get_or to_home s 0) 10 record_size (λ i. lit< tt) ten xs ys x.long y.long x.bytes y.bytes) [
      | inl e ↦ inl e
      | inr h ↦ (let words : 10 ≤ hamming (encode_of xs) (encode_of ys) = rw (sent-all 0 (encode_of xs), sent-all 0 (encode_of ys)) at h in
          inr (words, le_trans words (words-blocks xs ys x y)))
    ]

pub corrects-record : (xs : List ℕ) (fates : List Fate) (votes : List Float) → IsRecord xs → zeroed_count fates + 2 * reversed_count fates ≤ 9
    → Laid xs fates votes → decoded_from votes ≡ xs
corrects-record xs fates votes x few laid =
    sym (read_is votes)
    ∙ corrects-blocks block_of place_of block_count layout-undo all record_size some (λ _ s. get_or to_home s 0) 10 (λ i. unfold all in lit< tt) (unfold all in
    ten) xs fates votes x.long x.bytes (unfold all in rw (sends-all record_size) (lit≤ tt)) (lit≤ tt) (omega arith)
    (λ j h. laid.vote (block_of j) (layout-undo.lo j h) ∙ ap (λ (c : ℕ). voted_f c (get_or fates (block_of j) kept)) (bit-of-place xs j h ∙ sym (carried xs j)))
