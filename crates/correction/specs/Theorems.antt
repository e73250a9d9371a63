-- What the archive relies on, in the words of Demand3.antt. The proofs are in FirstEdition.antt.
use Rattle.std.specs.Prelude.{◌≡◌, ◌⊎◌, List, ℕ, ◌+◌, ◌*◌, ◌≤◌, ℤ, ◌≤ℤ◌, Float}
use Rattle.float_laws.specs.Values.{Is}
use Rattle.encoder.specs.Ccsds131.{encode_of}
use Rattle.correction.specs.Demand3.{
  IsRecord,
  decoded_from,
  metric_from,
  WholeVotes,
  score_of,
  hamming,
  blocks_apart,
  Fate,
  zeroed_count,
  reversed_count,
  Laid,
}
use Rattle.correction.specs.FirstEdition.{best-record, metric-score, records-apart, corrects-record}

-- no record scores above the one decoded, on votes that are whole multiples of 1/1024 from -1 to 1
pub best : (votes : List Float) (zs : List ℤ) → WholeVotes votes zs
    → (ys : List ℕ) → IsRecord ys → score_of zs ys ≤ℤ score_of zs (decoded_from votes)
best = best-record

-- the metric with which the decoder ends is then that record's score, exactly
pub metric : (votes : List Float) (zs : List ℤ) → WholeVotes votes zs → Is 1024 (metric_from votes) (score_of zs (decoded_from votes))
metric = metric-score

-- two different records differ in at least 10 coded bits, and in at least 10 blocks
pub distance : (xs ys : List ℕ) → IsRecord xs → IsRecord ys
    → (xs ≡ ys) ⊎ ((10 ≤ hamming (encode_of xs) (encode_of ys)) × (10 ≤ blocks_apart xs ys))
distance = records-apart

-- a record laid over the blocks, e votes made zero and f others reversed, e + 2 f <= 9, is decoded. Ten zeroed votes can be
-- too many: where two records differ in just ten blocks, zeroing those leaves the same votes of both
pub corrects : (xs : List ℕ) (fates : List Fate) (votes : List Float) → IsRecord xs
    → zeroed_count fates + 2 * reversed_count fates ≤ 9 → Laid xs fates votes → decoded_from votes ≡ xs
corrects = corrects-record
