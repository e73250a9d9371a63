-- The words of demand 3, for the first edition: a record of 46 bytes and 748 coded bits over 1,024 blocks. Votes and damage
-- are counted by block. The code's words stand in encoder/specs/Ccsds131.antt, the decoder's in decoder/specs/Decoder.antt,
-- the layout's in layout/specs/Places.antt. Definitions only.
use Rattle.std.specs.Prelude.{◌≡◌, Bool, true, false, List, [], ◌∷◌, ℕ, zero, suc, ◌+◌, ◌≤◌, ◌<◌, eqb, length, get_or, ℤ, pos, neg_ℤ, nat_abs, ◌+ℤ◌, Float}
use Rattle.std.specs.Float.{nan, fin}
use Rattle.seq.specs.Lists.{sum_to}
use Rattle.seq.specs.Bytes.{Bytes}
use Rattle.float_laws.specs.Values.{Is}
use Rattle.encoder.specs.Ccsds131.{record_size, coded_bits, encode_of}
use Rattle.picture.specs.Sizes.{block_count}
use Rattle.layout.specs.Places.{block_bits, gathered, sure}
use Rattle.decoder.specs.Decoder.{floats, pick, voted, decoded, strength, bytes_of}

-- ---- records and votes

-- a record: 46 bytes
pub record IsRecord (xs : List ℕ) : Type 0 where
  pub long : length xs ≡ record_size
  pub bytes : Bytes xs

-- the bit that a record puts in block b
unfoldable pub bit_in : List ℕ → ℕ → ℕ
bit_in xs b = get_or (block_bits coded_bits (encode_of xs)) b 0

-- the record that 1,024 block votes decode to, and the metric of its path
unfoldable pub decoded_from : List Float → List ℕ
decoded_from votes = bytes_of record_size (decoded floats (gathered coded_bits votes))

unfoldable pub metric_from : List Float → Float
metric_from votes = strength floats (gathered coded_bits votes)

-- ---- scores, where votes are whole multiples of 1 / 1024

-- the floats xs denote the whole numbers zs of 1 / c
pub data Votes (c : ℕ) : List Float → List ℤ → Type 0 where
  none : Votes c [] []
  one : {x : Float} {z : ℤ} {xs : List Float} {zs : List ℤ} → Is c x z → Votes c xs zs → Votes c (x ∷ xs) (z ∷ zs)

-- the votes as whole numbers of 1/1024, from -1 to 1
pub record WholeVotes (votes : List Float) (zs : List ℤ) : Type 0 where
  pub many : length votes ≡ block_count
  pub means : Votes 1024 votes zs
  pub small : (b : ℕ) → nat_abs (get_or zs b (pos 0)) ≤ 1024

-- a record's score: the sum of the votes where it puts a 0, less the sum where it puts a 1
unfoldable pub score_of : List ℤ → List ℕ → ℤ
score_of zs xs = sum_to (λ a b. a +ℤ b) (pos 0) block_count (λ b. voted neg_ℤ (bit_in xs b) (get_or zs b (pos 0)))

-- ---- distances

-- 1 where two coded bits differ, and how many places do
abbrev pub unlike : ℕ → ℕ → ℕ
unlike c d = pick (eqb c d) 0 1

unfoldable pub hamming : List ℕ → List ℕ → ℕ
hamming [] ds = 0
hamming (c ∷ cs) [] = 0
hamming (c ∷ cs) (d ∷ ds) = unlike c d + hamming cs ds

-- in how many blocks two records put different bits
unfoldable pub blocks_apart : List ℕ → List ℕ → ℕ
blocks_apart xs ys = sum_to (λ a b. a + b) 0 block_count (λ b. unlike (bit_in xs b) (bit_in ys b))

-- ---- damage

-- what becomes of a place's vote: it is kept, made a zero of either sign, or reversed
pub data Fate : Type 0 where
  kept : Fate
  zeroed : Bool → Fate
  reversed : Fate

-- a vote of exactly +1 for a 0 and -1 for a 1, after its fate
abbrev pub voted_f : ℕ → Fate → Float
voted_f c kept = sure c
voted_f c (zeroed s) = fin s 0 (pos 0)
voted_f zero reversed = fin true 1 (pos 0)
voted_f (suc c) reversed = fin false 1 (pos 0)

-- how many votes are zero, and how many reversed
unfoldable pub zeroed_count : List Fate → ℕ
zeroed_count [] = 0
zeroed_count (kept ∷ ts) = zeroed_count ts
zeroed_count (zeroed s ∷ ts) = suc (zeroed_count ts)
zeroed_count (reversed ∷ ts) = zeroed_count ts

unfoldable pub reversed_count : List Fate → ℕ
reversed_count [] = 0
reversed_count (kept ∷ ts) = reversed_count ts
reversed_count (zeroed s ∷ ts) = reversed_count ts
reversed_count (reversed ∷ ts) = suc (reversed_count ts)

-- the votes of a record laid over the blocks, +1 for a 0 and -1 for a 1, each after its fate: kept, made zero or reversed
pub record Laid (xs : List ℕ) (fates : List Fate) (votes : List Float) : Type 0 where
  pub vote : (b : ℕ) → b < block_count → get_or votes b nan ≡ voted_f (bit_in xs b) (get_or fates b kept)
