-- Places and coded bits: place j stands in block `block_of j` and carries coded bit j mod p, for any number p of coded bits.
-- Definitions only.
use Rattle.std.specs.Prelude.{List, ℕ, zero, suc, ◌%◌, pos, get_or, set, replicate, Float, true, false}
use Rattle.std.specs.Float.{nan, fin, binary32}
use Rattle.std.specs.Float.Ieee.{add}
use Rattle.seq.specs.Lists.{tab}
use Rattle.layout.specs.Layout.{block_of, place_of}
use Rattle.picture.specs.Sizes.{block_count}

-- ---- from coded bits to blocks

-- the bit of each block: that of the place which stands there
unfoldable pub block_bits : ℕ → List ℕ → List ℕ
block_bits p coded = tab (λ b. get_or coded (place_of b % p) 0) block_count

-- ---- from blocks to coded bits

-- the blocks' entries in the order of the places: place j stands in block l j
unfoldable pub through : {A : Type 0} → (ℕ → ℕ) → ℕ → A → List A → List A
through l n d xs = tab (λ j. get_or xs (l j) d) n

module _ {A : Type 0} (blank begun : A) (plus : A → A → A) where
  -- the first n of the places' votes us, each added to the sum of its coded bit, in rising j
  unfoldable pub gather : ℕ → ℕ → List A → List A
  gather p zero us = replicate p begun
  gather p (suc j) us = set (gather p j us) (j % p) (plus (get_or (gather p j us) (j % p) blank) (get_or us j blank))

-- in f32, from +0
abbrev pub gather_f : ℕ → ℕ → List Float → List Float
gather_f = gather nan (fin false 0 (pos 0)) (add binary32)

-- the votes of p coded bits, from the blocks' votes
unfoldable pub gathered : ℕ → List Float → List Float
gathered p votes = gather_f p block_count (through block_of block_count nan votes)

-- ---- a vote that is sure of its bit: +1 for a 0 and -1 for a 1

abbrev pub sure : ℕ → Float
sure zero = fin false 1 (pos 0)
sure (suc c) = fin true 1 (pos 0)
