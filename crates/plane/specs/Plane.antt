-- The mark on the plane: each of its 1,024 blocks carries a bit, and gives a vote on it. Sections 13 and 14 of the scope:
-- block b and coefficient k use the dither's number 4 b + k; the change is the marked plane minus the plane. Definitions only.
use Rattle.std.specs.Prelude.{List, ℕ, ◌+◌, ◌*◌, ◌/◌, ◌%◌, zero, suc, get_or, Float}
use Rattle.std.specs.Float.{binary32}
use Rattle.std.specs.Float.Ieee.{sub}
use Rattle.seq.specs.Lists.{tab}
use Rattle.dither.specs.Dither.{dither_of}
use Rattle.dct.specs.Grid.{grid, cell}
use Rattle.dct.specs.Dct.{forward_of, inverse_of}
use Rattle.block.specs.Mark.{marked_block}
use Rattle.block.specs.Soft.{vote_of}
use Rattle.block.specs.Plane.{load_of, stored_of}
use Rattle.picture.specs.Sizes.{block_count, plane_size}

-- the dither numbers of block b
unfoldable pub dither_four : ℕ → List Float
dither_four b = tab (λ k. dither_of (4 * b + k)) 4

-- ---- the change

-- a block with the bit put into it, less the block as it was
unfoldable pub block_change : List Float → ℕ → List Float → List Float
block_change u bit x = grid (λ r c. sub binary32 (cell (inverse_of (marked_block u bit (forward_of x))) r c) (cell x r c))

-- the plane whose block b is f b
unfoldable pub plane_of_blocks : (ℕ → List Float) → List Float
plane_of_blocks f = tab (λ p. cell (f (p / 2048 * 32 + p % 256 / 8)) (p / 256 % 8) (p % 8)) plane_size

-- the plane with each block's bit put into it
unfoldable pub marked_plane : List ℕ → List Float → List Float
marked_plane bits d = plane_of_blocks (λ b. inverse_of (marked_block (dither_four b) (get_or bits b 0) (forward_of (load_of d b))))

-- the change of every block that puts its bit into it
unfoldable pub change_of : List ℕ → List Float → List Float
change_of bits d = plane_of_blocks (λ b. block_change (dither_four b) (get_or bits b 0) (load_of d b))

-- ---- the votes

unfoldable pub block_vote : List Float → List Float → Float
block_vote u x = vote_of u (forward_of x)

unfoldable pub votes_of : List Float → List Float
votes_of d = tab (λ b. block_vote (dither_four b) (load_of d b)) block_count

-- ---- the plane on the way, and a vote

-- what block b of the plane becomes
abbrev pub changed_block : List ℕ → List Float → ℕ → List Float
changed_block bits d b = block_change (dither_four b) (get_or bits b 0) (load_of d b)

-- the plane d whose first n blocks became their changes, one after the other
unfoldable pub changed_first : List ℕ → ℕ → List Float → List Float
changed_first bits zero d = d
changed_first bits (suc n) d = stored_of (changed_first bits n d) n (changed_block bits (changed_first bits n d) n)

-- the vote of block b of the plane
abbrev pub plane_vote : List Float → ℕ → Float
plane_vote d b = block_vote (dither_four b) (load_of d b)

-- the numbers of block g of the keystream
abbrev pub dither_group : ℕ → List Float
dither_group g = tab (λ k. dither_of (16 * g + k)) 16
