-- Every number below 1,024 stands in the layout exactly once: the list `places` undoes it both ways, by one test over each table.
use Rattle.std.specs.Prelude.{◌≡◌, refl, Bool, ◌&&◌, ℕ, ◌<◌, T, eqb, ltb, length}
use Rattle.std.proofs.Common.{eqb→eq, ltb→lt}
use Rattle.std.specs.Float.Ieee.Fits.{and_l, and_r}
use Rattle.seq.specs.Table.{every, at}
use Rattle.layout.specs.Layout.{layout, places, block_of, place_of, Undo}
use Rattle.picture.specs.Sizes.{block_count}

block-rule : ℕ → ℕ → Bool
block-rule j b = ltb b block_count && eqb (place_of b) j

place-rule : ℕ → ℕ → Bool
place-rule b j = ltb j block_count && eqb (block_of j) b

blocks-pass : T (every block-rule 0 layout)
unfolding layout places block-rule
blocks-pass = tt

places-pass : T (every place-rule 0 places)
unfolding layout places place-rule
places-pass = tt

layout-length : length layout ≡ block_count
unfolding layout
layout-length = refl

places-length : length places ≡ block_count
unfolding places
places-length = refl

block_at : (j : ℕ) → j < block_count → T (ltb (block_of j) block_count && eqb (place_of (block_of j)) j)
unfolding block-rule
block_at j h = at block-rule layout 0 blocks-pass j (rw layout-length h)

place_at : (b : ℕ) → b < block_count → T (ltb (place_of b) block_count && eqb (block_of (place_of b)) b)
unfolding place-rule
place_at b h = at place-rule places 0 places-pass b (rw places-length h)

pub layout-undo : Undo block_of place_of block_count
layout-undo = record {
  lo = λ j h. ltb→lt (block_of j) block_count (and_l (ltb (block_of j) block_count) (eqb (place_of (block_of j)) j) (block_at j h));
  bo = λ b h. ltb→lt (place_of b) block_count (and_l (ltb (place_of b) block_count) (eqb (block_of (place_of b)) b) (place_at b h));
  there = λ j h. eqb→eq (place_of (block_of j)) j (and_r (ltb (block_of j) block_count) (eqb (place_of (block_of j)) j) (block_at j h));
  again = λ b h. eqb→eq (block_of (place_of b)) b (and_r (ltb (place_of b) block_count) (eqb (block_of (place_of b)) b) (place_at b h));
}
