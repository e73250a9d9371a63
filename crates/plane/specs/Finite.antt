-- The change and the votes of a plane whose values are at most 2 ^ 20 in size, as those of a picture's are: each vote is a
-- number from -1 to 1, and the change is at most 2 ^ 29 in size. For every plane, the change is the marked plane minus the
-- plane.
use Rattle.std.specs.Prelude.{◌≡◌, true, List, ℕ, ◌+◌, ◌*◌, ◌/◌, ◌%◌, ◌^◌, ◌≤◌, ◌<◌, length, get_or, Float}
use Rattle.std.proofs.Common.{sym, ◌∙◌, ap, ap₂, subst, arith, lit<}
use Rattle.std.specs.Float.{nan, binary32}
use Rattle.std.specs.Float.Ieee.{sub}
use Rattle.seq.specs.Tab.{length-tab, get_or-tab}
use Rattle.float.specs.Calls.{in_unit}
use Rattle.float_laws.specs.Values.{Within}
use Rattle.float_laws.specs.Bounds.{value-within}
use Rattle.float_laws.specs.Unit.{within-unit}
use Rattle.dither.specs.Dither.{dither_of}
use Rattle.dither.specs.Numbers.{dither-exact}
use Rattle.dct.specs.Grid.{cell}
use Rattle.dct.specs.Columns.{cell-grid}
use Rattle.dct.specs.Dct.{forward_of, inverse_of}
use Rattle.block.specs.Mark.{marked_block}
use Rattle.block.specs.Plane.{load_of}
use Rattle.block.specs.Finite.{Dither, load-within, plane-vote-within, marked-plane-within}
use Rattle.plane.specs.Plane.{dither_four, block_change, block_vote, marked_plane, change_of, votes_of, changed_block, plane_vote}
use Rattle.plane.specs.Blocks.{block_at, block_at-below, cell-load, place-of-plane}
use Rattle.picture.specs.Sizes.{plane_size}

pub dither-within : (b : ℕ) → Dither (dither_four b)
unfolding dither_four
dither-within b k K =
    let d = dither-exact (4 * b + k) in
    subst (λ (x : Float). Within x 1 1) (sym (get_or-tab (λ k. dither_of (4 * b + k)) 4 k nan K))
    (value-within (dither_of (4 * b + k)) _ d.0 (2 ^ 24) 1 1 (lit< tt) d.2 (let h = d.1 in omega arith))

-- ---- the votes

pub length-votes : (d : List Float) → length (votes_of d) ≡ 1024
unfolding votes_of
length-votes d = length-tab (plane_vote d) 1024

pub votes-good : (d : List Float) → ((p : ℕ) → p < plane_size → Within (get_or d p nan) (2 ^ 20) 1) → (b : ℕ) → b < 1024 → in_unit (get_or (votes_of d) b nan) ≡ true
unfolding votes_of block_vote
votes-good d D b B =
    ap in_unit (get_or-tab (plane_vote d) 1024 b nan B)
    ∙ within-unit (plane_vote d b) (plane-vote-within (load_of d b) (dither_four b) (load-within d (2 ^ 20) b B D) (dither-within b))

-- ---- the change

-- block b with its bit put into it
abbrev marked_at : List ℕ → List Float → ℕ → List Float
marked_at bits d b = inverse_of (marked_block (dither_four b) (get_or bits b 0) (forward_of (load_of d b)))

change-at : (bits : List ℕ) (d : List Float) (p : ℕ) → p < plane_size
    → get_or (change_of bits d) p nan ≡ sub binary32 (cell (marked_at bits d (block_at p)) (p / 256 % 8) (p % 8)) (cell (load_of d (block_at p)) (p / 256 % 8) (p % 8))
unfolding change_of block_change
change-at bits d p P =
    place-of-plane (changed_block bits d) p P
    ∙ cell-grid (λ r c. sub binary32 (cell (marked_at bits d (block_at p)) r c) (cell (load_of d (block_at p)) r c)) (p / 256 % 8) (p % 8) (omega arith)
    (omega arith)

pub change-is : (bits : List ℕ) (d : List Float) (p : ℕ) → p < plane_size
    → get_or (change_of bits d) p nan ≡ sub binary32 (get_or (marked_plane bits d) p nan) (get_or d p nan)
unfolding marked_plane
change-is bits d p P = change-at bits d p P ∙ ap₂ (sub binary32) (sym (place-of-plane (marked_at bits d) p P)) (cell-load d p)

pub change-bounded : (bits : List ℕ) (d : List Float) → ((b : ℕ) → get_or bits b 0 ≤ 1) → ((p : ℕ) → p < plane_size → Within (get_or d p nan) (2 ^ 20) 1)
    → (p : ℕ) → p < plane_size → Within (get_or (change_of bits d) p nan) (2 ^ 29) 1
change-bounded bits d B D p P =
    let b = block_at p in
    subst (λ (x : Float). Within x (2 ^ 29) 1) (sym (change-at bits d p P))
    (marked-plane-within (dither_four b) (load_of d b) (get_or bits b 0) (B b) (dither-within b) (load-within d (2 ^ 20) b (block_at-below p P) D) (p / 256 % 8)
    (p % 8) (omega arith) (omega arith))
