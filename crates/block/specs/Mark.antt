-- Marking: a coefficient is moved to the nearest value that stands for the bit, on a lattice of step 16 that its dither number
-- u shifts; a block's four marked coefficients. Definitions only.
use Rattle.std.specs.Prelude.{false, List, [], ◌∷◌, ℕ, suc, ◌+◌, ◌*◌, pos, negsuc, get_or, set, Float}
use Rattle.std.specs.Float.{nan, fin, binary32}
use Rattle.std.specs.Float.Ieee.{add, sub, mul, div, of_int}
use Rattle.float.specs.Base.{two_to}
use Rattle.float.specs.Calls.{round_away}

-- the marked coefficients (1,1), (1,2), (2,1), (2,2), as places in the block
abbrev pub coefficients : List ℕ
coefficients = (1 * 8 + 1) ∷ (1 * 8 + 2) ∷ (2 * 8 + 1) ∷ (2 * 8 + 2) ∷ []

abbrev pub lattice_step : Float
lattice_step = two_to 4

-- half the bit
unfoldable pub half_of : ℕ → Float
unfolding mul of_int
half_of bit = mul binary32 (of_int binary32 (pos bit)) (fin false 1 (negsuc 0))

-- (round(v / 16 - u - h) + u + h) * 16, from left to right
unfoldable pub marked_of : Float → Float → Float → Float
unfolding add sub mul div round_away
marked_of v u h =
    let n = round_away binary32 (sub binary32 (sub binary32 (div binary32 v lattice_step) u) h) in
    mul binary32 (add binary32 (add binary32 n u) h) lattice_step

-- the places, each marked with the next number of u from u k on
abbrev marked_at : Float → List Float → ℕ → List ℕ → List Float → List Float
marked_at h u k [] x = x
marked_at h u k (p ∷ ps) x = marked_at h u (suc k) ps (set x p (marked_of (get_or x p nan) (get_or u k nan) h))

unfoldable pub marked_block : List Float → ℕ → List Float → List Float
marked_block u bit x = marked_at (half_of bit) u 0 coefficients x
