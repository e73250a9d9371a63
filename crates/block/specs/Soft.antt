-- The vote of a block: how near its four marked coefficients lie to the lattice of bit 0 (1 at a point of it, -1 half a step away), in the mean.
-- For every value: where one is not finite, this says what the vote is. Definitions only.
use Rattle.std.specs.Prelude.{List, ℕ, get_or, Float}
use Rattle.std.specs.Float.{nan, binary32}
use Rattle.std.specs.Float.Ieee.{add, sub, mul, div}
use Rattle.seq.specs.Lists.{sum_to}
use Rattle.float.specs.Base.{zero-, two_to}
use Rattle.float.specs.Calls.{floor, smaller}
use Rattle.block.specs.Mark.{coefficients, lattice_step}

-- of a coefficient v with dither number u: x = v / 16 - u, r = x - floor x, 1 - 4 min(r, 1 - r)
unfoldable pub term_of : Float → Float → Float
unfolding sub mul div smaller floor
term_of v u =
    let x = sub binary32 (div binary32 v lattice_step) u in
    let r = sub binary32 x (floor binary32 x) in
    sub binary32 (two_to 0) (mul binary32 (two_to 2) (smaller r (sub binary32 (two_to 0) r)))

-- (((-0 + t 0) + t 1) + t 2) + t 3, divided by 4
unfoldable pub mean_of_four : (ℕ → Float) → Float
unfolding div add
mean_of_four t = div binary32 (sum_to (add binary32) zero- 4 t) (two_to 2)

unfoldable pub vote_of : List Float → List Float → Float
unfolding mean_of_four
vote_of u x = mean_of_four (λ k. term_of (get_or x (get_or coefficients k 0) nan) (get_or u k nan))
