-- The first blocks of a plane, each transformed and transformed back, for the benchmarks. Definitions only.
use Rattle.std.specs.Prelude.{List, ℕ, zero, suc, Float}
use Rattle.dct.specs.Dct.{forward_of, inverse_of}
use Rattle.block.specs.Plane.{load_of, stored_of}

abbrev pub block_there_and_back : List Float → ℕ → List Float
block_there_and_back plane b = stored_of plane b (inverse_of (forward_of (load_of plane b)))

unfoldable pub there_and_back : ℕ → List Float → List Float
there_and_back zero plane = plane
there_and_back (suc n) plane = block_there_and_back (there_and_back n plane) n
