-- The upper 24 bits of a word are a float as they stand.
use mathlib.Core.Path.{refl}
use lib.Ieee.{of_bits}
use Rattle.dither.proofs.number.Goals as goal

pub returns : goal.returns
unfolding of_bits
returns c = refl
