-- The sum and its quotient, as they stand.
use mathlib.Core.Path.{refl}
use lib.Ieee.{neg, of_bits}
use Rattle.seq.specs.Lists.{sum_to}
use Rattle.block.specs.Soft.{mean_of_four}
use Rattle.block.proofs.mean.Goals as goal

pub returns : goal.returns
unfolding mean_of_four sum_to neg of_bits
returns c = refl
