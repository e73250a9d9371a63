-- The call's result put in its place.
use lib.Ieee.{of_bits}
use Rattle.block.specs.Mark.{marked_of}
use Rattle.block.proofs.marked.Goals as goal

pub returns : goal.returns
unfolding marked_of of_bits
returns c = rw c.round_f32.ensures
