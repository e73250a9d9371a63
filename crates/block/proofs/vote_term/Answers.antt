-- The calls' results put in their places.
use lib.Ieee.{of_bits}
use Rattle.block.specs.Soft.{term_of}
use Rattle.block.proofs.vote_term.Goals as goal

pub returns : goal.returns
unfolding term_of of_bits
returns c = rw (c.min_f32.ensures, c.floor_f32.ensures)
