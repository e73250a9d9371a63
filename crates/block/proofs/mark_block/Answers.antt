-- The four marked values put in their places.
use lib.Ieee.{of_bits}
use Rattle.block.specs.Mark.{marked_block, half_of}
use Rattle.block.proofs.mark_block.Goals as goal

pub returns : goal.returns
unfolding marked_block half_of of_bits
returns c =
    rw (
      c.marked-4.ensures,
      c.marked-3.ensures,
      c.marked-2.ensures,
      c.marked.ensures,
    )
