-- What the three calls promise, one in the other.
use mathlib.Core.Path.{◌∙◌, ap}
use Rattle.dct.specs.Dct.{forward_of}
use Rattle.block.specs.Soft.{vote_of}
use Rattle.plane.specs.Plane.{block_vote}
use Rattle.plane.proofs.vote.Goals as goal

pub returns : goal.returns
unfolding block_vote
returns c =
    c.block_vote.ensures ∙ ap (vote_of _) (c.forward.ensures ∙ ap forward_of c.load_block-values.ensures)
