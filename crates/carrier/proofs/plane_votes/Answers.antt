-- What the two calls promise, one in the other.
use mathlib.Core.Path.{refl}
use Rattle.carrier.specs.Carrier.{picture_votes}
use Rattle.carrier.proofs.plane_votes.Goals as goal

pub returns-clause-votes : goal.returns-clause-votes
unfolding picture_votes
returns-clause-votes c = rw (c.block_soft.ensures, c.plane.ensures) refl
