-- What the three calls promise, one in the other.
use mathlib.Core.Path.{refl}
use Rattle.carrier.specs.Carrier.{marked_samples}
use Rattle.carrier.proofs.put_bits.Goals as goal

pub returns-clause-marked : goal.returns-clause-marked
unfolding marked_samples
returns-clause-marked c = rw (c.change_samples.ensures, c.embed_bits.ensures, c.plane.ensures) refl
