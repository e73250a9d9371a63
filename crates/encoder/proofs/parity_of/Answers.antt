-- The count of ones, modulo 2, is the definition's parity.
use mathlib.Core.Path.{refl}
use Rattle.encoder.specs.Ccsds131.{parity}
use Rattle.encoder.proofs.parity_of.Goals as goal

pub returns : goal.returns
unfolding parity
returns c = refl
