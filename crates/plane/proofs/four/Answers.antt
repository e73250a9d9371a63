-- The four numbers put in their places.
use mathlib.Core.Path.{refl}
use native.Mathlib.Nat.{add-zero}
use Rattle.seq.specs.Lists.{tab}
use Rattle.plane.proofs.four.Goals as goal

pub returns : goal.returns
unfolding tab
returns c = rw add-zero refl
