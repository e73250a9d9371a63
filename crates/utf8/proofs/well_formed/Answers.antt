-- The text is taken by the forms of section 4.
use Rattle.utf8.specs.Rfc3629.{well_formed}
use Rattle.utf8.proofs.well_formed.Goals as goal

pub returns : goal.returns
unfolding well_formed
returns c = c.takes.ensures
