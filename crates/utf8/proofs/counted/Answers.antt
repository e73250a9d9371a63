-- The text is taken by the forms of the check on writing.
use Rattle.utf8.specs.Counted.{counted}
use Rattle.utf8.proofs.counted.Goals as goal

pub returns : goal.returns
unfolding counted
returns c = c.takes.ensures
