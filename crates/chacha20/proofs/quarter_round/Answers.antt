-- The four stores are those of the definition, with the quarter round's four words.
use Rattle.std.proofs.Common.{refl}
use Rattle.chacha20.specs.Rfc8439.{quarter_round}
use Rattle.chacha20.proofs.quarter_round.Goals as goal

pub returns : goal.returns
unfolding quarter_round
returns c = rw c.quarter.ensures refl
