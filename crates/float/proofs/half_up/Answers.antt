-- The two arms are `half-more` and `half-near` of Whole, at binary32.
use lib.Ieee.{binary32, of_bits}
use Rattle.float.specs.Known.{known}
use Rattle.float.specs.Beside.{half-more, half-near}
use Rattle.float.proofs.half_up.Goals as goal

pub returns-then-near-x : goal.returns-then-near-x
unfolding of_bits
returns-then-near-x c = half-more binary32 c.args.x (known c.well_formed.0.1) c.requires c.if-near-x.true

pub returns-else-near-x : goal.returns-else-near-x
unfolding of_bits
returns-else-near-x c = half-near binary32 c.args.x (known c.well_formed.0.1) c.requires c.if-near-x.false
