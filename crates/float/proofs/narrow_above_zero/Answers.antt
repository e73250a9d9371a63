-- `float::narrow_above_zero` meets its contract.
use Rattle.std.proofs.Common.{sym}
use lib.Ieee.{of_bits, nan_bits}
use Rattle.float.specs.Known.{known, known-not}
use Rattle.float.specs.Narrow.{narrow-large}
use Rattle.float.proofs.narrow_above_zero.Goals as goal

pub narrow_in_range-requires : goal.narrow_in_range-requires
unfolding of_bits
narrow_in_range-requires c = (c.requires, known c.if-x.true)

pub float_from_bits-result : goal.float_from_bits-result
unfolding nan_bits
float_from_bits-result c = tt

pub returns : goal.returns
unfolding of_bits
returns c = sym (narrow-large c.args.x c.requires (known-not c.if-x.false))
