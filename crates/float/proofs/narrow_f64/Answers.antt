-- `float::narrow_f64` meets its contract.
use Rattle.std.proofs.Common.{ap, ◌∙◌}
use lib.Ieee.{neg, of_bits, div}
use Rattle.float.specs.Calls.{narrow}
use Rattle.float.specs.Known.{known}
use Rattle.float.specs.Whole.{neg-neg}
use Rattle.float.specs.Narrow.{narrow-neg, narrow-zero, narrow-nan, above-turned}
use Rattle.float.proofs.narrow_f64.Goals as goal

pub narrow_above_zero-requires-then-x-2 : goal.narrow_above_zero-requires-then-x-2
unfolding of_bits
narrow_above_zero-requires-then-x-2 c = above-turned c.args.x (known c.if-x-2.true)

pub returns-then-x-2 : goal.returns-then-x-2
returns-then-x-2 c =
    let x = c.args.x in
    ap neg c.narrow_above_zero-then-x-2.ensures ∙ ap neg (narrow-neg x) ∙ neg-neg (narrow x)

pub float_to_float-result : goal.float_to_float-result
unfolding of_bits
float_to_float-result c =
    let at = c in
    (narrow-zero at.args.x (known at.well_formed.0.1) c.if-x-3.true).0

pub returns-then-x-3 : goal.returns-then-x-3
unfolding of_bits
returns-then-x-3 c =
    let at = c in
    (narrow-zero at.args.x (known at.well_formed.0.1) c.if-x-3.true).1

pub returns : goal.returns
unfolding of_bits div
returns c = narrow-nan c.args.x c.if-x.false c.if-x-2.false c.if-x-3.false
