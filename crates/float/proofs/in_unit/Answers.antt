-- It is the definition: the second test where the first holds, and false where it does not.
use Rattle.std.proofs.Common.{Bool, ◌&&◌, sym, ap, ◌∙◌}
use lib.Ieee.{of_bits, neg, le}
use Rattle.float.specs.Base.{two_to}
use Rattle.float.specs.Calls.{in_unit}
use Rattle.float.proofs.in_unit.Goals as goal

pub returns-then-x : goal.returns-then-x
unfolding of_bits neg in_unit
returns-then-x c = sym (ap (λ (t : Bool). t && le c.args.x (two_to 0)) c.if-x.true)

pub returns-else-x : goal.returns-else-x
unfolding of_bits neg in_unit
returns-else-x c = c.if-x.false ∙ sym (ap (λ (t : Bool). t && le c.args.x (two_to 0)) c.if-x.false)
