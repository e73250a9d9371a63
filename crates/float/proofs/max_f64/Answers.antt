-- By the two tests (Choice).
use Rattle.std.proofs.Common.{true, false, sym}
use Rattle.float.specs.Choice.{most-nan, most-number}
use Rattle.float.proofs.max_f64.Goals as goal

pub returns-then-a : goal.returns-then-a
returns-then-a c = sym (most-nan c.args.a c.args.b c.if-a.true)

pub returns-then-a-b : goal.returns-then-a-b
returns-then-a-b c = sym (most-number c.args.a c.args.b true c.if-a.false c.if-a-b.true)

pub returns-else-a-b : goal.returns-else-a-b
returns-else-a-b c = sym (most-number c.args.a c.args.b false c.if-a.false c.if-a-b.false)
