-- By the two tests (Choice).
use Rattle.std.proofs.Common.{true, false, sym}
use Rattle.float.specs.Choice.{least-nan, least-number}
use Rattle.float.proofs.min_f32.Goals as goal

pub returns-then-a : goal.returns-then-a
returns-then-a c = sym (least-nan c.args.a c.args.b c.if-a.true)

pub returns-then-b-a : goal.returns-then-b-a
returns-then-b-a c = sym (least-number c.args.a c.args.b true c.if-a.false c.if-b-a.true)

pub returns-else-b-a : goal.returns-else-b-a
returns-else-b-a c = sym (least-number c.args.a c.args.b false c.if-a.false c.if-b-a.false)
