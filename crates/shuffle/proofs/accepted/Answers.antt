-- The law on the limit, at what -range wraps to.
use Rattle.std.proofs.Common.{sym, arith}
use Rattle.shuffle.specs.Draws.{limit-wraps, limit-none}
use Rattle.shuffle.proofs.accepted.Goals as goal

pub returns-then-range-ne0 : goal.returns-then-range-ne0
returns-then-range-ne0 c = limit-wraps c.args.value c.args.range c.wrapping_neg.result (omega arith) (omega (arith, c.wrapping_neg.ensures))

pub returns-else-range-ne0 : goal.returns-else-range-ne0
returns-else-range-ne0 c = rw c.if-range-ne0.false (sym (limit-none c.args.value))
