-- The bytes of an arm reach one form of the table, counted from 0; those of the last arm reach none of the four.
use native.Mathlib.Omega.{arith}
use Rattle.std.proofs.Common.{◌∙◌}
use Rattle.utf8.specs.Forms.{forms}
use Rattle.utf8.specs.Counted.{counted_char}
use Rattle.utf8.specs.Reading.{due}
use Rattle.utf8.proofs.Reaches.{reaches}
use Rattle.utf8.proofs.CountingGrammar.after.Goals as goal

pub returns-then-lead-le127 : goal.returns-then-lead-le127
unfolding forms due
returns-then-lead-le127 c = c.tails.ensures ∙ reaches (forms counted_char) 0 c.args.lead (omega arith)

pub returns-in-192-to-223 : goal.returns-in-192-to-223
unfolding forms due
returns-in-192-to-223 c = c.tails-in-192-to-223.ensures ∙ reaches (forms counted_char) 1 c.args.lead (omega arith)

pub returns-in-224-to-239 : goal.returns-in-224-to-239
unfolding forms due
returns-in-224-to-239 c = c.tails-in-224-to-239.ensures ∙ reaches (forms counted_char) 2 c.args.lead (omega arith)

pub returns-in-240-to-247 : goal.returns-in-240-to-247
unfolding forms due
returns-in-240-to-247 c = c.tails-in-240-to-247.ensures ∙ reaches (forms counted_char) 3 c.args.lead (omega arith)

pub returns-in_default : goal.returns-in_default
unfolding forms
returns-in_default c = reaches (forms counted_char) 4 c.args.lead (omega arith)

pub returns-in_default-2 : goal.returns-in_default-2
unfolding forms
returns-in_default-2 c = reaches (forms counted_char) 4 c.args.lead (omega arith)
