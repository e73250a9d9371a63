-- The bytes of an arm reach one form of the table, counted from 0 in the order of section 4; those of the last arm reach none of the nine.
use native.Mathlib.Omega.{arith}
use Rattle.std.proofs.Common.{◌∙◌}
use Rattle.utf8.specs.Forms.{forms}
use Rattle.utf8.specs.Rfc3629.{UTF8-char}
use Rattle.utf8.specs.Reading.{due}
use Rattle.utf8.proofs.Reaches.{reaches}
use Rattle.utf8.proofs.Rfc3629Grammar.after.Goals as goal

pub returns-in-224 : goal.returns-in-224
unfolding forms due
returns-in-224 c = c.new.ensures ∙ reaches (forms UTF8-char) 2 c.args.lead (omega arith)

pub returns-in-237 : goal.returns-in-237
unfolding forms due
returns-in-237 c = c.new-in-237.ensures ∙ reaches (forms UTF8-char) 4 c.args.lead (omega arith)

pub returns-in-240 : goal.returns-in-240
unfolding forms due
returns-in-240 c = c.new-in-240.ensures ∙ reaches (forms UTF8-char) 6 c.args.lead (omega arith)

pub returns-in-244 : goal.returns-in-244
unfolding forms due
returns-in-244 c = c.new-in-244.ensures ∙ reaches (forms UTF8-char) 8 c.args.lead (omega arith)

pub returns-then-lead-le127 : goal.returns-then-lead-le127
unfolding forms due
returns-then-lead-le127 c = c.tails.ensures ∙ reaches (forms UTF8-char) 0 c.args.lead (omega arith)

pub returns-in-194-to-223 : goal.returns-in-194-to-223
unfolding forms due
returns-in-194-to-223 c = c.tails-in-194-to-223.ensures ∙ reaches (forms UTF8-char) 1 c.args.lead (omega arith)

pub returns-in-225-to-236 : goal.returns-in-225-to-236
unfolding forms due
returns-in-225-to-236 c = c.tails-in-225-to-236.ensures ∙ reaches (forms UTF8-char) 3 c.args.lead (omega arith)

pub returns-in-238-to-239 : goal.returns-in-238-to-239
unfolding forms due
returns-in-238-to-239 c = c.tails-in-238-to-239.ensures ∙ reaches (forms UTF8-char) 5 c.args.lead (omega arith)

pub returns-in-241-to-243 : goal.returns-in-241-to-243
unfolding forms due
returns-in-241-to-243 c = c.tails-in-241-to-243.ensures ∙ reaches (forms UTF8-char) 7 c.args.lead (omega arith)

pub returns-in_default : goal.returns-in_default
unfolding forms
returns-in_default c = reaches (forms UTF8-char) 9 c.args.lead (omega arith)

pub returns-in_default-2 : goal.returns-in_default-2
unfolding forms
returns-in_default-2 c = reaches (forms UTF8-char) 9 c.args.lead (omega arith)
