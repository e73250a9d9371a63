-- One byte further, and for a comment behind its line.
use Rattle.replay_lists.proofs.Parts.{behind_part, behind_one}
use Rattle.replay_lists.proofs.cases.past_blanks.Goals as goal

pub loop-first-preserved-then-is_blank : goal.loop-first-preserved-then-is_blank
loop-first-preserved-then-is_blank c = behind_one _ _ _ _ c.loop-first.invariant c.in-Some.ensures.cases.0

pub loop-first-preserved : goal.loop-first-preserved
loop-first-preserved c =
    behind_part _ _ _ (behind_one _ _ _ _ c.loop-first.invariant c.in-Some.ensures.cases.0) c.past_line-rest.ensures
