-- What is left is a part of the text. The measure is its length.
use Rattle.std.proofs.Common.{length}
use Rattle.replay_lists.specs.Fields.{IsPartBehind}
use Rattle.replay_lists.proofs.cases.past_blanks.Given as goal

abbrev pub invariant-loop-first : goal.invariant-loop-first
invariant-loop-first l = IsPartBehind l.text l.rest

abbrev pub decreases-loop-first : goal.decreases-loop-first
decreases-loop-first l = length l.rest
