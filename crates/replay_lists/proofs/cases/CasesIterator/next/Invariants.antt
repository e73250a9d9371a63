-- Each field that was found is a byte at least. The measure is the number of fields that the case may still have.
use Rattle.std.proofs.Common.{length, ◌+◌, ◌-◌, ◌≤◌}
use Rattle.replay_lists.proofs.cases.CasesIterator.next.Given as goal

abbrev pub invariant-loop-found : goal.invariant-loop-found
invariant-loop-found l = l.found + length l.self.fields.rest.now ≤ length l.initial.self.fields.rest.now

abbrev pub decreases-loop-found : goal.decreases-loop-found
decreases-loop-found l = l.self.size - l.found
