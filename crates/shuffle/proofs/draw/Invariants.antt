-- What is drawn from `from` on is what is drawn from `at` on; each turn uses eight bytes of those left.
use Rattle.std.proofs.Common.{◌≡◌}
use Rattle.keystream.specs.Apply.{left_at}
use Rattle.shuffle.specs.Shuffle.{drawn, draws_from, stream_of}
use Rattle.shuffle.proofs.draw.Given as goal

abbrev pub invariant-loop-next : goal.invariant-loop-next
invariant-loop-next l = drawn (stream_of l.key) l.range (draws_from l.at) l.at ≡ drawn (stream_of l.key) l.range (draws_from l.from) l.from

abbrev pub decreases-loop-next : goal.decreases-loop-next
decreases-loop-next l = left_at l.at
