-- State k takes the better of its two predecessors: two loops, for the states below 32 and the others, fill the metrics
-- and the decisions in the definition's order.
use Rattle.std.proofs.Common.{◌≡◌, List, length, take, ℕ}
use Rattle.std.specs.Float.Ieee.{Float}
use Rattle.seq.specs.Lists.{tab}
use Rattle.decoder.specs.Decoder.{floats, best_at, odd_at}
use Rattle.decoder.specs.Decisions.{packed}
use Rattle.decoder.proofs.advance.Given as goal

-- the first k states are done
abbrev pub Done : List Float → Float → Float → ℕ → List Float → ℕ → Type 0
Done m s0 s1 k next odd = (length next ≡ 64) × (take k next ≡ tab (best_at floats m s0 s1) k) × (odd ≡ packed (odd_at floats m s0 s1) k)

abbrev pub invariant-loop-k : goal.invariant-loop-k
invariant-loop-k l = Done l.m l.s0 l.s1 l.k l.next l.odd

abbrev pub invariant-loop-k-2 : goal.invariant-loop-k-2
invariant-loop-k-2 l = Done l.m l.s0 l.s1 l.k l.next l.odd
