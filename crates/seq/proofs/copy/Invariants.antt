-- After i turns the first i items of `from` are pasted.
use Rattle.std.proofs.Common.{◌≡◌, length}
use Rattle.std.proofs.Math.Seq.{paste}
use Rattle.seq.proofs.copy.Given as goal

abbrev pub invariant-loop-i : goal.invariant-loop-i
invariant-loop-i g l = (l.to ≡ paste l.initial.to l.at l.from l.i) × (length l.to ≡ length l.initial.to)
