-- The first k places hold their entries or 0, k rising.
use Rattle.std.proofs.Common.{◌≡◌, ℕ, get_or}
use Rattle.seq.specs.Lists.{filled}
use Rattle.shuffle.proofs.lay_out.Given as goal

abbrev pub invariant-loop-k : goal.invariant-loop-k
invariant-loop-k l = l.entries ≡ filled (λ (i : ℕ). get_or l.fn.found i 0) l.k l.initial.entries
