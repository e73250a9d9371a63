-- After n turns the state is that of n inner blocks.
use Rattle.std.proofs.Common.{◌≡◌}
use Rattle.chacha20.specs.Rfc8439.{rounds}
use Rattle.chacha20.proofs.ten_times.Given as goal

abbrev pub invariant-loop : goal.invariant-loop
invariant-loop l = l.s ≡ rounds l.counter l.initial.s
