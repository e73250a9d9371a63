-- Before number j the sum is that of the positive tents of the k numbers before it.
use Rattle.std.proofs.Common.{◌≡◌, ℕ, ◌≤◌, pos, ◌+ℤ◌}
use Rattle.resample_window.specs.Window.{tent_sum, numbers}
use Rattle.resample_window.proofs.Window.sum_tents.Given as goal

abbrev pub invariant-loop-j : goal.invariant-loop-j
invariant-loop-j l = (k : ℕ) × (l.j ≡ l.self.first +ℤ pos k) × (k ≤ numbers l.self.first l.self.last) × (l.sum ≡ tent_sum l.self k)
