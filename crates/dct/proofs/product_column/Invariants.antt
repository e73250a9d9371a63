-- After r turns the column's first r values are stored.
use Rattle.std.proofs.Common.{◌≡◌}
use Rattle.dct.specs.Grid.{column}
use Rattle.dct.specs.Dct.{dot_of}
use Rattle.dct.proofs.product_column.Given as goal

abbrev pub invariant-loop-r : goal.invariant-loop-r
invariant-loop-r l = l.p ≡ column (λ i. dot_of l.a l.b i l.c) l.c l.r l.initial.p
