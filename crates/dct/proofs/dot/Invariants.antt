-- After j turns the first j products are summed.
use Rattle.std.proofs.Common.{◌≡◌}
use Rattle.std.specs.Float.Ieee.{binary32, add, mul}
use Rattle.seq.specs.Lists.{sum_to}
use Rattle.float.specs.Base.{zero-}
use Rattle.dct.specs.Grid.{cell}
use Rattle.dct.proofs.dot.Given as goal

abbrev pub invariant-loop-j : goal.invariant-loop-j
invariant-loop-j l = l.t ≡ sum_to (add binary32) zero- l.j (λ i. mul binary32 (cell l.a l.r i) (cell l.b i l.c))
