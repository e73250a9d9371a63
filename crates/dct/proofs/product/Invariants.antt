-- After c turns the first c columns are the product's.
use Rattle.dct.specs.Columns.{FirstColumns}
use Rattle.dct.specs.Dct.{dot_of}
use Rattle.dct.proofs.product.Given as goal

abbrev pub invariant-loop-c : goal.invariant-loop-c
invariant-loop-c l = FirstColumns (dot_of l.a l.b) l.c l.p
