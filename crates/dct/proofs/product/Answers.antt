-- After c turns the first c columns are the product's.
use Rattle.std.proofs.Common.{arith}
use Rattle.dct.specs.Columns.{columns-more, columns-all}
use Rattle.dct.proofs.product.Goals as goal

pub loop-c-preserved : goal.loop-c-preserved
loop-c-preserved c = columns-more _ _ _ _ c.loop-c-test.true c.loop-c.invariant c.product_column.ensures

pub returns : goal.returns
returns c = columns-all _ c.loop-c.c _ (omega arith) c.loop-c.invariant
