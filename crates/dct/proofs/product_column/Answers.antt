-- After r turns the column's first r values are stored.
use Rattle.dct.specs.Columns.{column-none, column-more}
use Rattle.dct.proofs.product_column.Goals as goal

pub loop-r-init : goal.loop-r-init
loop-r-init c = column-none _ _ _

pub loop-r-preserved : goal.loop-r-preserved
loop-r-preserved c = rw (c.loop-r.invariant, c.dot.ensures) (column-more _ _ _ _)
