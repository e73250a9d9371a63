-- The turned matrix times the block puts the columns through the turned matrix, and that times the matrix the lines.
use mathlib.Core.Path.{◌∙◌, ap}
use Rattle.dct.specs.Matrix.{dct_turned}
use Rattle.dct.specs.Dct.{through_rows}
use Rattle.dct.specs.Product.{rows-by, columns-by}
use Rattle.dct.proofs.Transform.inverse.Goals as goal

pub returns : goal.returns
returns c =
    c.product-2.ensures ∙ (rows-by dct_turned _ c.args.self.now.matrix c.args.self.now.matrix_is
    ∙ ap (through_rows dct_turned) (c.product.ensures ∙ columns-by dct_turned c.args.self.now.turned _ c.args.self.now.turned_is))
