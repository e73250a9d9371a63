-- The block times the turned matrix puts the lines through the matrix, and the matrix times that the columns.
use mathlib.Core.Path.{◌∙◌, ap}
use Rattle.dct.specs.Matrix.{dct_entry}
use Rattle.dct.specs.Dct.{through_columns}
use Rattle.dct.specs.Product.{rows-by, columns-by}
use Rattle.dct.proofs.Transform.forward.Goals as goal

pub returns : goal.returns
returns c =
    c.product-2.ensures ∙ (columns-by dct_entry c.args.self.now.matrix _ c.args.self.now.matrix_is
    ∙ ap (through_columns dct_entry) (c.product.ensures ∙ rows-by dct_entry c.args.block.now _ c.args.self.now.turned_is))
