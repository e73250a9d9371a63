-- Place p of the turned matrix is line p % 8, column p / 8 of the matrix.
use Rattle.std.proofs.Common.{ℕ, ◌/◌, ◌%◌, List, ap, ◌∙◌, arith, rules}
use Rattle.std.specs.Float.Ieee.{Float}
use Rattle.seq.specs.Made.{array_made}
use Rattle.seq.specs.Tab.{tab-same}
use Rattle.dct.specs.Columns.{cell-grid, table-grid}
use Rattle.dct.specs.Grid.{cell}
use Rattle.dct.specs.Matrix.{dct_entry, dct_turned}
use Rattle.dct.proofs.dct_turned.Goals as goal

pub returns : goal.returns
returns c =
    let m = c.dct_matrix-matrix.result in
    let at = λ (p : ℕ). cell m (p % 8) (p / 8) in
    array_made _ at _ (λ i y d k. search rules) _ 64 c.from_fn.ensures.items
    ∙ tab-same at (λ p. dct_turned (p / 8) (p % 8)) 64
    (λ p P. ap (λ (x : List Float). cell x (p % 8) (p / 8)) c.dct_matrix-matrix.ensures ∙ cell-grid dct_entry (p % 8) (p / 8) (omega arith) (omega arith))
    ∙ table-grid dct_turned
