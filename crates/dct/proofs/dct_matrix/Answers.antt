-- Place p of the matrix laid out line by line is line p / 8, column p % 8 of the rows, which compute to the constant.
use Rattle.std.proofs.Common.{ℕ, ◌/◌, ◌%◌, ◌∙◌, rules}
use Rattle.std.specs.Float.Ieee.{of_bits}
use Rattle.seq.specs.Made.{array_made}
use Rattle.dct.specs.Columns.{table-grid}
use Rattle.dct.specs.Matrix.{dct_entry}
use Rattle.dct.proofs.dct_matrix.Goals as goal

pub returns : goal.returns
unfolding of_bits
returns c =
    let at = λ (p : ℕ). dct_entry (p / 8) (p % 8) in
    array_made _ at _ (λ i y d k. search rules) _ 64 c.from_fn.ensures.items ∙ table-grid dct_entry
