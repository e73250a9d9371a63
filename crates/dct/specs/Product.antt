-- The product of two 8x8 matrices in `f32`, and what it has to do with the transforms: a block times the turned matrix puts its
-- lines through the matrix, and the matrix times a block its columns.
use Rattle.std.specs.Prelude.{◌≡◌, List, ℕ, Float}
use Rattle.std.proofs.Common.{◌∙◌, ap}
use Rattle.std.specs.Float.{binary32}
use Rattle.std.specs.Float.Ieee.{add, mul}
use Rattle.seq.specs.Sum.{sum_same}
use Rattle.float.specs.Base.{zero-}
use Rattle.float_laws.specs.Commute.{mul_commutes}
use Rattle.dct.specs.Grid.{grid, cell}
use Rattle.dct.specs.Columns.{cell-grid, grid-same}
use Rattle.dct.specs.Dct.{through_rows, through_columns, dot_of}

-- the weights stand in b with lines and columns exchanged, and in a as they are
pub rows-by : (w : ℕ → ℕ → Float) (x b : List Float) → b ≡ grid (λ j k. w k j) → grid (dot_of x b) ≡ through_rows w x
unfolding dot_of through_rows
rows-by w x b e =
    grid-same _ _
    (λ r k R K.
    sum_same (add binary32) zero- _ _ 8
    (λ j J. mul_commutes binary32 (cell x r j) (cell b j k)
    ∙ ap (λ (z : Float). mul binary32 z (cell x r j)) (ap (λ (l : List Float). cell l j k) e ∙ cell-grid (λ j k. w k j) j k J K)))

pub columns-by : (w : ℕ → ℕ → Float) (a x : List Float) → a ≡ grid w → grid (dot_of a x) ≡ through_columns w x
unfolding dot_of through_columns
columns-by w a x e =
    grid-same _ _ (λ k c K C. sum_same (add binary32) zero- _ _ 8
    (λ j J. ap (λ (z : Float). mul binary32 z (cell x j c)) (ap (λ (l : List Float). cell l k j) e ∙ cell-grid w k j K J)))
