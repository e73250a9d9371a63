-- The 8x8 transform and its inverse, over the matrix of `Matrix`. A sum of eight is taken in index order from -0, in `f32`. Definitions only.
use Rattle.std.specs.Prelude.{List, ℕ, Float}
use Rattle.std.specs.Float.{binary32}
use Rattle.std.specs.Float.Ieee.{add, mul}
use Rattle.seq.specs.Lists.{sum_to}
use Rattle.float.specs.Base.{zero-}
use Rattle.dct.specs.Grid.{grid, cell}
use Rattle.dct.specs.Matrix.{dct_entry, dct_turned}

-- (..((-0 + f 0) + f 1) + ..) + f 7
abbrev pub sum_of_eight : (ℕ → Float) → Float
sum_of_eight f = sum_to (add binary32) zero- 8 f

-- line r of a times column c of b
unfoldable pub dot_of : List Float → List Float → ℕ → ℕ → Float
dot_of a b r c = sum_of_eight (λ j. mul binary32 (cell a r j) (cell b j c))

-- each line, and each column, put through the weights w: its value k is the sum over j of w k j times value j
unfoldable pub through_rows : (ℕ → ℕ → Float) → List Float → List Float
through_rows w x = grid (λ r k. sum_of_eight (λ j. mul binary32 (w k j) (cell x r j)))

unfoldable pub through_columns : (ℕ → ℕ → Float) → List Float → List Float
through_columns w x = grid (λ k c. sum_of_eight (λ j. mul binary32 (w k j) (cell x j c)))

-- rows, then columns: afterwards line k, column l is the vertical frequency k, horizontal l
abbrev pub forward_of : List Float → List Float
forward_of x = through_columns dct_entry (through_rows dct_entry x)

-- columns, then rows
abbrev pub inverse_of : List Float → List Float
inverse_of x = through_rows dct_turned (through_columns dct_turned x)
