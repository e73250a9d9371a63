-- An 8x8 block in one list of 64 values, line by line. Definitions only.
use Rattle.std.specs.Prelude.{List, ℕ, ◌+◌, ◌*◌, zero, suc, get_or, set, Float}
use Rattle.std.specs.Float.{nan}
use Rattle.seq.specs.Lists.{tab, lines}

-- line r, column c
abbrev pub cell : List Float → ℕ → ℕ → Float
cell x r c = get_or x (r * 8 + c) nan

abbrev pub block_line : (ℕ → ℕ → Float) → ℕ → List Float
block_line g r = tab (g r) 8

-- the block whose value at line r, column c is g r c
unfoldable pub grid : (ℕ → ℕ → Float) → List Float
grid g = lines (block_line g) 8

-- p with f 0, f 1, .. f (n - 1) down its column c
unfoldable pub column : (ℕ → Float) → ℕ → ℕ → List Float → List Float
column f c zero p = p
column f c (suc n) p = set (column f c n p) (n * 8 + c) (f n)
