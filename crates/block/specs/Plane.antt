-- Block b of the 256 x 256 plane, which stands first in the work area: at block row b / 32 and block column b % 32. What is loaded, and what a store leaves.
-- Definitions only.
use Rattle.std.specs.Prelude.{List, ℕ, ◌+◌, ◌*◌, ◌/◌, ◌%◌, get_or, Float}
use Rattle.std.specs.Float.{nan}
use Rattle.seq.specs.Lists.{pasted}
use Rattle.dct.specs.Grid.{grid, cell, block_line}

-- the place of line r of block b
abbrev pub line_at : ℕ → ℕ → ℕ
line_at b r = (b / 32 * 8 + r) * 256 + b % 32 * 8

unfoldable pub load_of : List Float → ℕ → List Float
load_of d b = grid (λ r c. get_or d (line_at b r + c) nan)

unfoldable pub stored_of : List Float → ℕ → List Float → List Float
stored_of d b x = pasted 8 (line_at b) (block_line (cell x)) 8 d
