-- After r turns the first r lines stand in the block.
use Rattle.std.proofs.Common.{◌≡◌, ℕ, ◌+◌, ◌*◌, ◌≤◌, List, length, take, get_or}
use Rattle.std.specs.Float.Ieee.{Float, nan}
use Rattle.seq.specs.Lists.{lines}
use Rattle.dct.specs.Grid.{block_line}
use Rattle.block.specs.Plane.{line_at}
use Rattle.block.proofs.load_block.Given as goal

-- the block's first r lines are those of g
abbrev pub Begun : (ℕ → ℕ → Float) → ℕ → List Float → Type 0
Begun g r p = (length p ≡ 64) × (take (r * 8) p ≡ lines (block_line g) r)

abbrev pub invariant-loop-r : goal.invariant-loop-r
invariant-loop-r l = (l.r ≤ 8) × Begun (λ i k. get_or l.plane (line_at l.b i + k) nan) l.r l.values
