-- After r turns the first r lines stand in their places.
use Rattle.std.proofs.Common.{◌≡◌, ◌≤◌, length}
use Rattle.seq.specs.Lists.{pasted}
use Rattle.dct.specs.Grid.{cell, block_line}
use Rattle.block.specs.Plane.{line_at}
use Rattle.block.proofs.store_block.Given as goal

abbrev pub invariant-loop-r : goal.invariant-loop-r
invariant-loop-r l =
    (l.r-counter ≤ 8) × (length l.plane ≡ length l.initial.plane) × (l.plane ≡ pasted 8 (line_at l.b) (block_line (cell l.values)) l.r-counter l.initial.plane)
