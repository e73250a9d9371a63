-- What the four calls promise, one in the other.
use mathlib.Core.Path.{◌∙◌, ap}
use mathlib.Core.List.{List}
use lib.Ieee.{Float, binary32, sub}
use Rattle.dct.specs.Grid.{grid, cell}
use Rattle.dct.specs.Dct.{inverse_of}
use Rattle.block.specs.Mark.{marked_block}
use Rattle.plane.specs.Plane.{block_change}
use Rattle.plane.proofs.block_change.Goals as goal

pub returns : goal.returns
unfolding block_change
returns c =
    let args = c.args in
    c.difference.ensures
    ∙ ap (λ (x : List Float). grid (λ r c. sub binary32 (cell x r c) (cell args.values.now r c)))
    (c.inverse.ensures ∙ ap inverse_of (c.mark_block.ensures ∙ ap (marked_block args.u args.bit) c.forward.ensures))
