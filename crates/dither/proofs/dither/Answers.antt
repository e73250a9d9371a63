-- Sixteen numbers are one block's: 16 g + k is number k of block g.
use mathlib.Core.Path.{ap, ◌∙◌}
use mathlib.Core.List.{List}
use Prim.Native.Nat.{ℕ}
use Rattle.seq.specs.Lists.{tab}
use Rattle.shuffle.specs.Shuffle.{layout_key}
use Rattle.dither.specs.Dither.{dither_nonce, dithered}
use Rattle.dither.specs.Numbers.{group_of}
use Rattle.dither.proofs.dither.Goals as goal

pub returns : goal.returns
unfolding layout_key dither_nonce
returns c = c.numbers.ensures
    ∙ (ap (λ (l : List ℕ). tab (dithered l) 16) c.block.ensures ∙ group_of c.args.group)
