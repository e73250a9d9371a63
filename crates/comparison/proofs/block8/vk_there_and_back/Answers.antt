-- The blocks passed are done (`there_and_back`).
use Rattle.std.proofs.Common.{refl, ap, ◌∙◌, add-one, List}
use Rattle.std.specs.Float.Ieee.{Float}
use Rattle.comparison.specs.Blocks.{block_there_and_back, there_and_back}
use Rattle.comparison.proofs.block8.vk_there_and_back.Goals as goal

pub loop-b-init : goal.loop-b-init
unfolding there_and_back
loop-b-init c = refl

pub loop-b-preserved : goal.loop-b-preserved
unfolding there_and_back
loop-b-preserved c =
    let l = c.loop-b in
    rw (add-one) (c.block_there_and_back.ensures ∙ ap (λ (d : List Float). block_there_and_back d l.b) l.invariant)
