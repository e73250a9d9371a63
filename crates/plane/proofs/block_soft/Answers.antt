-- After b turns the votes of the first b blocks stand.
use Rattle.std.proofs.Common.{refl, ap, ◌∙◌, List, arith}
use Rattle.std.specs.Float.Ieee.{Float}
use Rattle.seq.specs.Fills.{fills-none, fills-more, fills-all}
use Rattle.block.specs.Plane.{load_of}
use Rattle.plane.specs.Plane.{block_vote, votes_of}
use Rattle.plane.proofs.block_soft.Goals as goal

pub loop-b-init : goal.loop-b-init
loop-b-init c = fills-none _ _ _ refl

pub loop-b-preserved : goal.loop-b-preserved
loop-b-preserved c =
    let l = c.loop-b in
    fills-more l.invariant (omega arith) (c.vote.ensures ∙ ap (λ (u : List Float). block_vote u (load_of c.args.plane.now l.b)) c.of.ensures)

pub returns : goal.returns
unfolding votes_of
returns c = fills-all c.loop-b.invariant (omega arith)
