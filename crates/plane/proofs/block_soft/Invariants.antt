-- After b turns the votes of the first b blocks stand.
use Rattle.seq.specs.Fills.{Fills}
use Rattle.plane.specs.Plane.{plane_vote}
use Rattle.plane.proofs.block_soft.Given as goal

abbrev pub invariant-loop-b : goal.invariant-loop-b
invariant-loop-b l = Fills (plane_vote l.plane) 1024 l.b l.v-items
