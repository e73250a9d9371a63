-- After b turns the first b blocks are changed, one after the other.
use Rattle.std.proofs.Common.{◌≡◌, length}
use Rattle.plane.specs.Plane.{changed_first}
use Rattle.plane.proofs.embed_bits.Given as goal

abbrev pub invariant-loop-b : goal.invariant-loop-b
invariant-loop-b l = (length l.plane ≡ length l.initial.plane) × (l.plane ≡ changed_first l.bits l.b l.initial.plane)
