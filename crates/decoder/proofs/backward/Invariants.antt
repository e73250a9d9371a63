-- From the end on: the state is where the decisions from t on begin, and the bits from t on are those of their path.
use Rattle.std.proofs.Common.{◌≡◌, ◌<◌, length, drop}
use Rattle.decoder.specs.Decisions.{traced_from, traced_path}
use Rattle.decoder.proofs.backward.Given as goal

abbrev pub invariant-loop-t : goal.invariant-loop-t
invariant-loop-t l =
    (length l.bits ≡ length l.initial.bits) × (l.state < 64) × (l.state ≡ traced_from (drop l.t l.decisions) l.end)
    × (drop l.t l.bits ≡ traced_path (drop l.t l.decisions) l.end)
