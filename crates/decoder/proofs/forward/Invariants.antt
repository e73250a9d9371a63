-- After t steps the metric is the definition's after the first 2 t votes, and the first t decisions are its.
use Rattle.std.proofs.Common.{◌≡◌, ◌*◌, length, take}
use Rattle.decoder.specs.Decoder.{floats, metrics_after, starting}
use Rattle.decoder.specs.Decisions.{decision_rows}
use Rattle.decoder.proofs.forward.Given as goal

abbrev pub invariant-loop-t : goal.invariant-loop-t
invariant-loop-t l =
    (length l.decisions ≡ length l.initial.decisions) × (l.metric ≡ metrics_after floats (starting floats) (take (2 * l.t) l.soft))
    × (take l.t l.decisions ≡ decision_rows floats (starting floats) (take (2 * l.t) l.soft))
