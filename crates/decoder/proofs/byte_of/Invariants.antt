-- After k turns the value is that of k bits, the highest first, which fits a byte.
use Rattle.std.proofs.Common.{◌≡◌, ◌*◌}
use Rattle.decoder.specs.Loops.{eaten}
use Rattle.decoder.proofs.byte_of.Given as goal

abbrev pub invariant-loop-bit : goal.invariant-loop-bit
invariant-loop-bit l = l.v ≡ eaten l.bits (8 * l.i) l.bit-index
