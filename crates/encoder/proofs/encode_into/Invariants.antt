-- After t turns the state is that after t bits, and the first 2 t outputs are those of t bits.
use Rattle.std.proofs.Common.{◌≡◌, ◌*◌, ◌<◌, length, take}
use Rattle.encoder.specs.Ccsds131.{code, run, record_bits, six_zeros}
use Rattle.encoder.proofs.encode_into.Given as goal

abbrev pub invariant-loop-t : goal.invariant-loop-t
invariant-loop-t l =
    (length l.coded ≡ length l.initial.coded) × (l.state < 64) × (l.state ≡ run 0 (take l.t (record_bits l.bytes six_zeros)))
    × (take (2 * l.t) l.coded ≡ code 0 (take l.t (record_bits l.bytes six_zeros)))
