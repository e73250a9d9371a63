-- The bytes passed are put through, the others as they were (`filled`).
use Rattle.std.proofs.Common.{◌≡◌, ◌+◌, get_or}
use Rattle.std.specs.Int.Bits.{bit_xor}
use Rattle.seq.specs.Lists.{filled}
use Rattle.keystream.proofs.xor_bytes.Given as goal

abbrev pub invariant-loop-i : goal.invariant-loop-i
invariant-loop-i l = l.bytes ≡ filled (λ k. bit_xor (get_or l.initial.bytes k 0) (get_or l.stream (l.at + k) 0)) l.i l.initial.bytes
