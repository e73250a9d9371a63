-- The bytes done hold the result, the others what they held (`filled`). A turn does at least one byte,
-- so the measure, what is left, falls.
use mathlib.Core.Path.{◌≡◌}
use mathlib.Core.List.{List}
use Prim.Native.Nat.{ℕ, ◌+◌, ◌-◌, ◌≤◌}
use lib.Bits.{bit_xor}
use lib.ListN.{length, get_or}
use Rattle.seq.specs.Lists.{filled}
use Rattle.chacha20.specs.Rfc8439.{keystream}
use Rattle.keystream.proofs.encrypt.Given as goal

-- byte k of the result
abbrev pub byte_at : List ℕ → List ℕ → ℕ → List ℕ → ℕ → ℕ
byte_at key nonce from bs k = bit_xor (get_or bs k 0) (keystream key nonce (from + k))

abbrev pub invariant-loop-done : goal.invariant-loop-done
invariant-loop-done l =
    (l.done ≤ length l.initial.bytes) × (length l.bytes ≡ length l.initial.bytes) × (l.bytes ≡ filled (byte_at l.key l.nonce l.from l.initial.bytes) l.done l.initial.bytes)

abbrev pub decreases-loop-done : goal.decreases-loop-done
decreases-loop-done l = length l.initial.bytes - l.done
