-- A rotation as the library has it is the roll of section 2.1: the two shifts have no digit in common (`turned`), so their `|` is
-- a sum, as in the definition.
use Rattle.std.proofs.Common.{◌≡◌, ℕ, ◌+◌, ◌-◌, ◌*◌, ◌/◌, ◌%◌, ◌^◌, ◌<◌, ◌∙◌, add-zero, add_comm, arith, shr_lt, w32}
use Rattle.std.proofs.Math.Nat.{mul-mod_left}
use Rattle.std.specs.Int.{rotate_left}
use Rattle.std.specs.Int.Bits.{bit_or, bit_xor, xor_lt}
use lib.Bits.{or_shifted}
use lib.Pow.{mod-pow-add, shl-shr}
use Rattle.chacha20.specs.Rfc8439.{roll}

-- j + k digits turned by k: the k digits that go round have no place in common with the others
turned : (j k x : ℕ) → x < 2 ^ (j + k) → bit_or (x * 2 ^ k % 2 ^ (j + k)) (x / 2 ^ j) ≡ x * 2 ^ k % 2 ^ (j + k) + x / 2 ^ j
turned j k x h =
    let cut : x * 2 ^ k % 2 ^ (j + k) ≡ x % 2 ^ j * 2 ^ k = mod-pow-add (x * 2 ^ k) j k ∙ rw (shl-shr, mul-mod_left) (add-zero _) in
    rw cut (or_shifted (x % 2 ^ j) k (x / 2 ^ j) (shr_lt k j (rw add_comm at h)))

-- a step of the quarter round: the exclusive or of two words, rolled
pub rolled : (k x y r : ℕ) → k < 32 → 0 < k → x < 2 ^ 32 → y < 2 ^ 32 → r ≡ rotate_left w32 (bit_xor x y) k → r ≡ roll k (bit_xor x y)
rolled k x y r h l X Y e =
    let z = bit_xor x y in
    let low : k % 32 ≡ k = omega arith in
    let high : (32 - k) % 32 ≡ 32 - k = omega arith in
    let whole : 32 - k + k ≡ 32 = omega arith in
    e ∙ rw (low, high) (rw whole at (turned (32 - k) k z (rw whole (xor_lt 32 x y X Y))))
