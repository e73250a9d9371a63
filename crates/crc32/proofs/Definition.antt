-- Theorems that rest on the order of a byte's bits, or on the polynomial, as specs/Ieee8023.antt defines them: what a byte adds
-- to the register, and the CRC by the register.
use Rattle.std.specs.Prelude.{◌≡◌, Bool, true, false, List, ◌∷◌, ◌++◌, ℕ, zero, suc, ◌+◌, ◌*◌, ◌-◌, ◌/◌, ◌%◌, ◌^◌, ◌≤◌, ◌<◌, length, get_or, drop, replicate}
use Rattle.std.proofs.Common.{sym, ap, ap₂, ◌∙◌, mod-eq_of_lt, add-one, arith, length-append, length-drop, drop-cons}
use mathlib.Core.List.{tail}
use Rattle.std.proofs.Math.Nat.{mod-one}
use Rattle.std.specs.Int.Bits.{bit_xor}
use Rattle.std.proofs.lemmas.Nat.{mod-pow-add}
use Rattle.crc32.specs.Ieee8023.{◌⊕◌, low_bits, number, transmitted, remainder, generator, polynomial, among, complemented, crc_of}
use Rattle.crc32.specs.Sum.{length-plus, complemented-sum}
use Rattle.crc32.specs.Division.{length-remainder}
use Rattle.crc32.specs.Numbers.{low_bit, number-sum, xor_assoc}
use Rattle.crc32.specs.Register.{finds-remainder}
use Rattle.crc32.specs.Shift.{register_of, reflected, register_turns, register_after}
use Rattle.crc32.specs.Bytes.{defer, length-transmitted}

-- ---- bytes

pub number-bits : (k n : ℕ) → number (low_bits k n) ≡ n % 2 ^ k
unfolding number low_bits
number-bits zero n = sym (mod-one n)
number-bits (suc k) n = rw (number-bits k (n / 2), low_bit n, ← add-one k) (sym (mod-pow-add n k 1))

-- a byte with k bytes behind it has its own turns to go and theirs
after-byte : (b : ℕ) (s : List ℕ) (x k : ℕ) → b < 256 → length s ≡ k
    → register_after x (b ∷ s) ≡ bit_xor (register_turns reflected (8 * (k + 1)) (bit_xor b x % 256)) (register_after (x / 256) s)
unfolding register_after transmitted low_bits
after-byte b s x k h e =
    let it : number (low_bits 8 b) ≡ b = number-bits 8 b ∙ mod-eq_of_lt h in
    let to-go : 8 + length (transmitted s) ≡ 8 * (k + 1) = omega (arith, length-transmitted s) in
    defer reflected (low_bits 8 b) (transmitted s) x
    ∙ ap₂ (λ (n z : ℕ). bit_xor (register_turns reflected n (bit_xor z x % 256)) (register_after (x / 256) s)) to-go it

-- the byte at i is looked up
pub register-more : (x sum i : ℕ) (s : List ℕ) → i < length s → get_or s i 0 < 256
    → bit_xor (bit_xor sum (register_turns reflected (8 * (length s - 1 - i + 1)) (bit_xor (get_or s i 0) x % 256))) (register_after (x / 256) (drop (i + 1) s))
    ≡ bit_xor sum (register_after x (drop i s))
register-more x sum i s h l =
    let b = get_or s i 0 in
    let rest = drop (suc i) s in
    let size : length rest ≡ length s - 1 - i = omega (arith, length-drop (suc i) s) in
    rw (add-one i, drop-cons s i 0 h, after-byte b rest x (length s - 1 - i) l size)
    (xor_assoc sum (register_turns reflected (8 * (length s - 1 - i + 1)) (bit_xor b x % 256)) (register_after (x / 256) rest))

-- ---- the CRC by the register

pub crc-register : (bytes : List ℕ) → crc_of bytes ≡ bit_xor (register_of reflected 0xffffffff (transmitted bytes)) 0xffffffff
unfolding crc_of generator polynomial among number
crc-register bytes =
    let m = transmitted bytes in
    let g = tail generator in
    let ones = replicate 32 true in
    let p = m ++ replicate 32 false in
    let r = remainder (length m) generator (p ⊕ ones) in
    let long : length p ≡ length m + 32 = length-append m (replicate 32 false) in
    let whole : length (p ⊕ ones) ≡ length p = length-plus p ones (omega arith) in
    let size : 32 ≤ length r = omega (arith, length-remainder g (length m) (p ⊕ ones) (omega arith)) in
    ap (λ (q : List Bool). number (complemented 32 (remainder (length m) generator q))) (complemented-sum 32 p (omega arith))
    ∙ ap number (complemented-sum 32 r size)
    ∙ number-sum r ones
    ∙ ap (λ (x : ℕ). bit_xor x 0xffffffff) (finds-remainder g 32 m ones)

pub crc-after : (s : List ℕ) → crc_of s ≡ bit_xor (register_after 0xffffffff s) 0xffffffff
unfolding register_after
crc-after = crc-register
