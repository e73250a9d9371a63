-- The register over bytes: the first bits of a message are looked up at once, for all the turns that they still have to go,
-- and the rest of the message goes on with the rest of the register.
use Rattle.std.specs.Prelude.{◌≡◌, refl, Bool, false, not, List, [], ◌∷◌, ◌++◌, ℕ, ◌+◌, ◌*◌, ◌/◌, ◌%◌, ◌^◌, ◌≤◌, ◌<◌, length, take, drop, replicate}
use Rattle.std.proofs.Common.{sym, ap, ap₂, ◌∙◌, append_assoc, mod-eq_of_lt, arith, lit<, length-append, take-append-drop, drop_of_length-le}
use mathlib.Core.List.{map, tail}
use Rattle.std.proofs.lemmas.List.{length-map}
use Rattle.std.specs.Int.Bits.{bit_xor}
use Rattle.std.proofs.lemmas.Nat.{xor_mod, xor_shr}
use Rattle.std.proofs.Math.Pow.{high, low}
use Rattle.crc32.specs.Ieee8023.{low_bits, number, transmitted, remainder, generator, polynomial, among, complemented, crc_of}
use Rattle.crc32.specs.Division.{length-remainder}
use Rattle.crc32.specs.Numbers.{number_lt, number_append}
use Rattle.crc32.specs.Register.{register-append, register-lt}
use Rattle.crc32.specs.Shift.{register_of, reflected, register_turns, register_after}
use Rattle.crc32.specs.Turns.{at_once, turns-apart}

module _ (g : ℕ) where
  -- the bits p are looked up for the turns of q too, and q goes on with what is left of the register
  pub defer : (p q : List Bool) (x : ℕ)
      → register_of g x (p ++ q) ≡ bit_xor (register_turns g (length p + length q) (bit_xor (number p) x % 2 ^ length p)) (register_of g (x / 2 ^ length p) q)
  defer p q x =
      let j = length p in
      let y = bit_xor (number (p ++ q)) x in
      let lows : number (p ++ q) % 2 ^ j ≡ number p % 2 ^ j =
      rw number_append (low (number q) j (number_lt p) ∙ sym (mod-eq_of_lt (number_lt p))) in
      let highs : number (p ++ q) / 2 ^ j ≡ number q = rw number_append (high (number q) j (number_lt p)) in
      at_once g (p ++ q) x
      ∙ ap (λ (n : ℕ). register_turns g n y) (length-append p q)
      ∙ turns-apart g j (length q) y
      ∙ ap₂ (λ (a b : ℕ). bit_xor (register_turns g (j + length q) a) (register_turns g (length q) b))
      (xor_mod (number (p ++ q)) x j ∙ ap (λ (n : ℕ). bit_xor n (x % 2 ^ j)) lows ∙ sym (xor_mod (number p) x j))
      (xor_shr (number (p ++ q)) x j ∙ ap (λ (n : ℕ). bit_xor n (x / 2 ^ j)) highs)
      ∙ ap (bit_xor (register_turns g (j + length q) (bit_xor (number p) x % 2 ^ j))) (sym (at_once g q (x / 2 ^ j)))

transmitted-append : (s t : List ℕ) → transmitted (s ++ t) ≡ transmitted s ++ transmitted t
unfolding transmitted
transmitted-append [] t = refl
transmitted-append (b ∷ s) t = rw (transmitted-append s t) (sym (append_assoc (low_bits 8 b) (transmitted s) (transmitted t)))

pub length-transmitted : (s : List ℕ) → length (transmitted s) ≡ 8 * length s
unfolding transmitted low_bits
length-transmitted [] = refl
length-transmitted (b ∷ s) = omega (arith, length-transmitted s)

pub after-lt : (s : List ℕ) (x : ℕ) → x < 2 ^ 32 → register_after x s < 2 ^ 32
unfolding register_after
after-lt s x l = register-lt reflected (lit< tt) (transmitted s) x l

-- to complement keeps the length
length-complemented : (n : ℕ) (p : List Bool) → length (complemented n p) ≡ length p
unfolding complemented
length-complemented n p =
    omega (
      arith,
      length-append (map not (take n p)) (drop n p),
      length-map (take n p) not,
      length-append (take n p) (drop n p),
      ap length (take-append-drop n p),
    )

-- the CRC has 32 bits, since the remainder has
pub crc-lt : (s : List ℕ) → crc_of s < 2 ^ 32
unfolding crc_of generator polynomial among
crc-lt s =
    let m = transmitted s in
    let p = complemented 32 (m ++ replicate 32 false) in
    let r = remainder (length m) generator p in
    let long : length p ≡ length m + 32 = length-complemented 32 (m ++ replicate 32 false) ∙ length-append m (replicate 32 false) in
    let size : length r ≡ 32 = omega (arith, length-remainder (tail generator) (length m) p (omega arith)) in
    let all : length (complemented 32 r) ≡ 32 = length-complemented 32 r ∙ size in
    rw all at (number_lt (complemented 32 r))

-- ---- how a loop over the bytes goes on

pub after_none : (x i : ℕ) (s : List ℕ) → length s ≤ i → register_after x (drop i s) ≡ x
unfolding register_after transmitted register_of
after_none x i s h = rw (drop_of_length-le s h)

-- what comes first is fed as a message of its own
pub after-append : (x : ℕ) (s t : List ℕ) → register_after x (s ++ t) ≡ register_after (register_after x s) t
unfolding register_after
after-append x s t = ap (register_of reflected x) (transmitted-append s t) ∙ register-append reflected (transmitted s) (transmitted t) x
