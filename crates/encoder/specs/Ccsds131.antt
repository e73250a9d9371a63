-- The convolutional code of CCSDS 131.0-B, section 3: rate 1/2, constraint length 7, generators G1 = 171 and G2 = 133
-- octal, over a list of bits of any length. The book inverts the second output; this port, as the Rust, does not.
-- Definitions only.
use Rattle.std.specs.Prelude.{List, [], ◌∷◌, ℕ, ◌+◌, ◌*◌, ◌/◌, ◌%◌, ◌<◌}
use Rattle.std.specs.Int.Count.{ones}
use Rattle.std.specs.Int.Bits.{bit_and}

-- the record's bytes, and its coded bits: two for each of its bits and of the six zeros
abbrev pub record_size : ℕ
record_size = 46

abbrev pub coded_bits : ℕ
coded_bits = 748

-- the parity of a register's bits under a generator
unfoldable pub parity : ℕ → ℕ → ℕ
parity g r = ones (bit_and r g) % 2

abbrev pub out1 : ℕ → ℕ
out1 r = parity 0o171 r

abbrev pub out2 : ℕ → ℕ
out2 r = parity 0o133 r

-- the register: the bit that comes in above the six last ones, which are the state
abbrev pub register : ℕ → ℕ → ℕ
register b s = b * 64 + s

abbrev pub next_state : ℕ → ℕ → ℕ
next_state b s = register b s / 2

-- the coded bits of the bits from a state, and the state after them
unfoldable pub code : ℕ → List ℕ → List ℕ
code s [] = []
code s (b ∷ bs) = out1 (register b s) ∷ out2 (register b s) ∷ code (next_state b s) bs

unfoldable pub run : ℕ → List ℕ → ℕ
run s [] = s
run s (b ∷ bs) = run (next_state b s) bs

-- a byte's bits, most significant first, and those of a list of bytes
abbrev pub byte_bits : ℕ → List ℕ → List ℕ
byte_bits x bs = x / 128 % 2 ∷ x / 64 % 2 ∷ x / 32 % 2 ∷ x / 16 % 2 ∷ x / 8 % 2 ∷ x / 4 % 2 ∷ x / 2 % 2 ∷ x % 2 ∷ bs

unfoldable pub record_bits : List ℕ → List ℕ → List ℕ
record_bits [] tail = tail
record_bits (x ∷ xs) tail = byte_bits x (record_bits xs tail)

abbrev pub six_zeros : List ℕ
six_zeros = 0 ∷ 0 ∷ 0 ∷ 0 ∷ 0 ∷ 0 ∷ []

unfoldable pub encode_of : List ℕ → List ℕ
encode_of r = code 0 (record_bits r six_zeros)

-- a list of bits
pub data Bits : List ℕ → Type 0 where
  none : Bits []
  one : {b : ℕ} {bs : List ℕ} → b < 2 → Bits bs → Bits (b ∷ bs)
