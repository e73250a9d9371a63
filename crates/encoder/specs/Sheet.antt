-- The encoder's lines of the scope's sample sheet, computed over the definitions.
use Rattle.std.specs.Prelude.{◌≡◌, refl, [], ◌∷◌, ◌++◌, replicate}
use Rattle.std.specs.Int.Count.{ones}
use Rattle.encoder.specs.Ccsds131.{record_size, coded_bits, parity, code, record_bits, encode_of}

pub zero-record : encode_of (replicate record_size 0) ≡ replicate coded_bits 0
unfolding encode_of code record_bits parity ones
zero-record = refl

pub first_bit : encode_of (0x80 ∷ replicate 45 0) ≡ 1 ∷ 1 ∷ 1 ∷ 0 ∷ 1 ∷ 1 ∷ 1 ∷ 1 ∷ 0 ∷ 0 ∷ 0 ∷ 1 ∷ 1 ∷ 1 ∷ replicate 734 0
unfolding encode_of code record_bits parity ones
first_bit = refl

pub last_bit : encode_of (replicate 45 0 ++ (0x01 ∷ [])) ≡ replicate 734 0 ++ (1 ∷ 1 ∷ 1 ∷ 0 ∷ 1 ∷ 1 ∷ 1 ∷ 1 ∷ 0 ∷ 0 ∷ 0 ∷ 1 ∷ 1 ∷ 1 ∷ [])
unfolding encode_of code record_bits parity ones
last_bit = refl
