-- The matrix of the 8x8 transform: 64 constants, by bit pattern, row k, column i. Each is s * cos(pi (2 i + 1) k / 16) in
-- `f32`, s the root of 1/8 for k = 0 and 1/2 otherwise.
-- Definitions only.
use Rattle.std.specs.Prelude.{List, [], ◌∷◌, map, ℕ, get_or, Float}
use Rattle.std.specs.Float.{nan, binary32}
use Rattle.std.specs.Float.Ieee.{of_bits}

abbrev patterns : List (List ℕ)
patterns =
    (0x3eb504f3 ∷ 0x3eb504f3 ∷ 0x3eb504f3 ∷ 0x3eb504f3 ∷ 0x3eb504f3 ∷ 0x3eb504f3 ∷ 0x3eb504f3 ∷ 0x3eb504f3 ∷ []) ∷
    (0x3efb14be ∷ 0x3ed4db31 ∷ 0x3e8e39da ∷ 0x3dc7c5c2 ∷ 0xbdc7c5c2 ∷ 0xbe8e39da ∷ 0xbed4db31 ∷ 0xbefb14be ∷ []) ∷
    (0x3eec835e ∷ 0x3e43ef15 ∷ 0xbe43ef15 ∷ 0xbeec835e ∷ 0xbeec835e ∷ 0xbe43ef15 ∷ 0x3e43ef15 ∷ 0x3eec835e ∷ []) ∷
    (0x3ed4db31 ∷ 0xbdc7c5c2 ∷ 0xbefb14be ∷ 0xbe8e39da ∷ 0x3e8e39da ∷ 0x3efb14be ∷ 0x3dc7c5c2 ∷ 0xbed4db31 ∷ []) ∷
    (0x3eb504f3 ∷ 0xbeb504f3 ∷ 0xbeb504f3 ∷ 0x3eb504f3 ∷ 0x3eb504f3 ∷ 0xbeb504f3 ∷ 0xbeb504f3 ∷ 0x3eb504f3 ∷ []) ∷
    (0x3e8e39da ∷ 0xbefb14be ∷ 0x3dc7c5c2 ∷ 0x3ed4db31 ∷ 0xbed4db31 ∷ 0xbdc7c5c2 ∷ 0x3efb14be ∷ 0xbe8e39da ∷ []) ∷
    (0x3e43ef15 ∷ 0xbeec835e ∷ 0x3eec835e ∷ 0xbe43ef15 ∷ 0xbe43ef15 ∷ 0x3eec835e ∷ 0xbeec835e ∷ 0x3e43ef15 ∷ []) ∷
    (0x3dc7c5c2 ∷ 0xbe8e39da ∷ 0x3ed4db31 ∷ 0xbefb14be ∷ 0x3efb14be ∷ 0xbed4db31 ∷ 0x3e8e39da ∷ 0xbdc7c5c2 ∷ []) ∷ []

abbrev pub matrix : List (List Float)
matrix = map (map (of_bits binary32)) patterns

-- row k, column i
abbrev pub dct_entry : ℕ → ℕ → Float
dct_entry k i = get_or (get_or matrix k []) i nan

-- row i, column k of the turned matrix
abbrev pub dct_turned : ℕ → ℕ → Float
dct_turned i k = dct_entry k i
