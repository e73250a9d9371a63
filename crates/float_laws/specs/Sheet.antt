-- Worked values of the definitions, computed: edges that a wrong reading would miss.
use Rattle.std.specs.Prelude.{◌≡◌, refl}
use Rattle.std.specs.Float.{binary32, binary64}
use Rattle.std.specs.Float.Ieee.{of_bits}
use Rattle.float.specs.Calls.{floor, round_away, ceil, narrow}

-- -0.3 rounds to -0, and -2.5 to -3; 0.49999997 rounds to 0; from 2^23 on every value stays
small-negative : round_away binary32 (of_bits binary32 0xbe99_999a) ≡ of_bits binary32 0x8000_0000
unfolding round_away of_bits
small-negative = refl

half-away : round_away binary32 (of_bits binary32 0xc020_0000) ≡ of_bits binary32 0xc040_0000
unfolding round_away of_bits
half-away = refl

under-half : round_away binary32 (of_bits binary32 0x3eff_ffff) ≡ of_bits binary32 0
unfolding round_away of_bits
under-half = refl

large-stays : round_away binary32 (of_bits binary32 0x4b00_0001) ≡ of_bits binary32 0x4b00_0001
unfolding round_away of_bits
large-stays = refl

-- the floor of -0 is -0, and that of the largest negative number is -1; the ceiling of -0.3 is -0
floor-zero : floor binary32 (of_bits binary32 0x8000_0000) ≡ of_bits binary32 0x8000_0000
unfolding floor of_bits
floor-zero = refl

floor-tiny : floor binary32 (of_bits binary32 0x8000_0001) ≡ of_bits binary32 0xbf80_0000
unfolding floor of_bits
floor-tiny = refl

ceil-small : ceil binary64 (of_bits binary64 0xbfd3_3333_3333_3333) ≡ of_bits binary64 0x8000_0000_0000_0000
unfolding ceil of_bits
ceil-small = refl

-- narrowing: a tie goes to the even one, and half a unit past the largest f32 is an infinity
narrow-tie : narrow (of_bits binary64 0x3ff0_0000_1000_0000) ≡ of_bits binary32 0x3f80_0000
unfolding narrow of_bits
narrow-tie = refl

narrow-over : narrow (of_bits binary64 0x47ef_ffff_f000_0000) ≡ of_bits binary32 0x7f80_0000
unfolding narrow of_bits
narrow-over = refl
