-- The lines of the sample sheet on marking and voting, computed: v = 8, u = 0, bit 0 gives 16, v = -8 gives -16, v = 8, bit 1 gives 8;
-- v = 8, u = 0 has the term -1, v = 4 the term 0, and a tiny negative x, whose r is exactly 1, the term 1. And lines that tell
-- the orders of the operations apart.
use Rattle.std.specs.Prelude.{◌≡◌, refl, [], ◌∷◌, get_or}
use Rattle.std.specs.Float.{nan, binary32}
use Rattle.std.specs.Float.Ieee.{of_bits, add, sub, div}
use Rattle.seq.specs.Lists.{sum_to}
use Rattle.float.specs.Base.{zero+, two_to, minus_two_to}
use Rattle.float.specs.Calls.{floor}
use Rattle.block.specs.Mark.{half_of, marked_of}
use Rattle.block.specs.Soft.{term_of, mean_of_four}

pub marked-sheet :
    (marked_of (two_to 3) zero+ (half_of 0) ≡ two_to 4)
    × (marked_of (minus_two_to 3) zero+ (half_of 0) ≡ minus_two_to 4)
    × (marked_of (two_to 3) zero+ (half_of 1) ≡ two_to 3)
unfolding marked_of half_of
marked-sheet = (refl, refl, refl)

pub term-sheet :
    (term_of (two_to 3) zero+ ≡ minus_two_to 0)
    × (term_of (two_to 2) zero+ ≡ zero+)
    × (term_of (of_bits binary32 0x8000_0010) zero+ ≡ two_to 0)
unfolding term_of of_bits
term-sheet = (refl, refl, refl)

-- r of a tiny negative x is exactly 1
pub rest-sheet : sub binary32 (of_bits binary32 0x8000_0001) (floor binary32 (of_bits binary32 0x8000_0001)) ≡ two_to 0
unfolding sub floor of_bits
rest-sheet = refl

-- ---- the order of the operations: each line is another value in another order

-- v = -16, u = 8388609/2^24, bit 1: -16, where h added before u gives -15.999999
pub added_in_order : marked_of (minus_two_to 4) (of_bits binary32 0x3f00_0001) (half_of 1) ≡ minus_two_to 4
unfolding marked_of half_of of_bits
added_in_order = refl

-- 0x432581fa where u + h is added at once
pub added_apart : marked_of (of_bits binary32 0x432b_a2f4) (of_bits binary32 0x3f58_1fa9) (half_of 1) ≡ of_bits binary32 0x4325_81fb
unfolding marked_of half_of of_bits
added_apart = refl

-- a step higher where h is taken off before u
pub taken_in_order : marked_of (of_bits binary32 0xc175_13bd) (of_bits binary32 0x3d2e_c420) (half_of 1) ≡ of_bits binary32 0xc1ba_89df
unfolding marked_of half_of of_bits
taken_in_order = refl

-- a step higher where u + h is taken off at once
pub taken_apart : marked_of (of_bits binary32 0x41fa_7d64) (of_bits binary32 0x3f74_fac9) (half_of 1) ≡ of_bits binary32 0x41ba_7d64
unfolding marked_of half_of of_bits
taken_apart = refl

-- 0x3d219fc0 where u is taken off after the floor
pub floor_after_u : term_of (of_bits binary32 0x43d5_ba80) (of_bits binary32 0x3ef3_acfe) ≡ of_bits binary32 0x3d21_a000
unfolding term_of of_bits
floor_after_u = refl

-- 0x3d790002 from the last to the first or with the middle two exchanged, 0x3d790000 with the last two exchanged or two sums of two
pub summed_in_order :
    mean_of_four (λ k. get_or (of_bits binary32 0x3e8d_edb7 ∷ of_bits binary32 0x3f0e_4925 ∷ of_bits binary32 0xbe77_db6e ∷ of_bits binary32 0xbeb2_1249 ∷ []) k nan)
    ≡ of_bits binary32 0x3d78_fffe
unfolding mean_of_four sum_to add div of_bits
summed_in_order = refl
