-- The sample sheet of the scope (section 21): every line that is marked as proved, in one statement. Definitions only.
use Rattle.std.specs.Prelude.{◌≡◌, List, [], ◌∷◌, ◌++◌, ℕ, ◌+◌, ◌*◌, pos, negsuc, replicate, get_or, Float, Option, Result, Ok, Err}
use Rattle.std.specs.Float.{nan, binary32}
use Rattle.std.specs.Float.Ieee.{of_bits, sub}
use Rattle.float.specs.Base.{zero+, two_to, minus_two_to}
use Rattle.float.specs.Calls.{floor}
use Rattle.refusal.specs.declared.Refusal.{Refusal}
use Rattle.refusal.specs.declared.Refusal.TheVariants.{TextTooLong, ImageTooSmall, ImageTooLarge}
use Rattle.record.specs.declared.Lock.{Lock}
use Rattle.record_build.specs.Sheet.{letters}
use Rattle.encoder.specs.Ccsds131.{encode_of}
use Rattle.block.specs.Mark.{half_of, marked_of}
use Rattle.block.specs.Soft.{term_of, mean_of_four}
use Rattle.resample_window_laws.specs.Line.{Line, tap}
use Rattle.resample.specs.Samples.{changed_row}
use Rattle.resample_up.specs.Change.{sheet_change}
use Rattle.resilient.specs.Resilient.{write_answer}

-- the answer to writing a text into a picture with all its samples and the work area that it needs
abbrev pub writing : List ℕ → Option Lock → ℕ → ℕ → Result (Unit {0}) Refusal
writing text lock width height =
    write_answer text lock (record { width = width; height = height; channels = 3 }) (width * height * 3) (131072 + 2 * (width * height))

-- the 14 coded bits of a bit that is set: 11 10 11 11 00 01 11
abbrev pub one_bit : List ℕ
one_bit = 1 ∷ 1 ∷ 1 ∷ 0 ∷ 1 ∷ 1 ∷ 1 ∷ 1 ∷ 0 ∷ 0 ∷ 0 ∷ 1 ∷ 1 ∷ 1 ∷ []

-- four terms whose sum depends on the order
abbrev pub four_terms : List Float
four_terms = of_bits binary32 0x3e8d_edb7 ∷ of_bits binary32 0x3f0e_4925 ∷ of_bits binary32 0xbe77_db6e ∷ of_bits binary32 0xbeb2_1249 ∷ []

pub record Sheet : Type 0 where
  pub text_of_32 : (lock : Option Lock) → writing (letters 32) lock 512 512 ≡ Ok tt
  pub text_of_33 : (lock : Option Lock) → writing (letters 33) lock 512 512 ≡ Err (TextTooLong 33)
  pub shorter_512 : (lock : Option Lock) → writing [] lock 512 8192 ≡ Ok tt
  pub shorter_511 : (lock : Option Lock) → writing [] lock 511 8192 ≡ Err (ImageTooSmall 511)
  pub longer_8193 : (lock : Option Lock) → writing [] lock 512 8193 ≡ Err (ImageTooLarge 8193)
  pub zeros : encode_of (replicate 46 0) ≡ replicate 748 0
  pub byte_0 : encode_of (0x80 ∷ replicate 45 0) ≡ one_bit ++ replicate 734 0
  pub byte_45 : encode_of (replicate 45 0 ++ (0x01 ∷ [])) ≡ replicate 734 0 ++ one_bit
  pub marked_8 : marked_of (two_to 3) zero+ (half_of 0) ≡ two_to 4
  pub marked_minus_8 : marked_of (minus_two_to 3) zero+ (half_of 0) ≡ minus_two_to 4
  pub marked_8_by_1 : marked_of (two_to 3) zero+ (half_of 1) ≡ two_to 3
  pub term_of_8 : term_of (two_to 3) zero+ ≡ minus_two_to 0
  pub term_of_4 : term_of (two_to 2) zero+ ≡ zero+
  pub tiny_rest : sub binary32 (of_bits binary32 0x8000_0001) (floor binary32 (of_bits binary32 0x8000_0001)) ≡ two_to 0
  pub tiny_term : term_of (of_bits binary32 0x8000_0010) zero+ ≡ two_to 0
  pub from_512 : Line 512 256 0 (negsuc 0) (pos 2) (tap 0 0x3e00_0000 ∷ tap 0 0x3ec0_0000 ∷ tap 1 0x3ec0_0000 ∷ tap 2 0x3e00_0000 ∷ [])
  pub to_512 : Line 256 512 0 (negsuc 0) (pos 0) (tap 0 0x3e80_0000 ∷ tap 0 0x3f40_0000 ∷ [])
  pub sample_254 : changed_row 4 sheet_change (254 ∷ 0 ∷ 100 ∷ 7 ∷ []) ≡ 255 ∷ 2 ∷ 102 ∷ 7 ∷ []
  -- lines that tell the orders of the operations apart
  pub added_in_order : marked_of (minus_two_to 4) (of_bits binary32 0x3f00_0001) (half_of 1) ≡ minus_two_to 4
  pub added_apart : marked_of (of_bits binary32 0x432b_a2f4) (of_bits binary32 0x3f58_1fa9) (half_of 1) ≡ of_bits binary32 0x4325_81fb
  pub taken_in_order : marked_of (of_bits binary32 0xc175_13bd) (of_bits binary32 0x3d2e_c420) (half_of 1) ≡ of_bits binary32 0xc1ba_89df
  pub taken_apart : marked_of (of_bits binary32 0x41fa_7d64) (of_bits binary32 0x3f74_fac9) (half_of 1) ≡ of_bits binary32 0x41ba_7d64
  pub floor_after_u : term_of (of_bits binary32 0x43d5_ba80) (of_bits binary32 0x3ef3_acfe) ≡ of_bits binary32 0x3d21_a000
  pub summed_in_order : mean_of_four (λ k. get_or four_terms k nan) ≡ of_bits binary32 0x3d78_fffe
