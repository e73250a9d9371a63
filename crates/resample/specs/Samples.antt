-- Pictures of 8-bit samples with 3 or 4 channels, and the plane of 256 x 256 luma values: from samples to the plane, and a
-- change of the plane put onto samples. Definitions only.
use Rattle.std.specs.Prelude.{cond, List, ℕ, ◌+◌, ◌*◌, ◌/◌, ◌%◌, ltb, pos, length, get_or, Float}
use Rattle.std.specs.Float.{nan, binary32}
use Rattle.std.specs.Float.Ieee.{of_bits, of_int, add, mul}
use Rattle.seq.specs.Lists.{tab, lines}
use Rattle.float.specs.Calls.{rounded_byte}
use Rattle.picture.specs.Sizes.{row_of}
use Rattle.resample.specs.Resampled.{across, resampled}

-- ---- from samples to the plane

-- a sample as a value
abbrev pub sample_value : List ℕ → ℕ → Float
sample_value row p = of_int binary32 (pos (get_or row p 0))

-- 0.299, 0.587 and 0.114
abbrev pub red : Float
red = of_bits binary32 0x3e99_1687

abbrev pub green : Float
green = of_bits binary32 0x3f16_45a2

abbrev pub blue : Float
blue = of_bits binary32 0x3de9_78d5

-- (0.299 R + 0.587 G) + 0.114 B of the pixel whose samples start at place p
unfoldable pub luma_from : List ℕ → ℕ → Float
luma_from row p = add binary32 (add binary32 (mul binary32 red (sample_value row p)) (mul binary32 green (sample_value row (p + 1))))
    (mul binary32 blue (sample_value row (p + 2)))

-- of pixel x
abbrev pub luma_at : ℕ → List ℕ → ℕ → Float
luma_at channels row x = luma_from row (x * channels)

-- row k of the samples, as 256 values
unfoldable pub narrow_row : ℕ → ℕ → List ℕ → ℕ → List Float
narrow_row width channels samples k = tab (across width 256 (luma_at channels (row_of (width * channels) samples k))) 256

unfoldable pub plane_row : ℕ → ℕ → ℕ → List ℕ → ℕ → List Float
plane_row width height channels samples y = tab (resampled width height 256 256 (λ k. luma_at channels (row_of (width * channels) samples k)) y) 256

unfoldable pub plane_of : ℕ → ℕ → ℕ → List ℕ → List Float
plane_of width height channels samples = lines (plane_row width height channels samples) 256

-- ---- from a change of the plane to samples

-- row k of the change, as width values
unfoldable pub wide_row : ℕ → List Float → ℕ → List Float
wide_row width change k = tab (across 256 width (λ i. get_or (row_of 256 change k) i nan)) width

-- the change of row y of the picture
unfoldable pub change_row : ℕ → ℕ → List Float → ℕ → List Float
change_row width height change y = tab (resampled 256 256 width height (λ k i. get_or (row_of 256 change k) i nan) y) width

-- sample p of a row: in the first three channels of a pixel with the pixel's change added, rounded and clamped; a fourth stays
unfoldable pub changed_at : ℕ → (ℕ → Float) → List ℕ → ℕ → ℕ
changed_at channels delta row p = cond (ltb (p % channels) 3) (rounded_byte (add binary32 (sample_value row p) (delta (p / channels)))) (get_or row p 0)

unfoldable pub changed_row : ℕ → (ℕ → Float) → List ℕ → List ℕ
changed_row channels delta row = tab (changed_at channels delta row) (length row)

unfoldable pub changed_of : ℕ → ℕ → ℕ → List Float → List ℕ → List ℕ
changed_of width height channels change samples =
    lines (λ y. changed_row channels (λ x. get_or (change_row width height change y) x nan) (row_of (width * channels) samples y)) height
