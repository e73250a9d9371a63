-- The rows that are made on the way: how long they are, where they stand, and what their sum is.
use Rattle.std.specs.Prelude.{◌≡◌, refl, List, ℕ, length, get_or, Float}
use Rattle.std.specs.Float.{nan}
use Rattle.seq.specs.Tab.{length-tab}
use Rattle.resample_window.specs.Window.{taps}
use Rattle.resample.specs.Samples.{wide_row, change_row}
use Rattle.picture.specs.Sizes.{row_of}
use Rattle.resample.specs.Resampled.{sum_rows}
use Rattle.resample.specs.Sums.{sum_rows-all}

-- ---- how long the rows are

pub wide-length : (width : ℕ) (change : List Float) (k : ℕ) → length (wide_row width change k) ≡ width
unfolding wide_row
wide-length width change k = length-tab _ width

-- ---- a row of the change

pub change-of : (width height : ℕ) (change : List Float) (y : ℕ) → sum_rows width (wide_row width change) (taps 256 height y) ≡ change_row width height change y
unfolding change_row wide_row
change-of width height change y = sum_rows-all 256 256 width height (λ k i. get_or (row_of 256 change k) i nan) (wide_row width change) y (λ k. refl)
