-- Resampling with the triangle kernel: rows first, then columns, each sum in rising order of the source numbers, in `f32`. Definitions only.
use Rattle.std.specs.Prelude.{List, [], ◌∷◌, ℕ, Float, get_or}
use Rattle.std.specs.Float.{binary32, nan}
use Rattle.std.specs.Float.Ieee.{add, mul}
use Rattle.float.specs.Base.{zero+, zero-}
use Rattle.resample_window.specs.declared.Tap.{Tap}
use Rattle.resample_window.specs.Window.{taps}
use Rattle.seq.specs.Lists.{tab}

-- z, and then weight times value for each tap
unfoldable pub tap_total : Float → List Tap → (ℕ → Float) → Float
tap_total z [] f = z
tap_total z (t ∷ ts) f = tap_total (add binary32 z (mul binary32 t.weight (f t.from))) ts f

-- value x of a row of n values that is brought to m: a row's sums start from -0
unfoldable pub across : ℕ → ℕ → (ℕ → Float) → ℕ → Float
across n m f x = tap_total zero- (taps n m x) f

-- value x of row y, where h rows of w values are brought to m rows of n: a column's sums start from +0
unfoldable pub resampled : ℕ → ℕ → ℕ → ℕ → (ℕ → ℕ → Float) → ℕ → ℕ → Float
resampled w h n m f y x = tap_total zero+ (taps h m y) (λ k. across w n (f k) x)

-- rows summed with the weights of some taps: the first n values of the sum
unfoldable pub sum_rows : ℕ → (ℕ → List Float) → List Tap → List Float
sum_rows n row ts = tab (λ x. tap_total zero+ ts (λ k. get_or (row k) x nan)) n
