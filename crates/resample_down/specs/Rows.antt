-- The rows that are made on the way: how long they are, where they stand, and what their sum is.
use Rattle.std.specs.Prelude.{◌≡◌, refl, List, ℕ, ◌+◌, ◌*◌, ◌/◌, ◌%◌, ◌<◌, length, get_or, take, drop, Float}
use Rattle.std.proofs.Common.{◌∙◌, ap, arith}
use Rattle.std.specs.Float.{nan}
use Rattle.seq.specs.Tab.{length-tab, tab-same, get_or-tab}
use Rattle.seq.specs.Lines.{length-lines, get_or-lines, part-tab}
use Rattle.resample_window.specs.Window.{taps}
use Rattle.resample.specs.Samples.{luma_at, narrow_row, plane_row}
use Rattle.picture.specs.Sizes.{row_of}
use Rattle.resample.specs.Resampled.{across, sum_rows}
use Rattle.resample.specs.Sums.{sum_rows-all}
use Rattle.resample_four.specs.Four.{capped_at, narrow_four}
use Rattle.resample_four.specs.Laws.{capped-own}

-- ---- how long the rows are

pub narrow-length : (width channels : ℕ) (samples : List ℕ) (k : ℕ) → length (narrow_row width channels samples k) ≡ 256
unfolding narrow_row
narrow-length width channels samples k = length-tab _ 256

pub four-length : (width height channels : ℕ) (samples : List ℕ) (g : ℕ) → length (narrow_four width height channels samples g) ≡ 1024
unfolding narrow_four
four-length width height channels samples g =
    length-lines 256 (λ l. narrow_row width channels samples (capped_at (4 * g + l) height))
    (λ l. narrow-length width channels samples (capped_at (4 * g + l) height)) 4

pub plane-length : (width height channels : ℕ) (samples : List ℕ) (y : ℕ) → length (plane_row width height channels samples y) ≡ 256
unfolding plane_row
plane-length width height channels samples y = length-tab _ 256

-- ---- a row of the four

-- row i stands among its four
pub row-among : (width height channels : ℕ) (samples : List ℕ) (v : List Float) (i : ℕ) → i < height
    → v ≡ narrow_four width height channels samples (i / 4) → take 256 (drop (i % 4 * 256) v) ≡ narrow_row width channels samples i
unfolding narrow_four narrow_row
row-among width height channels samples v i h e =
    let four : ℕ → List Float = λ l. narrow_row width channels samples (capped_at (4 * (i / 4) + l) height) in
    let own : 4 * (i / 4) + i % 4 ≡ i = omega arith in
    let long : length v ≡ 1024 = ap length e ∙ four-length width height channels samples (i / 4) in
    part-tab v (i % 4 * 256) 256 nan (omega arith)
    ∙ tab-same _ _ 256
    (λ x X.
    ap (λ (s : List Float). get_or s (i % 4 * 256 + x) nan) e
    ∙ (get_or-lines 256 four (λ l. narrow-length width channels samples (capped_at (4 * (i / 4) + l) height)) 4 (i % 4) x nan (omega arith) X
    ∙ (ap (λ (k : ℕ). get_or (narrow_row width channels samples k) x nan) (ap (λ (k : ℕ). capped_at k height) own ∙ capped-own i height h)
    ∙ get_or-tab (across width 256 (luma_at channels (row_of (width * channels) samples i))) 256 x nan X)))

-- ---- a row of the plane

pub plane-of : (width height channels : ℕ) (samples : List ℕ) (y : ℕ)
    → sum_rows 256 (narrow_row width channels samples) (taps height 256 y) ≡ plane_row width height channels samples y
unfolding plane_row narrow_row
plane-of width height channels samples y =
    sum_rows-all width height 256 256 (λ k. luma_at channels (row_of (width * channels) samples k)) (narrow_row width channels samples) y (λ k. refl)
