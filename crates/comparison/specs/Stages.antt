-- A window as two lists, its numbers and its parts; a weight as whether there is one and its value; which rows of samples have
-- a luma, which pictures have a plane, and which take a change of it. Definitions only.
use Rattle.std.specs.Prelude.{Bool, true, false, cond, ◌&&◌, List, [], ◌∷◌, ℕ, ◌*◌, eqb, leb, ℤ, Float, Option, Some, None, length}
use Rattle.std.specs.Float.{binary32}
use Rattle.std.specs.Float.Ieee.{of_bits}
use Rattle.seq.specs.Lists.{tab}
use Rattle.resample_window.specs.Window.{is_side}
use Rattle.resample_window.specs.declared.Window.{Window}
use Rattle.resample.specs.Samples.{luma_at, plane_of, changed_of}
use Rattle.picture.specs.Sizes.{plane_size}

abbrev pub numbers_of : Window → List ℤ
numbers_of w = w.first ∷ (w.last ∷ [])

abbrev pub parts_of : Window → List Float
parts_of w = w.center ∷ (w.support ∷ (w.sum ∷ []))

abbrev pub has_weight : Option Float → Bool
has_weight (Some _) = true
has_weight None = false

-- 0 where there is none
abbrev pub weight_value : Option Float → Float
weight_value (Some q) = q
weight_value None = of_bits binary32 0

abbrev pub has_sides : ℕ → ℕ → ℕ → Bool
has_sides width height channels = is_side width && (is_side height && (leb 3 channels && leb channels 4))

-- of so many samples, so many pixels: a picture of one row
abbrev pub has_luma : ℕ → ℕ → ℕ → Bool
has_luma row channels pixels = has_sides pixels 1 channels && eqb row (pixels * channels)

unfoldable pub luma_into : ℕ → List ℕ → List Float → List Float
luma_into channels row out = cond (has_luma (length row) channels (length out)) (tab (luma_at channels row) (length out)) out

-- of so many samples, a plane of so many values
abbrev pub has_plane : ℕ → ℕ → ℕ → ℕ → ℕ → Bool
has_plane width height channels samples plane = has_sides width height channels && (eqb plane plane_size && eqb samples (width * channels * height))

unfoldable pub plane_into : ℕ → ℕ → ℕ → List ℕ → List Float → List Float
plane_into width height channels samples plane =
    cond (has_plane width height channels (length samples) (length plane)) (plane_of width height channels samples) plane

-- of a change of so many values, so many samples
abbrev pub has_change : ℕ → ℕ → ℕ → ℕ → ℕ → Bool
has_change width height channels change samples = leb 256 width && (leb 256 height && has_plane width height channels samples change)

unfoldable pub change_into : ℕ → ℕ → ℕ → List Float → List ℕ → List ℕ
change_into width height channels change samples =
    cond (has_change width height channels (length change) (length samples)) (changed_of width height channels change samples) samples
