-- A window as two lists, its numbers and its parts, a weight as whether there is one and its value, which rows of samples have
-- a luma, which pictures have a plane, and which take a change of it.
use Rattle.std.specs.Prelude.{◌≡◌, refl, Bool, true, false, ◌&&◌, List, ℕ, ◌*◌, ◌≤◌, ◌<◌, T, eqb, leb, ltb, length}
use Rattle.std.proofs.Common.{sym, subst, mul-le-mul_right, arith, leb→le, ltb→lt, eqb→eq}
use Rattle.std.proofs.lemmas.Bool.{false≢true}
use Rattle.resample_window.specs.Window.{is_side}
use Rattle.picture.specs.Sizes.{Sized, longest_side, plane_size}
use Rattle.comparison.specs.Stages.{has_sides, has_luma, has_plane, has_change}

-- ---- what the tests give

both : (x y : Bool) → x && y ≡ true → (x ≡ true) × (y ≡ true)
both true y e = (refl, e)
both false y e = absurd (false≢true e)

module _ (width height channels : ℕ) (e : has_sides width height channels ≡ true) where
  sides : (is_side width ≡ true) × (is_side height && (leb 3 channels && leb channels 4) ≡ true)
  sides = both (is_side width) (is_side height && (leb 3 channels && leb channels 4)) e

  height-channels : (is_side height ≡ true) × (leb 3 channels && leb channels 4 ≡ true)
  height-channels = both (is_side height) (leb 3 channels && leb channels 4) sides.1

  side : (n : ℕ) → is_side n ≡ true → (0 < n) × (n ≤ longest_side)
  side n f = let g = both (ltb 0 n) (leb n longest_side) f in (ltb→lt 0 n (subst T (sym g.0) tt), leb→le n longest_side (subst T (sym g.1) tt))

  wide : (0 < width) × (width ≤ longest_side)
  wide = side width sides.0

  high : (0 < height) × (height ≤ longest_side)
  high = side height height-channels.0

  some : (3 ≤ channels) × (channels ≤ 4)
  some =
      let g = both (leb 3 channels) (leb channels 4) height-channels.1 in
      (leb→le 3 channels (subst T (sym g.0) tt), leb→le channels 4 (subst T (sym g.1) tt))

  -- a row has few samples, and a picture
  pub row-few : width * channels ≤ 32768
  row-few = omega (arith, mul-le-mul_right channels wide.1, some.1)

  pub samples-few : width * channels * height ≤ 268435456
  samples-few = omega (arith, mul-le-mul_right height row-few, high.1)

  pub is-sized : (samples : List ℕ) → length samples ≡ width * channels * height → Sized width height channels samples
  is-sized samples f = record { wide = wide.0; width_most = wide.1; high = high.0; height_most = high.1; three = some.0; four = some.1; full = f }

pub luma-fits : (row channels pixels : ℕ) → has_luma row channels pixels ≡ true
    → (3 ≤ channels) × (channels ≤ 4) × (row ≡ pixels * channels) × (pixels ≤ longest_side)
luma-fits row channels pixels e =
    let b = both (has_sides pixels 1 channels) (eqb row (pixels * channels)) e in
    let s = some pixels 1 channels b.0 in
    (s.0, s.1, eqb→eq row (pixels * channels) (subst T (sym b.1) tt), (wide pixels 1 channels b.0).1)

module _ (width height channels : ℕ) (samples : List ℕ) (plane : ℕ) (e : has_plane width height channels (length samples) plane ≡ true) where
  lengths : (eqb plane plane_size ≡ true) × (eqb (length samples) (width * channels * height) ≡ true)
  lengths = both (eqb plane plane_size) (eqb (length samples) (width * channels * height)) (both (has_sides width height channels) _ e).1

  pub plane-sized : Sized width height channels samples
  plane-sized = is-sized width height channels (both (has_sides width height channels) _ e).0 samples
      (eqb→eq (length samples) (width * channels * height) (subst T (sym lengths.1) tt))

  pub plane-values : plane ≡ plane_size
  plane-values = eqb→eq plane plane_size (subst T (sym lengths.0) tt)

module _ (width height channels change : ℕ) (samples : List ℕ) (e : has_change width height channels change (length samples) ≡ true) where
  no-narrower : (leb 256 width ≡ true) × (leb 256 height && has_plane width height channels (length samples) change ≡ true)
  no-narrower = both (leb 256 width) _ e

  no_lower : (leb 256 height ≡ true) × (has_plane width height channels (length samples) change ≡ true)
  no_lower = both (leb 256 height) _ no-narrower.1

  pub change-fits : Sized width height channels samples × (256 ≤ width) × (256 ≤ height) × (change ≡ plane_size)
  change-fits =
      let picture = no_lower.1 in (
        plane-sized width height channels samples change picture,
        leb→le 256 width (subst T (sym no-narrower.0) tt),
        leb→le 256 height (subst T (sym no_lower.0) tt),
        plane-values width height channels samples change picture,
      )
