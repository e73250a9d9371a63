-- A fourth channel is untouched: whatever the change, the fourth sample of each pixel is as it was.
use Rattle.std.specs.Prelude.{◌≡◌, ℕ, ◌+◌, ◌*◌, ◌%◌, ◌<◌, Float}
use Rattle.std.proofs.Common.{◌∙◌, get_or-take}
use Rattle.std.proofs.Math.Path.{ap}
use mathlib.Core.List.{List}
use native.Mathlib.Omega.{arith}
use Rattle.std.proofs.Math.ListN.{get_or}
use Rattle.std.proofs.Math.Seq.{get_or-drop}
use Rattle.std.specs.Float.{nan}
use Rattle.seq.specs.Tab.{get_or-tab}
use Rattle.seq.specs.Lines.{lines_same, get_or-lines}
use Rattle.resample.specs.Samples.{change_row, changed_at, changed_of}
use Rattle.picture.specs.Sizes.{Sized, row_of}
use Rattle.resample.specs.Pixels.{row_inside}
use Rattle.resample_up.specs.Changed.{changed_line, changed-length, line-is}

module _ (width height : ℕ) (change : List Float) (samples : List ℕ) (s : Sized width height 4 samples) where
  pub fourth-kept : (y x : ℕ) → y < height → x < width
      → get_or (changed_of width height 4 change samples) (y * (width * 4) + (x * 4 + 3)) 0 ≡ get_or samples (y * (width * 4) + (x * 4 + 3)) 0
  unfolding changed_of changed_line changed_at row_of
  fourth-kept y x Y X =
      let n = width * 4 in
      let q = x * 4 + 3 in
      let Q : q < n = omega arith in
      let last : q % 4 ≡ 3 = omega arith in
      let made = changed_at 4 (λ k. get_or (change_row width height change y) k nan) (row_of n samples y) in
      let same = lines_same _ (changed_line width height 4 change samples) height (λ r h. line-is width height 4 change samples r (row_inside s r h)) in
      ap (λ (d : List ℕ). get_or d (y * n + q) 0) same
      ∙ (get_or-lines n (changed_line width height 4 change samples) (changed-length width height 4 change samples) height y q 0 Y Q
      ∙ (get_or-tab made n q 0 Q
      ∙ (rw last (get_or-take n _ q 0 Q ∙ get_or-drop (y * n) samples q 0))))
