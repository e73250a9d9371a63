-- A picture whose first rows are changed and whose others are as they were.
use Rattle.std.specs.Prelude.{◌≡◌, List, get_or, drop, Float}
use Rattle.std.proofs.Math.Path.{sym, ap}
use Rattle.std.proofs.Common.{◌∙◌, inr, add-one, zero-mul, arith, take_all}
use Prim.Native.Nat.{ℕ, zero, suc, ◌+◌, ◌*◌, ◌≤◌, ◌<◌}
use Rattle.std.proofs.Math.Nat.{mul_comm, suc-mul}
use Rattle.std.proofs.Math.ListN.{length, take}
use Rattle.std.proofs.Math.Seq.{paste}
use Rattle.std.specs.Float.{nan}
use Rattle.seq.specs.Tab.{length-tab, tab-same}
use Rattle.seq.specs.Lists.{tab, lines, pasted, on_part}
use Rattle.seq.specs.Lines.{part-tab, lines_same, lines_more, pasted-none, pasted-more, length-pasted, pasted-other}
use Rattle.seq.specs.Rows.{row_fits}
use Rattle.resample.specs.Samples.{change_row, changed_at, changed_row, changed_of}
use Rattle.picture.specs.Sizes.{row_of}
use Rattle.resample.specs.Pixels.{length-row, part-pasted}

-- ---- lines of w places, pasted one after another

module _ {A : Type 0} where
  module _ (w : ℕ) (at : ℕ → ℕ) (l : ℕ → List A) (wide : (r : ℕ) → length (l r) ≡ w) (d : List A) (z : A) where
    -- a part behind all lines is as it was
    pub pasted-rest : (m a n : ℕ) → ((r : ℕ) → r < m → at r + w ≤ a) → a + n ≤ length d → take n (drop a (pasted w at l m d)) ≡ take n (drop a d)
    pasted-rest m a n before h =
        let room : (r : ℕ) → r < m → at r + w ≤ length d = (λ r k. omega (arith, before r k)) in
        let e : length (pasted w at l m d) ≡ length d = length-pasted w at l wide d m room in
        part-tab (pasted w at l m d) a n z (omega arith)
        ∙ (tab-same _ _ n (λ i k. pasted-other w at l wide d m room (a + i) z (λ r j. inr (omega (arith, before r j)))) ∙ sym (part-tab d a n z h))

  -- lines that fill the list are all of it
  module _ (w : ℕ) (l : ℕ → List A) (wide : (r : ℕ) → length (l r) ≡ w) (d : List A) where
    pasted-first : (m : ℕ) → m * w ≤ length d → take (m * w) (pasted w (λ r. r * w) l m d) ≡ lines l m
    unfolding pasted lines
    pasted-first zero h = ap (λ (k : ℕ). take k d) (zero-mul w)
    pasted-first (suc m) h =
        let room : m * w + w ≤ length d = omega (arith, suc-mul m w) in
        let e : length (pasted w (λ r. r * w) l m d) ≡ length d =
        length-pasted w (λ r. r * w) l wide d m (λ r k. omega (arith, row_fits r w m k, mul_comm w m)) in
        ap (λ (k : ℕ). take (k * w) (paste (pasted w (λ r. r * w) l m d) (m * w) (l m) w)) (sym (add-one m))
        ∙ (lines_more w l m (pasted w (λ r. r * w) l m d) (omega arith) (wide m) (pasted-first m (omega arith)) ∙ ap (lines l) (add-one m))

    pub pasted-all : (m : ℕ) → length d ≡ m * w → pasted w (λ r. r * w) l m d ≡ lines l m
    pasted-all m h =
        let e : length (pasted w (λ r. r * w) l m d) ≡ length d =
        length-pasted w (λ r. r * w) l wide d m (λ r k. omega (arith, row_fits r w m k, mul_comm w m)) in
        sym (take_all (m * w) (pasted w (λ r. r * w) l m d) (omega arith)) ∙ pasted-first m (omega arith)

-- ---- the rows of a picture

-- row y of the picture with its change, of n samples whatever is left of the samples
unfoldable pub changed_line : ℕ → ℕ → ℕ → List Float → List ℕ → ℕ → List ℕ
changed_line width height channels change samples y =
    tab (changed_at channels (λ x. get_or (change_row width height change y) x nan) (row_of (width * channels) samples y)) (width * channels)

-- the first m rows changed
abbrev pub changed_rows : ℕ → ℕ → ℕ → List Float → List ℕ → ℕ → List ℕ
changed_rows width height channels change samples m =
    pasted (width * channels) (λ r. r * (width * channels)) (changed_line width height channels change samples) m samples

module _ (width height channels : ℕ) (change : List Float) (samples : List ℕ) where
  pub changed-length : (y : ℕ) → length (changed_line width height channels change samples y) ≡ width * channels
  unfolding changed_line
  changed-length y = length-tab _ (width * channels)

  pub line-is : (y : ℕ) → y * (width * channels) + width * channels ≤ length samples
      → changed_row channels (λ x. get_or (change_row width height change y) x nan) (row_of (width * channels) samples y)
      ≡ changed_line width height channels change samples y
  unfolding changed_line changed_row changed_at
  line-is y h = ap (tab _) (length-row (width * channels) samples y h)

  module _ (full : length samples ≡ width * channels * height) where
    fits : (y : ℕ) → y < height → y * (width * channels) + width * channels ≤ length samples
    fits y h = omega (arith, row_fits y (width * channels) height h)

    before : (m r : ℕ) → r < m → r * (width * channels) + width * channels ≤ m * (width * channels)
    before m r h = omega (arith, row_fits r (width * channels) m h, mul_comm (width * channels) m)

    -- the next row is as it was
    pub next_row : (m : ℕ) → m < height → row_of (width * channels) (changed_rows width height channels change samples m) m ≡ row_of (width * channels) samples m
    unfolding row_of
    next_row m h = pasted-rest (width * channels) (λ r. r * (width * channels))
        (changed_line width height channels change samples) changed-length samples 0 m (m * (width * channels)) (width * channels) (before m) (fits m h)

    -- and is changed
    pub changed-rows-more : (m : ℕ) (was row : List ℕ) (delta : List Float) → m < height → was ≡ changed_rows width height channels change samples m
        → delta ≡ change_row width height change m → row ≡ changed_row channels (λ x. get_or delta x nan) (row_of (width * channels) was m)
        → on_part (m * (width * channels)) (width * channels) (λ (x : List ℕ). row) was ≡ changed_rows width height channels change samples (m + 1)
    changed-rows-more m was row delta h e f g =
        let is : row ≡ changed_line width height channels change samples m = (rw (e, f, next_row m h) at g) ∙ line-is m (fits m h) in
        let long : length row ≡ width * channels = ap length is ∙ changed-length m in
        part-pasted (m * (width * channels)) (width * channels) row was long
        ∙ (rw (is, e) (pasted-more (width * channels) (λ r. r * (width * channels)) (changed_line width height channels change samples) m samples))

    pub rows_all : changed_rows width height channels change samples height ≡ changed_of width height channels change samples
    unfolding changed_of
    rows_all =
        pasted-all (width * channels) (changed_line width height channels change samples) changed-length samples height
        (full ∙ mul_comm (width * channels) height)
        ∙ lines_same _ _ height (λ r h. sym (line-is r (fits r h)))

pub rows_none : (width height channels : ℕ) (change : List Float) (samples : List ℕ) → samples ≡ changed_rows width height channels change samples 0
rows_none width height channels change samples =
    pasted-none (width * channels) (λ r. r * (width * channels)) (changed_line width height channels change samples) samples
