-- Rows of a list and their pixels of 3 or 4 channels: where they stand, and a part that is put back.
use Rattle.std.specs.Prelude.{◌≡◌, refl, List, ◌++◌, ℕ, ◌+◌, ◌-◌, ◌*◌, ◌≤◌, ◌<◌, take}
use Rattle.std.proofs.Common.{sym, ◌∙◌, ap₂, append_assoc, add-zero, mul_comm, arith, length-drop, length-take-le, get_or-append-add, get_or-drop, take_all, drop-drop}
use Rattle.std.proofs.Math.Path.{ap}
use Rattle.std.proofs.Math.Nat.{add-sub_cancel_left}
use Rattle.std.proofs.Math.ListN.{length, get_or, drop}
use Rattle.std.proofs.Math.Seq.{paste}
use Rattle.seq.specs.Tab.{length-tab}
use Rattle.seq.specs.Lists.{tab, filled, on_part}
use Rattle.seq.specs.Rows.{row_fits}
use Rattle.picture.specs.Sizes.{Sized, row_of}

-- ---- a list whose first places are made by a function

module _ {A : Type 0} (f : ℕ → A) (n : ℕ) (d : List A) where
  -- a place that is not made yet holds what it held
  pub filled_at : (z : A) → get_or (filled f n d) n z ≡ get_or d n z
  unfolding filled
  filled_at z =
      let e : n ≡ length (tab f n) + 0 = omega (arith, length-tab f n) in
      ap (λ (k : ℕ). get_or (tab f n ++ drop n d) k z) e
      ∙ (get_or-append-add (tab f n) (drop n d) 0 z ∙ (get_or-drop n d 0 z ∙ ap (λ (k : ℕ). get_or d k z) (add-zero n)))

-- ---- where a pixel and a row stand

-- pixel x ends within a row of `width` pixels
pub pixel-fits : (x channels width : ℕ) → x < width → x * channels + channels ≤ width * channels
pixel-fits x channels width h = omega (arith, mul_comm width channels, row_fits x channels width h)

-- row i of a picture ends within its samples
pub row_inside : {width height channels : ℕ} {samples : List ℕ} → Sized width height channels samples → (i : ℕ) → i < height
    → i * (width * channels) + width * channels ≤ length samples
row_inside {width} {height} {channels} s i h = omega (arith, s.full, row_fits i (width * channels) height h)

-- the part from y * n up to y * n + n is row y
pub part-row : {A : Type 0} (n : ℕ) (d : List A) (y : ℕ) → take (y * n + n - y * n) (drop (y * n) d) ≡ row_of n d y
unfolding row_of
part-row n d y = rw (add-sub_cancel_left (y * n) n) refl

pub length-row : {A : Type 0} (n : ℕ) (d : List A) (y : ℕ) → y * n + n ≤ length d → length (row_of n d y) ≡ n
unfolding row_of
length-row n d y h = length-take-le n (drop (y * n) d) (omega (arith, length-drop (y * n) d))

-- a part put back is pasted
pub part-pasted : {A : Type 0} (a n : ℕ) (v d : List A) → length v ≡ n → on_part a n (λ (x : List A). v) d ≡ paste d a v n
unfolding on_part
part-pasted {A} a n v d e =
    ap₂ (λ (xs ys : List A). take a d ++ (xs ++ ys)) (sym (take_all n v (omega arith))) (drop-drop n a d)
    ∙ sym (append_assoc (take a d) (take n v) (drop (a + n) d))
