-- A row of samples whose first pixels are changed, and a row of the change put through its taps.
use Rattle.std.specs.Prelude.{◌≡◌, List, ℕ, ◌+◌, ◌*◌, ◌/◌, ◌%◌, ◌≤◌, ◌<◌, ltb, length, get_or, set, Float}
use Rattle.std.proofs.Math.Path.{refl}
use Rattle.std.proofs.Common.{sym, ◌∙◌, ap, inl, inr, add-one, suc-mul, eq-or-lt_of_le, mod-eq_of_lt, arith, lt→ltb}
use Rattle.std.proofs.Math.Nat.{div-eq_of_lt, mul-add-mod_self_right, mul-add-div_right}
use Rattle.std.proofs.Math.Arith.{le→nltb}
use Rattle.std.proofs.lemmas.List.{set-get_or}
use Rattle.std.specs.Float.{nan, binary32}
use Rattle.std.specs.Float.Ieee.{add}
use Rattle.std.specs.Float.Ieee.Bits.{is_true, is_false}
use Rattle.seq.specs.Tab.{filled_more, filled-all}
use Rattle.seq.specs.Lists.{tab, filled}
use Rattle.float.specs.Calls.{rounded_byte}
use Rattle.resample.specs.Samples.{changed_at, sample_value, wide_row, changed_row}
use Rattle.picture.specs.Sizes.{row_of}
use Rattle.resample.specs.Resampled.{across}
use Rattle.resample.specs.Pixels.{filled_at}

-- a place that is not made yet is made already where it holds what the function says
filled-kept : {A : Type 0} (f : ℕ → A) (n : ℕ) (d : List A) (z : A) → n < length d → get_or d n z ≡ f n → filled f n d ≡ filled f (n + 1) d
filled-kept {A} f n d z h e = sym (set-get_or (filled f n d) n z) ∙ (ap (λ (v : A). set (filled f n d) n v) (filled_at f n d z ∙ e) ∙ filled_more f n d h)

-- ---- a row put through its taps

pub widened : (n : ℕ) (change : List Float) (k : ℕ) (part out : List Float) → part ≡ row_of 256 change k
    → out ≡ tab (across 256 n (λ i. get_or part i nan)) n → out ≡ wide_row n change k
unfolding wide_row
widened n change k part out e o = rw e at o

-- ---- a row with the change of each pixel

module _ (channels : ℕ) (delta : ℕ → Float) (d : List ℕ) (x k : ℕ) (less : k < channels) where
  channel : (x * channels + k) % channels ≡ k
  channel = mul-add-mod_self_right x channels k ∙ mod-eq_of_lt less

  pixel : (x * channels + k) / channels ≡ x
  pixel =
      let some : 0 < channels = omega arith in
      let e : x + k / channels ≡ x = omega (arith, div-eq_of_lt less) in
      mul-add-div_right some x k ∙ e

  first_three : k < 3 → rounded_byte (add binary32 (sample_value d (x * channels + k)) (delta x)) ≡ changed_at channels delta d (x * channels + k)
  unfolding changed_at
  first_three h = rw (channel, pixel, is_true (ltb k 3) (lt→ltb k 3 h)) refl

  fourth : 3 ≤ k → get_or d (x * channels + k) 0 ≡ changed_at channels delta d (x * channels + k)
  unfolding changed_at
  fourth h = rw (channel, is_false (ltb k 3) (le→nltb k 3 h)) refl

  -- one sample more: p is sample k of pixel x
  sample-more : (row : List ℕ) (p q v : ℕ) → k < 3 → p ≡ x * channels + k → q ≡ p + 1 → p < length d → row ≡ filled (changed_at channels delta d) p d
      → v ≡ rounded_byte (add binary32 (sample_value row p) (delta x)) → set row p v ≡ filled (changed_at channels delta d) q d
  sample-more row p q v h i j l r e =
      let was : get_or row p 0 ≡ get_or d p 0 = ap (λ (s : List ℕ). get_or s p 0) r ∙ filled_at (changed_at channels delta d) p d 0 in
      let is : v ≡ changed_at channels delta d p = rw (e, was, i) (first_three h) in
      rw (r, is, j) (filled_more (changed_at channels delta d) p d l)

module _ (channels : ℕ) (delta : ℕ → Float) (d : List ℕ) (x : ℕ) (three : 3 ≤ channels) (four : channels ≤ 4) (room : x * channels + channels ≤ length d) where
  -- behind the first three samples of pixel x the pixel is done
  pixel-done : filled (changed_at channels delta d) (x * channels + 3) d ≡ filled (changed_at channels delta d) ((x + 1) * channels) d
  pixel-done =
      elim (eq-or-lt_of_le three) [
        | inl e ↦ (let i : x * channels + 3 ≡ (x + 1) * channels = omega (arith, next) in rw i refl)
        | inr l ↦
            let i : x * channels + 3 + 1 ≡ (x + 1) * channels = omega (arith, next) in
            rw (← i) (filled-kept (changed_at channels delta d) (x * channels + 3) d 0 (omega arith) (fourth channels delta d x 3 l (omega arith)))
      ]
    where
      next : (x + 1) * channels ≡ x * channels + channels
      next = rw (add-one, suc-mul) refl

  -- one pixel more
  pub pixel-more : (row : List ℕ) (u v w : ℕ) → row ≡ filled (changed_at channels delta d) (x * channels) d
      → u ≡ rounded_byte (add binary32 (sample_value row (x * channels)) (delta x))
      → v ≡ rounded_byte (add binary32 (sample_value (set row (x * channels) u) (x * channels + 1)) (delta x))
      → w ≡ rounded_byte (add binary32 (sample_value (set (set row (x * channels) u) (x * channels + 1) v) (x * channels + 2)) (delta x))
      → set (set (set row (x * channels) u) (x * channels + 1) v) (x * channels + 2) w ≡ filled (changed_at channels delta d) ((x + 1) * channels) d
  pixel-more row u v w r e f g =
      let p = x * channels in
      let one : set row p u ≡ filled (changed_at channels delta d) (p + 1) d =
      sample-more channels delta d x 0 (omega arith) row p (p + 1) u (omega arith) (omega arith) refl (omega arith) r e in
      let two : set (set row p u) (p + 1) v ≡ filled (changed_at channels delta d) (p + 2) d =
      sample-more channels delta d x 1 (omega arith) (set row p u) (p + 1) (p + 2) v (omega arith) refl (omega arith) (omega arith) one f in
      sample-more channels delta d x 2 (omega arith) (set (set row p u) (p + 1) v) (p + 2) (p + 3) w (omega arith) refl (omega arith) (omega arith) two g
      ∙ pixel-done

-- all pixels
pub changed-all : (channels : ℕ) (delta : ℕ → Float) (d : List ℕ) → filled (changed_at channels delta d) (length d) d ≡ changed_row channels delta d
unfolding changed_at changed_row
changed-all channels delta d = filled-all (changed_at channels delta d) d
