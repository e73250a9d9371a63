-- Laws on four rows at once: side by side, one row behind the other, and their lumas.
use Rattle.std.specs.Prelude.{◌≡◌, refl, Bool, true, false, not, min, cond, ℕ, zero, suc, ◌+◌, ◌-◌, ◌*◌, ◌/◌, ◌%◌, ◌≤◌, ◌<◌, T, ltb, pos, length, set, Float}
use Rattle.std.proofs.Common.{sym, ◌∙◌, inl, inr, eq-or-lt_of_le, ltb→lt, nltb→le, lt→ltb, length-set, ext_get_or, get_or-set_same, get_or-set_other}
use Rattle.std.proofs.Math.Path.{ap, ap₂}
use mathlib.Core.List.{List, ◌++◌}
use native.Mathlib.Omega.{arith}
use Rattle.std.proofs.Math.ListN.{get_or, drop, get_or-append}
use Rattle.std.specs.Float.Ieee.{nan, of_int, add, mul}
use Rattle.std.specs.Float.{binary32}
use Rattle.std.specs.Float.Ieee.Bits.{is_true}
use Rattle.seq.specs.Tab.{length-tab, get_or-tab, tab-same, filled_more}
use Rattle.seq.specs.Lists.{tab, filled, lines}
use Rattle.seq.specs.Lines.{lines_same, length-lines, get_or-lines}
use Rattle.resample.specs.Resampled.{across}
use Rattle.resample.specs.Samples.{luma_from, luma_at, narrow_row}
use Rattle.picture.specs.Sizes.{row_of}
use Rattle.resample.specs.Taps.{across-same}
use Rattle.resample_four.specs.Four.{of_four, beside, lane, luma_weights, share_at, capped_at, four_at, luma_line, narrow_four}

-- ---- side by side

module _ {A : Type 0} where
  pub beside_at : (f : ℕ → ℕ → A) (l x : ℕ) → l < 4 → beside f (4 * x + l) ≡ f l x
  unfolding beside
  beside_at f l x h =
      let m : (4 * x + l) % 4 ≡ l = omega arith in
      let d : (4 * x + l) / 4 ≡ x = omega arith in
      ap₂ f m d

  -- the values x of all four put behind those before
  pub filled-four : (f : ℕ → ℕ → A) (x : ℕ) (s : List A) (t u v w : A) → 4 * x + 4 ≤ length s → t ≡ f 0 x → u ≡ f 1 x → v ≡ f 2 x → w ≡ f 3 x
      → set (set (set (set (filled (beside f) (4 * x) s) (4 * x) t) (4 * x + 1) u) (4 * x + 2) v) (4 * x + 3) w ≡ filled (beside f) (4 * (x + 1)) s
  filled-four f x s t u v w h T U Y W =
      let next : (k : ℕ) (y : A) → k < 4 → y ≡ f k x → set (filled (beside f) (4 * x + k) s) (4 * x + k) y ≡ filled (beside f) (4 * x + k + 1) s =
      λ k y K E. ap (set (filled (beside f) (4 * x + k) s) (4 * x + k)) (E ∙ sym (beside_at f k x K)) ∙ filled_more (beside f) (4 * x + k) s (omega arith) in
      let n0 : 4 * x + 0 ≡ 4 * x = omega arith in
      let n2 : 4 * x + 1 + 1 ≡ 4 * x + 2 = omega arith in
      let n3 : 4 * x + 2 + 1 ≡ 4 * x + 3 = omega arith in
      let n4 : 4 * x + 3 + 1 ≡ 4 * (x + 1) = omega arith in
      let e0 : set (filled (beside f) (4 * x) s) (4 * x) t ≡ filled (beside f) (4 * x + 1) s = rw n0 at (next 0 t (omega arith) T) in
      let e1 : set (filled (beside f) (4 * x + 1) s) (4 * x + 1) u ≡ filled (beside f) (4 * x + 2) s = rw n2 at (next 1 u (omega arith) U) in
      let e2 : set (filled (beside f) (4 * x + 2) s) (4 * x + 2) v ≡ filled (beside f) (4 * x + 3) s = rw n3 at (next 2 v (omega arith) Y) in
      let e3 : set (filled (beside f) (4 * x + 3) s) (4 * x + 3) w ≡ filled (beside f) (4 * (x + 1)) s = rw n4 at (next 3 w (omega arith) W) in
      rw (e0, e1, e2) e3

  pub get_or-filled : (f : ℕ → A) (n k : ℕ) (s : List A) (z : A) → k < n → get_or (filled f n s) k z ≡ f k
  unfolding filled
  get_or-filled f n k s z h = get_or-append (tab f n) (drop n s) z k (omega (arith, length-tab f n)) ∙ get_or-tab f n k z h

-- ---- one row behind the other

-- the first x values of each of four rows of 256
abbrev pub Behind : {A : Type 0} → A → (ℕ → ℕ → A) → ℕ → List A → Type 0
Behind z f x s = (l y : ℕ) → l < 4 → y < x → get_or s (l * 256 + y) z ≡ f l y

module _ {A : Type 0} (z : A) (f : ℕ → ℕ → A) where
  -- the values x of all four put into their rows
  pub behind_more : (x : ℕ) (s : List A) (t u v w : A) → x < 256 → length s ≡ 1024 → t ≡ f 0 x → u ≡ f 1 x → v ≡ f 2 x → w ≡ f 3 x → Behind z f x s
      → Behind z f (x + 1) (set (set (set (set s x t) (x + 256) u) (x + 512) v) (x + 768) w)
  behind_more x s t u v w X S T U Y W b l y L h =
      elim (eq-or-lt_of_le h) [
        | inl e ↦ (let i : y ≡ x = omega arith in rw i (here l L))
        | inr k ↦ (let less : y < x = omega arith in others l y L less ∙ b l y L less)
      ]
    where
      others : (l y : ℕ) → l < 4 → y < x → get_or (set (set (set (set s x t) (x + 256) u) (x + 512) v) (x + 768) w) (l * 256 + y) z ≡ get_or s (l * 256 + y) z
      others l y L h =
          get_or-set_other (set (set (set s x t) (x + 256) u) (x + 512) v) (x + 768) (l * 256 + y) w z (λ q. absurd (omega arith))
          ∙ (get_or-set_other (set (set s x t) (x + 256) u) (x + 512) (l * 256 + y) v z (λ q. absurd (omega arith))
          ∙ (get_or-set_other (set s x t) (x + 256) (l * 256 + y) u z (λ q. absurd (omega arith))
          ∙ get_or-set_other s x (l * 256 + y) t z (λ q. absurd (omega arith))))

      -- a row before those that are written behind it
      here : (l : ℕ) → l < 4 → get_or (set (set (set (set s x t) (x + 256) u) (x + 512) v) (x + 768) w) (l * 256 + x) z ≡ f l x
      here zero L =
          let e : 0 * 256 + x ≡ x = omega arith in
          rw e
          (get_or-set_other (set (set (set s x t) (x + 256) u) (x + 512) v) (x + 768) x w z (λ q. absurd (omega arith))
          ∙ (get_or-set_other (set (set s x t) (x + 256) u) (x + 512) x v z (λ q. absurd (omega arith))
          ∙ (get_or-set_other (set s x t) (x + 256) x u z (λ q. absurd (omega arith)) ∙ (get_or-set_same s x t z (omega arith) ∙ T))))
      here (suc zero) L =
          let e : 1 * 256 + x ≡ x + 256 = omega arith in
          rw e
          (get_or-set_other (set (set (set s x t) (x + 256) u) (x + 512) v) (x + 768) (x + 256) w z (λ q. absurd (omega arith))
          ∙ (get_or-set_other (set (set s x t) (x + 256) u) (x + 512) (x + 256) v z (λ q. absurd (omega arith))
          ∙ (get_or-set_same (set s x t) (x + 256) u z (rw length-set (omega arith)) ∙ U)))
      here (suc (suc zero)) L =
          let e : 2 * 256 + x ≡ x + 512 = omega arith in
          rw e (get_or-set_other (set (set (set s x t) (x + 256) u) (x + 512) v) (x + 768) (x + 512) w z (λ q. absurd (omega arith))
          ∙ (get_or-set_same (set (set s x t) (x + 256) u) (x + 512) v z (rw (length-set, length-set) (omega arith)) ∙ Y))
      here (suc (suc (suc zero))) L =
          let e : 3 * 256 + x ≡ x + 768 = omega arith in
          rw e (get_or-set_same (set (set (set s x t) (x + 256) u) (x + 512) v) (x + 768) w z (rw (length-set, length-set, length-set) (omega arith)) ∙ W)
      here (suc (suc (suc (suc l)))) L = absurd (omega arith)

  pub behind-all : (s : List A) → length s ≡ 1024 → Behind z f 256 s → s ≡ lines (λ l. tab (f l) 256) 4
  behind-all s S b =
      let long : length (lines (λ l. tab (f l) 256) 4) ≡ 4 * 256 = length-lines 256 (λ l. tab (f l) 256) (λ l. length-tab (f l) 256) 4 in
      ext_get_or z s (lines (λ l. tab (f l) 256) 4) (omega arith) (λ i I. same i (omega arith))
    where
      same : (i : ℕ) → i < 1024 → get_or s i z ≡ get_or (lines (λ l. tab (f l) 256) 4) i z
      same i I =
          let at : i / 256 * 256 + i % 256 ≡ i = omega arith in
          let at_row : get_or s (i / 256 * 256 + i % 256) z ≡ get_or (lines (λ l. tab (f l) 256) 4) (i / 256 * 256 + i % 256) z =
          b (i / 256) (i % 256) (omega arith) (omega arith)
          ∙ sym (get_or-lines 256 (λ l. tab (f l) 256) (λ l. length-tab (f l) 256) 4 (i / 256) (i % 256) z (omega arith) (omega arith)
          ∙ get_or-tab (f (i / 256)) 256 (i % 256) z (omega arith)) in
          rw at at at_row

-- ---- products looked up

looked : (c v : ℕ) → c < 3 → v < 256 → get_or (tab share_at 768) (c * 256 + v) nan ≡ mul binary32 (get_or luma_weights c nan) (of_int binary32 (pos v))
unfolding share_at
looked c v C B =
    let d : (c * 256 + v) / 256 ≡ c = omega arith in
    let m : (c * 256 + v) % 256 ≡ v = omega arith in
    get_or-tab share_at 768 (c * 256 + v) nan (omega arith) ∙ ap₂ (λ (i j : ℕ). mul binary32 (get_or luma_weights i nan) (of_int binary32 (pos j))) d m

pub luma-looked : (shares : List Float) → shares ≡ tab share_at 768 → (samples : List ℕ) (p : ℕ) → get_or samples p 0 < 256 → get_or samples (p + 1) 0 < 256
    → get_or samples (p + 2) 0 < 256
    → add binary32 (add binary32 (get_or shares (0 + get_or samples p 0) nan) (get_or shares (256 + get_or samples (p + 1) 0) nan))
    (get_or shares (512 + get_or samples (p + 2) 0) nan) ≡ luma_from samples p
unfolding luma_from
luma-looked shares e samples p r g b =
    rw (
      e,
      looked 0 (get_or samples p 0) (omega arith) r,
      looked 1 (get_or samples (p + 1) 0) (omega arith) g,
      looked 2 (get_or samples (p + 2) 0) (omega arith) b,
    ) refl

-- ---- four rows of samples

pub capped-below : (i height : ℕ) → 0 < height → capped_at i height < height
unfolding capped_at
capped-below i height h = go (ltb i height) (ltb→lt i height)
  where
    go : (b : Bool) → (T b → i < height) → cond b i (height - 1) < height
    go true f = f tt
    go false f = omega arith

pub capped-own : (i height : ℕ) → i < height → capped_at i height ≡ i
unfolding capped_at
capped-own i height h = rw (is_true (ltb i height) (lt→ltb i height h)) refl

pub capped-min : (i height : ℕ) → 0 < height → min i (height - 1) ≡ capped_at i height
unfolding capped_at
capped-min i height h = go (ltb i height) (ltb→lt i height) (nltb→le i height)
  where
    go : (b : Bool) → (T b → i < height) → (T (not b) → height ≤ i) → min i (height - 1) ≡ cond b i (height - 1)
    go true f g = let l : i < height = f tt in omega arith
    go false f g = let l : height ≤ i = g tt in omega arith

-- of four things, by the rows from row 4 g on, the one of row l
one-row : {A : Type 0} (f : ℕ → A) (g height l : ℕ) → l < 4
    → of_four (f (capped_at (4 * g) height)) (f (capped_at (4 * g + 1) height)) (f (capped_at (4 * g + 2) height)) (f (capped_at (4 * g + 3) height)) l
    ≡ f (capped_at (4 * g + l) height)
unfolding of_four
one-row f g height zero h = let e : 4 * g + 0 ≡ 4 * g = omega arith in rw e refl
one-row f g height (suc zero) h = refl
one-row f g height (suc (suc zero)) h = refl
one-row f g height (suc (suc (suc zero))) h = refl
one-row f g height (suc (suc (suc (suc l)))) h = absurd (omega arith)

module _ (width height channels : ℕ) (samples : List ℕ) (g : ℕ) (some : 0 < width) where
  -- the lumas of the four rows are those of the picture's
  pub line-found : (a b c d : List ℕ) (line : List Float) → let n = width * channels in
      a ≡ row_of n samples (capped_at (4 * g) height) → b ≡ row_of n samples (capped_at (4 * g + 1) height) → c ≡ row_of n samples (capped_at (4 * g + 2) height)
      → d ≡ row_of n samples (capped_at (4 * g + 3) height)
      → filled (beside (λ l. luma_at channels (of_four a b c d l))) (4 * width) line ≡ luma_line width height channels samples g line
  unfolding luma_line filled beside
  line-found a b c d line A B C D =
      ap (λ (xs : List Float). xs ++ drop (4 * width) line)
      (tab-same _ _ (4 * width) (λ q Q. rw (A, B, C, D, one-row (row_of (width * channels) samples) g height (q % 4) (omega arith)) refl))

  lane-luma : (line₀ line : List Float) → line ≡ luma_line width height channels samples g line₀ → (l x : ℕ) → l < 4 → x < width
      → lane line l x ≡ four_at width height channels samples g l x
  unfolding lane luma_line
  lane-luma line₀ line e l x h b =
      let f = four_at width height channels samples g in
      ap (λ (xs : List Float). get_or xs (4 * x + l) nan) e ∙ (get_or-filled (beside f) (4 * width) (4 * x + l) line₀ nan (omega arith) ∙ beside_at f l x h)

  pub narrowed-four : (line₀ line out : List Float) → line ≡ luma_line width height channels samples g line₀
      → out ≡ lines (λ l. tab (across width 256 (lane line l)) 256) 4 → out ≡ narrow_four width height channels samples g
  unfolding narrow_four narrow_row
  narrowed-four line₀ line out e o =
      o ∙ lines_same _ _ 4
      (λ l h. tab-same _ _ 256
      (λ x X. across-same width 256 (lane line l) (four_at width height channels samples g l) x some (λ k K. lane-luma line₀ line e l k h K)))
