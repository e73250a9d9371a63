-- Bounds through the resampling. From samples of 8 bits the plane's values are finite and at most 2 ^ 20 in size: a luma is at
-- most 2 ^ 8, and an axis has at most 64 taps, each weight at most 1.
-- Brought up to a picture's size, a change that is at most 2 ^ k gives at most 2 ^ (k + 2), since an axis then has two taps.
use Rattle.std.specs.Prelude.{◌≡◌, length, get_or, take, drop, Float}
use Rattle.std.proofs.Common.{sym, ◌∙◌, ap, subst, zero-lt-suc, le_refl, le_trans, div-lt_iff_lt-mul, lit≤, pow-add, get_or-take, get_or-drop}
use mathlib.Core.List.{List, [], ◌∷◌}
use Prim.Native.Nat.{ℕ, zero, suc, ◌+◌, ◌-◌, ◌*◌, ◌/◌, ◌%◌, ◌^◌, ◌≤◌, ◌<◌}
use Rattle.std.proofs.Math.Nat.{suc-mul, mul-le-mul_right}
use native.Mathlib.Omega.{arith}
use Rattle.std.specs.Float.{nan}
use Rattle.std.specs.Float.Ieee.{binary32, of_bits, of_int, add, mul}
use Rattle.seq.specs.Tab.{get_or-tab, length-tab}
use Rattle.seq.specs.Lines.{get_or-lines}
use Rattle.float.specs.Base.{zero+, zero-}
use Rattle.float_laws.specs.Values.{Within, Holds}
use Rattle.float_laws.specs.Bounds.{holds-scaled, within_more, round-within, add-within, mul-within}
use Rattle.float_laws.specs.Shifted.{Room, room-power}
use Rattle.resample_window.specs.declared.Tap.{Tap}
use Rattle.resample_window.specs.Window.{taps}
use Rattle.picture.specs.Sizes.{longest_side, row_of, plane_size}
use Rattle.resample_window.specs.Taps.{taps-from}
use Rattle.resample_window_laws.specs.Reach.{reach, taps-few, taps-room-down}
use Rattle.resample_window_laws.specs.Weights.{weights-within}
use Rattle.resample.specs.Tables.{no_tap}
use Rattle.resample.specs.Resampled.{tap_total, across, resampled}
use Rattle.resample.specs.Samples.{sample_value, luma_from, luma_at, plane_row, plane_of, change_row}
use Rattle.seq.specs.Bytes.{Bytes}

-- ---- a luma

value-within : (row : List ℕ) (p : ℕ) → Bytes row → Within (sample_value row p) 255 1
unfolding of_int
value-within row p B =
    round-within binary32 _ (get_or row p 0) 1 255 1 (zero-lt-suc 0) (zero-lt-suc 0) (holds-scaled binary32 255 0 (lit≤ tt) (lit≤ tt))
    (let b : get_or row p 0 < 256 = B p in omega arith)

-- a constant that is at most n / 1024 times a sample
part-within : (w : Float) (n : ℕ) (row : List ℕ) (p : ℕ) → n ≤ 1024 → Bytes row → Within w n 1024 → Within (mul binary32 w (sample_value row p)) (n * 255) 1024
part-within w n row p N B W =
    mul-within binary32 w (sample_value row p) n 1024 255 1 (zero-lt-suc 1023) (zero-lt-suc 0) (holds-scaled binary32 (n * 255) 10 (lit≤ tt) (omega arith)) W
    (value-within row p B)

-- 0.299, 0.587 and 0.114 are at most 307, 602 and 117 of 1024 parts, which with samples up to 255 stays below 256
pub luma-within : (channels : ℕ) (row : List ℕ) (x : ℕ) → Bytes row → Within (luma_at channels row x) (2 ^ 8) 1
unfolding luma_from of_bits
luma-within channels row x B =
    within_more (luma_at channels row x) (307 * 255 + 602 * 255 + 117 * 255) 1024 (2 ^ 8) 1 (zero-lt-suc 1023)
    (add-within binary32 _ _ (307 * 255 + 602 * 255) (117 * 255) 1024 (zero-lt-suc 1023)
    (holds-scaled binary32 (307 * 255 + 602 * 255 + 117 * 255) 10 (lit≤ tt) (lit≤ tt))
    (add-within binary32 _ _ (307 * 255) (602 * 255) 1024 (zero-lt-suc 1023) (holds-scaled binary32 (307 * 255 + 602 * 255) 10 (lit≤ tt) (lit≤ tt))
    (part-within _ 307 row (x * channels) (lit≤ tt) B (lit≤ tt))
    (part-within _ 602 row (x * channels + 1) (lit≤ tt) B (lit≤ tt)))
    (part-within _ 117 row (x * channels + 2) (lit≤ tt) B (lit≤ tt)))
    (lit≤ tt)

-- ---- a sum over taps

-- at most n taps, each weight at most 1 and each value that is read at most a
module _ (f : ℕ → Float) (u : Tap) (n a : ℕ) (H : Room binary32 n a 1) where
  total-from : (z : Float) (ts : List Tap) (b : ℕ) → b + length ts ≤ n → Within z (b * a) 1 → ((i : ℕ) → i < length ts → Within (get_or ts i u).weight 1 1)
      → ((i : ℕ) → i < length ts → Within (f (get_or ts i u).from) a 1) → Within (tap_total z ts f) (n * a) 1
  unfolding tap_total
  total-from z [] b L Z W F = within_more z (b * a) 1 (n * a) 1 (zero-lt-suc 0) Z (omega (arith, mul-le-mul_right a (let l : b ≤ n = omega arith in l)))
  total-from z (t ∷ ts) b L Z W F =
      let s : suc b * a ≡ b * a + a = suc-mul b a in
      let one : 1 ≤ n = omega arith in
      let more : suc b ≤ n = omega arith in
      let P : Within (mul binary32 t.weight (f t.from)) a 1 =
      within_more (mul binary32 t.weight (f t.from)) (1 * a) (1 * 1) a 1 (zero-lt-suc 0)
      (mul-within binary32 t.weight (f t.from) 1 1 a 1 (zero-lt-suc 0) (zero-lt-suc 0) (H 1 one) (W 0 (omega arith)) (F 0 (omega arith)))
      (omega arith) in
      total-from (add binary32 z (mul binary32 t.weight (f t.from))) ts (suc b) (omega arith)
      (subst (λ (w : ℕ). Within (add binary32 z (mul binary32 t.weight (f t.from))) w 1) (sym s)
      (add-within binary32 z (mul binary32 t.weight (f t.from)) (b * a) a 1 (zero-lt-suc 0)
      (subst (λ (w : ℕ). Holds binary32 w 1) s (H (suc b) more)) Z P))
      (λ i I. W (suc i) (omega arith)) (λ i I. F (suc i) (omega arith))

  pub total-within : (z : Float) (ts : List Tap) → Within z 0 1 → length ts ≤ n → ((i : ℕ) → i < length ts → Within (get_or ts i u).weight 1 1)
      → ((i : ℕ) → i < length ts → Within (f (get_or ts i u).from) a 1) → Within (tap_total z ts f) (n * a) 1
  total-within z ts Z L W F = total-from z ts 0 (omega arith) (within_more z 0 1 (0 * a) 1 (zero-lt-suc 0) Z (omega arith)) W F

-- ---- an axis, and both

-- with no more taps than n
axis-within : (z : Float) (src dst x : ℕ) (f : ℕ → Float) (n a : ℕ) → Within z 0 1 → 0 < src → 2 * reach src dst ≤ n → Room binary32 n a 1
    → ((k : ℕ) → k < src → Within (f k) a 1) → Within (tap_total z (taps src dst x) f) (n * a) 1
axis-within z src dst x f n a Z S L H F =
    total-within f no_tap n a H z (taps src dst x) Z (le_trans (taps-few src dst x) L) (weights-within src dst x no_tap)
    (λ i I. F (get_or (taps src dst x) i no_tap).from (taps-from src dst x no_tap S i I))

pub across-within : (src dst : ℕ) (f : ℕ → Float) (x n a : ℕ) → 0 < src → 2 * reach src dst ≤ n → Room binary32 n a 1
    → ((k : ℕ) → k < src → Within (f k) a 1) → Within (across src dst f x) (n * a) 1
unfolding across
across-within src dst f x n a S L H F = axis-within zero- src dst x f n a (le_refl 0) S L H F

pub resampled-within : (w h n m : ℕ) (f : ℕ → ℕ → Float) (y x c d a : ℕ) → 0 < w → 0 < h → 2 * reach w n ≤ c → 2 * reach h m ≤ d → Room binary32 c a 1
    → Room binary32 d (c * a) 1 → ((k i : ℕ) → k < h → i < w → Within (f k i) a 1) → Within (resampled w h n m f y x) (d * (c * a)) 1
unfolding resampled
resampled-within w h n m f y x c d a W H C D P Q F =
    axis-within zero+ h m y (λ k. across w n (f k) x) d (c * a) (le_refl 0) H D Q (λ k K. across-within w n (f k) x c a W C P (λ i I. F k i K I))

-- ---- the plane

below-take : (n : ℕ) (d : List ℕ) → Bytes d → Bytes (take n d)
below-take zero d B p = lit≤ tt
below-take (suc n) [] B p = lit≤ tt
below-take (suc n) (x ∷ d) B zero = B 0
below-take (suc n) (x ∷ d) B (suc p) = below-take n d (λ q. B (suc q)) p

pub row_below : (n : ℕ) (d : List ℕ) (y : ℕ) → Bytes d → Bytes (row_of n d y)
unfolding row_of
row_below n d y B = below-take n (drop (y * n) d) (λ p. subst (λ (z : ℕ). z < 256) (sym (get_or-drop (y * n) d p 0)) (B (y * n + p)))

few-down : (src : ℕ) → src ≤ longest_side → 2 * reach src 256 ≤ 64
few-down src h = omega (arith, taps-room-down src h)

pub plane-within : (width height channels : ℕ) (samples : List ℕ) → 0 < width → width ≤ longest_side → 0 < height → height ≤ longest_side → Bytes samples
    → (p : ℕ) → p < plane_size → Within (get_or (plane_of width height channels samples) p nan) (2 ^ 20) 1
unfolding plane_of plane_row
plane-within width height channels samples W W' H H' B p P =
    let row : ℕ → ℕ → Float = λ k. luma_at channels (row_of (width * channels) samples k) in
    let y = p / 256 in
    let x = p % 256 in
    let at : y * 256 + x ≡ p = omega arith in
    let X : x < 256 = omega arith in
    let Y : y < 256 = omega arith in
    let e : get_or (plane_of width height channels samples) p nan ≡ resampled width height 256 256 row y x =
    ap (λ (q : ℕ). get_or (plane_of width height channels samples) q nan) (sym at)
    ∙ get_or-lines 256 (plane_row width height channels samples) (λ r. length-tab (resampled width height 256 256 row r) 256) 256 y x nan Y X
    ∙ get_or-tab (resampled width height 256 256 row y) 256 x nan X in
    subst (λ (z : Float). Within z (2 ^ 20) 1) (sym e)
    (resampled-within width height 256 256 row y x 64 64 (2 ^ 8) W H (few-down width W') (few-down height H') (room-power binary32 64 8 (lit≤ tt) (lit≤ tt))
    (room-power binary32 64 14 (lit≤ tt) (lit≤ tt))
    (λ k i K I. luma-within channels (row_of (width * channels) samples k) i (row_below (width * channels) samples k B)))

-- ---- a change of the plane, brought to a picture's size

few-up : (dst : ℕ) → 256 ≤ dst → 2 * reach 256 dst ≤ 2
unfolding reach
few-up dst h =
    let e : 2 * dst ≡ dst + dst = omega arith in
    let p : 0 < dst = omega arith in
    let l : (256 + dst - 1) / dst < 2 = (div-lt_iff_lt-mul p).1 (omega arith) in
    omega arith

-- 256 ≤ width, height: two taps an axis
pub change-within : (width height : ℕ) (change : List Float) (k : ℕ) → 256 ≤ width → 256 ≤ height → k ≤ 100
    → ((p : ℕ) → p < plane_size → Within (get_or change p nan) (2 ^ k) 1) → (y x : ℕ) → x < width
    → Within (get_or (change_row width height change y) x nan) (2 ^ (k + 2)) 1
unfolding change_row row_of
change-within width height change k W H K F y x X =
    let f : ℕ → ℕ → Float = λ r i. get_or (row_of 256 change r) i nan in
    let two : 2 * 2 ^ k ≡ 2 ^ (k + 1) = omega (arith, pow-add 2 k 1) in
    let four : 2 * (2 * 2 ^ k) ≡ 2 ^ (k + 2) = omega (arith, pow-add 2 k 2) in
    subst (λ (z : Float). Within z (2 ^ (k + 2)) 1) (sym (get_or-tab (resampled 256 256 width height f y) width x nan X))
    (subst (λ (z : ℕ). Within (resampled 256 256 width height f y x) z 1) four
    (resampled-within 256 256 width height f y x 2 2 (2 ^ k) (lit≤ tt) (lit≤ tt) (few-up width W) (few-up height H)
    (room-power binary32 2 k (omega arith) (lit≤ tt))
    (subst (λ (z : ℕ). Room binary32 2 z 1) (sym two) (room-power binary32 2 (k + 1) (omega arith) (lit≤ tt)))
    (λ r i R I. subst (λ (z : Float). Within z (2 ^ k) 1) (sym (get_or-take 256 (drop (r * 256) change) i nan I ∙ get_or-drop (r * 256) change i nan))
    (F (r * 256 + i) (omega arith)))))
