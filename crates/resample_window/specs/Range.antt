-- Where a window lies: its centre and its support are bounded, and the numbers of every window are below 2 ^ 15 in size, so
-- that no sum or difference of them wraps.
-- Each step is one rounding of an exact result that a whole number bounds, and rounding keeps the order.
use Rattle.std.specs.Prelude.{◌≡◌, ℕ, ◌+◌, ◌*◌, ◌/◌, ◌^◌, ◌<◌, ◌≤◌, Bool, true, false, cond, ◌&&◌, T, ℤ, pos, negsuc, is_nan, nat_le, nat_lt, unsigned_abs, Float}
use Rattle.std.proofs.Common.{sym, ap, ◌∙◌, subst, zero-le, le_refl, le_trans, le_of_eq, lt_of_le_of_lt, zero-lt-suc, mul-one, one-mul, mul_comm, add-mul, mul-le-mul, mul-le-mul_right, div-mul-le_self, div-le_self, arith, ltb→lt, lt→ltb, leb→le, le→leb, lit≤, lit<}
use Rattle.std.proofs.Math.Nat.{lt-div-mul-add}
use Rattle.std.specs.Int.Signed.{mag}
use Rattle.std.specs.Float.{nan, inf, fin, binary64}
use Rattle.std.specs.Float.Ieee.{round, of_int, add, sub, mul, lt}
use Rattle.std.specs.Float.Ieee.Bits.{is_true}
use Rattle.std.specs.Float.Ieee.Back.{round_whole}
use Rattle.std.specs.Float.Ieee.Exact.{HasValue}
use Rattle.std.specs.Float.Ieee.Fits.{and_i, and_l, and_r, add-fits, sub-fits}
use Rattle.float.specs.Base.{two_to, half}
use Rattle.float.specs.Calls.{larger}
use Rattle.float_laws.specs.Product.{div-value-at}
use Rattle.float_laws.specs.Values.{Within, Holds}
use Rattle.float_laws.specs.Bounds.{holds-whole, round-within, within_more, add-within, sub_within, mul-within}
use Rattle.float_laws.specs.Floors.{floor-bound, ceil-bound}
use Rattle.resample_window.specs.declared.Window.{Window}
use Rattle.resample_window.specs.Window.{scale_of, center_of, support_of, unsummed, with_sum, empty, is_side, has_window, window_of}
use Rattle.picture.specs.Sizes.{longest_side}

-- ---- a window is that of an output sample that is there, or the one without a number

sized-pos : (n : ℕ) → T (is_side n) → 0 < n
sized-pos n t = ltb→lt 0 n (and_l (nat_lt 0 n) (nat_le n longest_side) t)

sized-top : (n : ℕ) → T (is_side n) → n ≤ longest_side
sized-top n t = leb→le n longest_side (and_r (nat_lt 0 n) (nat_le n longest_side) t)

to-sized : (n : ℕ) → 0 < n → n ≤ longest_side → T (is_side n)
to-sized n p q = and_i (nat_lt 0 n) (nat_le n longest_side) (lt→ltb 0 n p) (le→leb n longest_side q)

pub window-sized : (src dst i : ℕ) → 0 < src → src ≤ longest_side → 0 < dst → dst ≤ longest_side → i < dst
    → window_of src dst i ≡ with_sum (unsummed (center_of src dst i) (support_of src dst))
unfolding window_of
window-sized src dst i A B C D I =
    ap (λ (b : Bool). cond b (with_sum (unsummed (center_of src dst i) (support_of src dst))) empty)
    (is_true (is_side src && is_side dst && nat_lt i dst)
    (and_i (is_side src && is_side dst) (nat_lt i dst) (and_i (is_side src) (is_side dst) (to-sized src A B) (to-sized dst C D)) (lt→ltb i dst I)))

pub has-window : (src dst i : ℕ) → T (has_window src dst i) → (0 < src) × (src ≤ longest_side) × (0 < dst) × (dst ≤ longest_side) × (i < dst)
has-window src dst i t =
    let s : T (is_side src && is_side dst) = and_l (is_side src && is_side dst) (nat_lt i dst) t in
    let a : T (is_side src) = and_l (is_side src) (is_side dst) s in
    let b : T (is_side dst) = and_r (is_side src) (is_side dst) s in
    (sized-pos src a, sized-top src a, sized-pos dst b, sized-top dst b, ltb→lt i dst (and_r (is_side src && is_side dst) (nat_lt i dst) t))

pub window-cases : (P : Window → Type 0) (src dst i : ℕ) → P empty
    → (0 < src → src ≤ longest_side → 0 < dst → dst ≤ longest_side → i < dst → P (with_sum (unsummed (center_of src dst i) (support_of src dst))))
    → P (window_of src dst i)
unfolding window_of
window-cases P src dst i z h = go (has_window src dst i) (λ t. let p = has-window src dst i t in h p.0 p.1 p.2 p.3 p.4)
  where
    go : (b : Bool) → (T b → P (with_sum (unsummed (center_of src dst i) (support_of src dst))))
        → P (cond b (with_sum (unsummed (center_of src dst i) (support_of src dst))) empty)
    go true k = k tt
    go false k = z

-- ---- the sizes of what a window is made of

pub whole-value : (n : ℕ) → n ≤ longest_side → HasValue (of_int binary64 (pos n)) false n 1
unfolding of_int
whole-value n h = round_whole binary64 false n (le_trans h (lit≤ tt))

pub scale-is : (src dst : ℕ) → src ≤ longest_side → 0 < dst → dst ≤ longest_side → scale_of src dst ≡ round binary64 false src dst
unfolding scale_of
scale-is src dst B C D =
    div-value-at binary64 (of_int binary64 (pos src)) (of_int binary64 (pos dst)) false false src 1 dst 1 (zero-lt-suc 0) C (zero-lt-suc 0)
    (whole-value src B) (whole-value dst D)
    ∙ ap (λ (z : ℕ). round binary64 false z (1 * dst)) (mul-one src)
    ∙ ap (λ (z : ℕ). round binary64 false src z) (one-mul dst)

most-either : (P : Float → Type 0) (x y : Float) → P x → P y → P (larger x y)
unfolding larger
most-either P x y p q = go (is_nan x) (lt x y)
  where
    go : (a b : Bool) → P (cond a y (cond b y x))
    go true b = q
    go false true = q
    go false false = p

value-within : (x : Float) (n k : ℕ) → n ≤ k → HasValue x false n 1 → Within x k 1
value-within nan n k l v = v
value-within (inf s) n k l v = v
value-within (fin s m e) n k l v = le_trans (le_of_eq v.1) (mul-le-mul_right _ l)

pub scale-within : (src dst r : ℕ) → src ≤ longest_side → 0 < dst → dst ≤ longest_side → Holds binary64 r 1 → src ≤ r * dst → Within (scale_of src dst) r 1
scale-within src dst r B C D H h =
    subst (λ (z : Float). Within z r 1) (sym (scale-is src dst B C D))
    (round-within binary64 false src dst r 1 C (zero-lt-suc 0) H (le_trans (le_of_eq (mul-one src)) h))

pub longest-times : (src dst : ℕ) → src ≤ longest_side → 0 < dst → src ≤ longest_side * dst
longest-times src dst B C = le_trans B (le_trans (le_of_eq (sym (mul-one longest_side))) (mul-le-mul (le_refl longest_side) C))

-- of a scale and another bounded float the larger
pub larger-within : (src dst : ℕ) (t : Float) → src ≤ longest_side → 0 < dst → dst ≤ longest_side → Within t longest_side 1
    → Within (larger (scale_of src dst) t) longest_side 1
larger-within src dst t B C D k =
    most-either (λ (z : Float). Within z longest_side 1) (scale_of src dst) t
    (scale-within src dst longest_side B C D (holds-whole binary64 longest_side (lit≤ tt)) (longest-times src dst B C)) k

pub support-within : (src dst : ℕ) → src ≤ longest_side → 0 < dst → dst ≤ longest_side → Within (support_of src dst) longest_side 1
unfolding support_of
support-within src dst B C D = larger-within src dst (two_to 0) B C D (lit≤ tt)

-- (i + h) * scale - 0.5, for h up to 1: i + h is at most dst, and the scale at most r = src / dst + 1, cut to a whole number, so the product is at most src + dst
pub product-within : (src dst i : ℕ) (h : Float) → src ≤ longest_side → 0 < dst → dst ≤ longest_side → i < dst → Within h 1 1
    → Within (sub binary64 (mul binary64 (add binary64 (of_int binary64 (pos i)) h) (scale_of src dst)) half) (2 ^ 14 + 1) 1
product-within src dst i h B C D I H =
    let r = src / dst + 1 in
    let e : r * dst ≡ src / dst * dst + dst = add-mul (src / dst) 1 dst ∙ ap (λ (z : ℕ). src / dst * dst + z) (one-mul dst) in
    let over : src < src / dst * dst + dst = lt-div-mul-add C in
    let under : src / dst * dst ≤ src = div-mul-le_self src dst in
    let q : src / dst ≤ src = div-le_self src dst in
    let k : i + 1 ≤ dst = omega arith in
    let small : (n : ℕ) → n ≤ 2 ^ 15 → Holds binary64 n 1 = (λ n l. holds-whole binary64 n (le_trans l (lit≤ tt))) in
    let x = add binary64 (of_int binary64 (pos i)) h in
    let a : Within x (i + 1) 1 =
    add-within binary64 (of_int binary64 (pos i)) h i 1 1 (zero-lt-suc 0) (small (i + 1) (omega arith))
    (value-within (of_int binary64 (pos i)) i i (le_refl i) (whole-value i (omega arith))) H in
    let b : Within x dst 1 = within_more x (i + 1) 1 dst 1 (zero-lt-suc 0) a (mul-le-mul_right 1 k) in
    let f : dst * r ≤ 2 ^ 14 = le_trans (le_of_eq (mul_comm dst r)) (omega arith) in
    let m : Within (mul binary64 x (scale_of src dst)) (dst * r) 1 =
    mul-within binary64 x (scale_of src dst) dst 1 r 1 (zero-lt-suc 0) (zero-lt-suc 0) (small (dst * r) (le_trans f (lit≤ tt))) b
    (scale-within src dst r B C D (small r (omega arith)) (omega arith)) in
    sub_within binary64 (mul binary64 x (scale_of src dst)) half (2 ^ 14) 1 1 (zero-lt-suc 0) (holds-whole binary64 (2 ^ 14 + 1) (lit≤ tt))
    (within_more (mul binary64 x (scale_of src dst)) (dst * r) 1 (2 ^ 14) 1 (zero-lt-suc 0) m (mul-le-mul_right 1 f)) (lit≤ tt)

-- (i + 0.5) * scale - 0.5
pub center-within : (src dst i : ℕ) → src ≤ longest_side → 0 < dst → dst ≤ longest_side → i < dst → Within (center_of src dst i) (2 ^ 14 + 1) 1
unfolding center_of
center-within src dst i B C D I = product-within src dst i half B C D I (lit≤ tt)

-- ---- its first and last number

mag-le : (z : ℤ) → mag z ≤ unsigned_abs z
mag-le (pos n) = le_refl n
mag-le (negsuc n) = omega arith

-- the centre and the support together
abbrev pub span : ℕ
span = 2 ^ 14 + 1 + longest_side

first-span : (c s : Float) → Within c (2 ^ 14 + 1) 1 → Within s longest_side 1 → unsigned_abs (unsummed c s).first ≤ span
first-span c s h k =
    ceil-bound binary64 63 (sub binary64 c s) span (sub-fits binary64 c s)
    (sub_within binary64 c s (2 ^ 14 + 1) longest_side 1 (zero-lt-suc 0) (holds-whole binary64 span (lit≤ tt)) h k) (lit< tt)

last-span : (c s : Float) → Within c (2 ^ 14 + 1) 1 → Within s longest_side 1 → unsigned_abs (unsummed c s).last ≤ span
last-span c s h k =
    floor-bound binary64 63 (add binary64 c s) span (add-fits binary64 c s)
    (add-within binary64 c s (2 ^ 14 + 1) longest_side 1 (zero-lt-suc 0) (holds-whole binary64 span (lit≤ tt)) h k) (lit< tt)

pub first-within : (src dst i : ℕ) → unsigned_abs (window_of src dst i).first ≤ span
first-within src dst i =
    window-cases (λ (w : Window). unsigned_abs w.first ≤ span) src dst i zero-le
    (λ A B C D I. first-span (center_of src dst i) (support_of src dst) (center-within src dst i B C D I) (support-within src dst B C D))

pub last_within : (src dst i : ℕ) → unsigned_abs (window_of src dst i).last ≤ span
last_within src dst i =
    window-cases (λ (w : Window). unsigned_abs w.last ≤ span) src dst i (lit≤ tt)
    (λ A B C D I. last-span (center_of src dst i) (support_of src dst) (center-within src dst i B C D I) (support-within src dst B C D))

pub first_small : (src dst i : ℕ) → mag (window_of src dst i).first < 2 ^ 30
first_small src dst i = lt_of_le_of_lt (le_trans (mag-le (window_of src dst i).first) (first-within src dst i)) (lit< tt)

pub last-small : (src dst i : ℕ) → mag (window_of src dst i).last < 2 ^ 30
last-small src dst i = lt_of_le_of_lt (le_trans (mag-le (window_of src dst i).last) (last_within src dst i)) (lit< tt)
