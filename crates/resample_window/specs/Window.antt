-- The triangle kernel (section 15 of the scope): the window of an output sample, the tent and the weight of a
-- source number, and the taps, the numbers that have a weight, clamped to the edge. Definitions only.
use Rattle.std.specs.Prelude.{ℕ, zero, suc, ◌-◌, ◌^◌, ◌<◌, min, Bool, cond, ◌&&◌, List, [], ◌∷◌, ◌++◌, map, length, drop, ℤ, pos, negsuc, ◌+ℤ◌, ◌-ℤ◌, int_lt, nat_le, nat_lt, unsigned_abs, Float, Option, Some, None}
use Rattle.std.specs.Int.Signed.{mag}
use Rattle.std.specs.Float.{binary32, binary64}
use Rattle.std.specs.Float.Ieee.{of_int, to_signed, add, sub, mul, div, lt}
use Rattle.float.specs.Base.{zero+, two_to, half}
use Rattle.float.specs.Calls.{floor, ceil, narrow, absolute, larger}
use Rattle.resample_window.specs.declared.Window.{Window}
use Rattle.resample_window.specs.declared.Tap.{Tap}
use Rattle.seq.specs.Lists.{lines}
use Rattle.picture.specs.Sizes.{longest_side}

-- ---- a window

-- 1 - |(j - center) / support|
unfoldable pub tent_of : Window → ℤ → Float
tent_of w j = sub binary64 (two_to 0) (absolute (div binary64 (sub binary64 (of_int binary64 j) w.center) w.support))

-- tent and sum each narrowed, then divided; a number whose tent is not above zero has no weight
unfoldable pub weight_of : Window → ℤ → Option Float
weight_of w j = cond (lt zero+ (tent_of w j)) (Some (div binary32 (narrow (tent_of w j)) (narrow w.sum))) None

-- the sum of the positive tents of n numbers from `first` on, in rising order
unfoldable pub tent_sum : Window → ℕ → Float
tent_sum w zero = zero+
tent_sum w (suc n) = cond (lt zero+ (tent_of w (w.first +ℤ pos n))) (add binary64 (tent_sum w n) (tent_of w (w.first +ℤ pos n))) (tent_sum w n)

-- how many numbers there are from a to b
unfoldable pub numbers : ℤ → ℤ → ℕ
numbers a b = cond (int_lt b a) 0 (suc (unsigned_abs (b -ℤ a)))

-- ---- the window of output sample i of dst, from src samples

unfoldable pub scale_of : ℕ → ℕ → Float
scale_of src dst = div binary64 (of_int binary64 (pos src)) (of_int binary64 (pos dst))

-- (i + 0.5) * scale - 0.5
unfoldable pub center_of : ℕ → ℕ → ℕ → Float
center_of src dst i = sub binary64 (mul binary64 (add binary64 (of_int binary64 (pos i)) half) (scale_of src dst)) half

unfoldable pub support_of : ℕ → ℕ → Float
support_of src dst = larger (scale_of src dst) (two_to 0)

abbrev pub unsummed : Float → Float → Window
unsummed center support =
    record {
      first = to_signed 63 (ceil binary64 (sub binary64 center support));
      last = to_signed 63 (floor binary64 (add binary64 center support));
      center = center;
      support = support;
      sum = zero+;
    }

abbrev pub with_sum : Window → Window
with_sum w = record { first = w.first; last = w.last; center = w.center; support = w.support; sum = tent_sum w (numbers w.first w.last) }

-- no number
abbrev pub empty : Window
empty = record { first = pos 0; last = negsuc 0; center = zero+; support = two_to 0; sum = zero+ }

abbrev pub is_side : ℕ → Bool
is_side n = nat_lt 0 n && nat_le n longest_side

abbrev pub has_window : ℕ → ℕ → ℕ → Bool
has_window src dst i = is_side src && is_side dst && nat_lt i dst

-- a size that no side has, and an output sample that is not there, have the window without a number
unfoldable pub window_of : ℕ → ℕ → ℕ → Window
window_of src dst i = cond (has_window src dst i) (with_sum (unsummed (center_of src dst i) (support_of src dst))) empty

-- ---- its taps

-- to 0 .. src - 1
unfoldable pub clamp_of : ℕ → ℤ → ℕ
clamp_of src (pos k) = min k (src - 1)
clamp_of src (negsuc k) = 0

abbrev pub tap_of : Option Float → ℕ → List Tap
tap_of (Some q) k = record { from = k; weight = q } ∷ []
tap_of None k = []

-- of n numbers from `first` on, in rising order
unfoldable pub taps_to : Window → ℕ → ℕ → List Tap
taps_to w src zero = []
taps_to w src (suc n) = taps_to w src n ++ tap_of (weight_of w (w.first +ℤ pos n)) (clamp_of src (w.first +ℤ pos n))

abbrev pub taps_of : Window → ℕ → List Tap
taps_of w src = taps_to w src (numbers w.first w.last)

-- of output sample i
unfoldable pub taps : ℕ → ℕ → ℕ → List Tap
taps src dst i = taps_of (window_of src dst i) src

-- a window on whose numbers no arithmetic overflows
abbrev pub Small : Window → Type 0
Small w = (mag w.first < 2 ^ 30) × (mag w.last < 2 ^ 30)

-- ---- the taps of all output samples, one behind the other

abbrev pub tap_sources : List Tap → List ℕ
tap_sources ts = map (λ t. t.from) ts

abbrev pub tap_weights : List Tap → List Float
tap_weights ts = map (λ t. t.weight) ts

-- of output samples 0 to n - 1
unfoldable pub all_taps : ℕ → ℕ → ℕ → List Tap
all_taps src dst n = lines (taps src dst) n

-- where those of output sample i start
unfoldable pub start : ℕ → ℕ → ℕ → ℕ
start src dst i = length (all_taps src dst i)

-- d with s in its first places
unfoldable pub onto : {A : Type 0} → List A → List A → List A
onto s d = s ++ drop (length s) d
