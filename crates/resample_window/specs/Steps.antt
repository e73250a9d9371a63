-- One number of a window: the last of the sum of its tents, and the first of its taps.
use Rattle.std.specs.Prelude.{◌≡◌, ℕ, zero, suc, ◌+◌, ◌<◌, true, false, List, [], ◌∷◌, ◌++◌, length, get_or, ℤ, pos, ◌+ℤ◌, Float, Option, Some, None, ◌≤ℤ◌, ◌<ℤ◌}
use Rattle.std.proofs.Math.Path.{refl}
use Rattle.std.proofs.Common.{zero-lt-suc, suc-le-suc, le_of_suc-le-suc, sym, ◌∙◌, ap, append-nil, append_assoc, add-one, arith}
use Rattle.std.specs.Float.{binary64}
use Rattle.std.specs.Float.Ieee.{add, lt}
use Rattle.float.specs.Base.{zero+}
use Rattle.resample_window.specs.declared.Window.{Window}
use Rattle.resample_window.specs.declared.Tap.{Tap}
use Rattle.resample_window.specs.Window.{tent_of, tent_sum, weight_of, numbers, clamp_of, tap_of, taps_to, taps_of}
use Rattle.resample_window.specs.Signed.{clamp-below, numbers-none, numbers-first}
use Rattle.std.proofs.lemmas.Int.{ints}

-- ---- the sum

module _ (w : Window) (n : ℕ) (t : Float) (h : t ≡ tent_of w (w.first +ℤ pos n)) where
  pub sum-with : (s : Float) → lt zero+ t ≡ true → s ≡ tent_sum w n → add binary64 s t ≡ tent_sum w (n + 1)
  unfolding tent_sum
  sum-with s p e = rw (add-one, ← h, p, e) refl

  pub sum-without : (s : Float) → lt zero+ t ≡ false → s ≡ tent_sum w n → s ≡ tent_sum w (n + 1)
  unfolding tent_sum
  sum-without s p e = rw (add-one, ← h, p, e) refl

-- ---- from the front

-- the window without its first number
abbrev pub behind_first : Window → Window
behind_first w = record { first = w.first +ℤ pos 1; last = w.last; center = w.center; support = w.support; sum = w.sum }

behind : (z : ℤ) (n : ℕ) → (z +ℤ pos 1) +ℤ pos n ≡ z +ℤ pos (suc n)
behind z n = omega (arith, ints)

front : (w : Window) (src n : ℕ) → taps_to w src (suc n) ≡ tap_of (weight_of w w.first) (clamp_of src w.first) ++ taps_to (behind_first w) src n
unfolding taps_to weight_of tent_of
front w src zero =
    let e : w.first +ℤ pos 0 ≡ w.first = omega (arith, ints) in
    rw e (sym (append-nil (tap_of (weight_of w w.first) (clamp_of src w.first))))
front w src (suc n) =
    ap (λ (ts : List Tap). ts ++ tap_of (weight_of w (w.first +ℤ pos (suc n))) (clamp_of src (w.first +ℤ pos (suc n)))) (front w src n)
    ∙ append_assoc (tap_of (weight_of w w.first) (clamp_of src w.first)) (taps_to (behind_first w) src n)
    (tap_of (weight_of w (w.first +ℤ pos (suc n))) (clamp_of src (w.first +ℤ pos (suc n))))
    ∙ ap (λ (z : ℤ). tap_of (weight_of w w.first) (clamp_of src w.first) ++ (taps_to (behind_first w) src n ++ tap_of (weight_of w z) (clamp_of src z)))
    (sym (behind w.first n))

module _ (w : Window) (src : ℕ) where
  pub walk-end : w.last <ℤ w.first → taps_of w src ≡ []
  unfolding taps_to
  walk-end h = rw (numbers-none w.first w.last h) refl

  module _ (more : w.first ≤ℤ w.last) where
    walk : taps_of w src ≡ tap_of (weight_of w w.first) (clamp_of src w.first) ++ taps_of (behind_first w) src
    walk = ap (taps_to w src) (numbers-first w.first w.last more) ∙ front w src (numbers (w.first +ℤ pos 1) w.last)

    pub walk-without : weight_of w w.first ≡ None → taps_of w src ≡ taps_of (behind_first w) src
    walk-without e = rw e at walk

    pub walk-with : (q : Float) → weight_of w w.first ≡ Some q
        → taps_of w src ≡ record { from = clamp_of src w.first; weight = q } ∷ taps_of (behind_first w) src
    walk-with q e = rw e at walk

-- ---- a tap reads inside the source

-- each of two lists, so each of both
pub each_append : (P : Tap → Type 0) (xs ys : List Tap) (z : Tap) → ((n : ℕ) → n < length xs → P (get_or xs n z))
    → ((n : ℕ) → n < length ys → P (get_or ys n z)) → (n : ℕ) → n < length (xs ++ ys) → P (get_or (xs ++ ys) n z)
each_append P [] ys z h k n l = k n l
each_append P (x ∷ xs) ys z h k zero l = h 0 (zero-lt-suc (length xs))
each_append P (x ∷ xs) ys z h k (suc n) l = each_append P xs ys z (λ m q. h (suc m) (suc-le-suc q)) k n (le_of_suc-le-suc l)

tap-inside : (src : ℕ) (q : Option Float) (k : ℕ) (z : Tap) → k < src → (n : ℕ) → n < length (tap_of q k) → (get_or (tap_of q k) n z).from < src
tap-inside src (Some q) k z h zero l = h
tap-inside src (Some q) k z h (suc n) l = absurd (let m : suc n < 1 = l in omega arith)
tap-inside src None k z h n l = absurd (let m : n < 0 = l in omega arith)

pub taps_to-from : (w : Window) (src : ℕ) (z : Tap) → 0 < src → (n m : ℕ) → m < length (taps_to w src n) → (get_or (taps_to w src n) m z).from < src
unfolding taps_to
taps_to-from w src z h zero m l = absurd (let k : m < 0 = l in omega arith)
taps_to-from w src z h (suc n) m l =
    each_append (λ (t : Tap). t.from < src) (taps_to w src n) (tap_of (weight_of w (w.first +ℤ pos n)) (clamp_of src (w.first +ℤ pos n))) z
    (taps_to-from w src z h n)
    (tap-inside src (weight_of w (w.first +ℤ pos n)) (clamp_of src (w.first +ℤ pos n)) z (clamp-below (w.first +ℤ pos n) src h)) m l
