-- Laws on the taps of all output samples, one behind the other.
use Rattle.std.specs.Prelude.{◌≡◌, ℕ, zero, suc, ◌+◌, ◌<◌, ◌≤◌, List, ◌++◌, map, length, get_or, take, drop, set, slice_index_or, slice_set}
use Rattle.std.proofs.Math.Path.{refl, sym, ap}
use Rattle.std.proofs.Common.{◌∙◌, inl, inr, add-one, le_refl, eq-or-lt_of_le, arith, drop-drop}
use Rattle.std.proofs.lemmas.List.{map-append}
use Rattle.std.proofs.Math.ListN.{length-append, length-drop, length-map, get_or-map}
use Rattle.std.proofs.Math.Seq.{paste, paste-suc, take_all, take_at, drop-append-add}
use Rattle.seq.specs.Lists.{lines}
use Rattle.resample_window.specs.declared.Window.{Window}
use Rattle.resample_window.specs.declared.Tap.{Tap}
use Rattle.resample_window.specs.Window.{numbers, window_of, taps_of, taps, Small, all_taps, start, onto}
use Rattle.resample_window.specs.Steps.{taps_to-from}
use Rattle.resample_window.specs.Range.{first_small, last-small}

pub window-small : (w : Window) (src dst i : ℕ) → w ≡ window_of src dst i → Small w
window-small w src dst i e = rw e (first_small src dst i, last-small src dst i)

-- ---- laid from place n of a list d on

module _ {A : Type 0} (f : Tap → A) (d : List A) (n : ℕ) (ts : List Tap) where
  -- one tap more
  pub laid_more : (m : ℕ) (t : Tap) (x : List A) → n + m < length d → m < length ts → slice_index_or ts m t ≡ t → x ≡ paste d n (map f ts) m
      → slice_set x (n + m) (f t) ≡ paste d n (map f ts) (m + 1)
  laid_more m t x h l e p =
      let long : m < length (map f ts) = omega (arith, length-map ts f) in
      let v : get_or (map f ts) m (f t) ≡ f t = get_or-map f ts m t ∙ ap f e in
      ap (λ (xs : List A). set xs (n + m) (f t)) p
      ∙ (ap (λ (y : A). set (paste d n (map f ts) m) (n + m) y) (sym v)
      ∙ (paste-suc d n (map f ts) m (f t) h long ∙ ap (paste d n (map f ts)) (sym (add-one m))))

-- ---- all of them, in the first places of a list

module _ {A : Type 0} where
  -- s in the first places, and t behind it
  pub onto-more : (s t d x : List A) (n m : ℕ) → length s ≡ n → length t ≡ m → x ≡ onto s d → paste x n t m ≡ onto (s ++ t) d
  unfolding onto
  onto-more s t d x n m e f p =
      let cut : take n x ≡ s = ap (take n) p ∙ take_at s (drop (length s) d) n e in
      let all : take m t ≡ t = take_all m t (omega arith) in
      let rest : drop (n + m) x ≡ drop (length (s ++ t)) d =
      ap (drop (n + m)) p ∙ (ap (λ (k : ℕ). drop (k + m) (s ++ drop (length s) d)) (sym e)
      ∙ (drop-append-add s (drop (length s) d) m
      ∙ (drop-drop m (length s) d ∙ ap (λ (k : ℕ). drop k d) (ap (λ (k : ℕ). length s + k) (sym f) ∙ sym (length-append s t))))) in
      rw (cut, all, rest) refl

  pub length-onto : (s d : List A) → length s ≤ length d → length (onto s d) ≡ length d
  unfolding onto
  length-onto s d h = omega (arith, length-append s (drop (length s) d), length-drop (length s) d)

-- ---- of one output sample more

pub start_none : (src dst : ℕ) → 0 ≡ start src dst 0
unfolding start all_taps lines
start_none src dst = refl

all_more : (src dst i : ℕ) → all_taps src dst (i + 1) ≡ all_taps src dst i ++ taps src dst i
unfolding all_taps lines
all_more src dst i = rw add-one refl

pub start-more : (src dst i : ℕ) → start src dst (i + 1) ≡ start src dst i + length (taps src dst i)
unfolding start
start-more src dst i = ap length (all_more src dst i) ∙ length-append (all_taps src dst i) (taps src dst i)

pub start-rises : (src dst i n : ℕ) → i ≤ n → start src dst i ≤ start src dst n
start-rises src dst i zero h = let e : i ≡ 0 = omega arith in rw e (le_refl (start src dst 0))
start-rises src dst i (suc n) h =
    elim (eq-or-lt_of_le h) [
      | inl e ↦ rw e (le_refl (start src dst (suc n)))
      | inr g ↦
          let l : start src dst i ≤ start src dst n = start-rises src dst i n (omega arith) in
          omega (arith, ap (start src dst) (add-one n), start-more src dst n)
    ]

module _ {A : Type 0} (f : Tap → A) (src dst : ℕ) where
  pub all_none : (d : List A) → d ≡ onto (map f (all_taps src dst 0)) d
  unfolding all_taps lines onto
  all_none d = refl

  -- pushed behind those of the samples before
  pub all-pushed : (i : ℕ) (d x : List A) → x ≡ onto (map f (all_taps src dst i)) d
      → paste x (start src dst i) (map f (taps src dst i)) (length (taps src dst i)) ≡ onto (map f (all_taps src dst (i + 1))) d
  unfolding start
  all-pushed i d x e =
      onto-more (map f (all_taps src dst i)) (map f (taps src dst i)) d x (length (all_taps src dst i)) (length (taps src dst i))
      (length-map (all_taps src dst i) f) (length-map (taps src dst i) f) e
      ∙ ap (λ (s : List A). onto s d) (sym (map-append f (all_taps src dst i) (taps src dst i)) ∙ ap (map f) (sym (all_more src dst i)))

  pub all-length : (i : ℕ) (d : List A) → start src dst i ≤ length d → length (onto (map f (all_taps src dst i)) d) ≡ length d
  unfolding start
  all-length i d h = length-onto (map f (all_taps src dst i)) d (omega (arith, length-map (all_taps src dst i) f))

pub taps-of : (w : Window) (src dst i : ℕ) → w ≡ window_of src dst i → taps_of w src ≡ taps src dst i
unfolding taps
taps-of w src dst i e = ap (λ (v : Window). taps_of v src) e

-- ---- a tap reads inside the source

pub taps-from : (src dst i : ℕ) (z : Tap) → 0 < src → (n : ℕ) → n < length (taps src dst i) → (get_or (taps src dst i) n z).from < src
unfolding taps
taps-from src dst i z h n l = taps_to-from (window_of src dst i) src z h (numbers (window_of src dst i).first (window_of src dst i).last) n l
