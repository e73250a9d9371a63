-- The tables that `resample_window::taps` makes have the taps of an axis, in the room that is lent for them; sums over these taps, tap by tap.
use Rattle.std.specs.Prelude.{◌≡◌, refl, List, [], ◌∷◌, ◌++◌, map, ℕ, zero, suc, ◌+◌, ◌-◌, ◌*◌, ◌≤◌, ◌<◌, length, get_or, take, drop, Float}
use Rattle.std.proofs.Common.{sym, ◌∙◌, ap, inl, inr, add-one, eq-or-lt_of_le, le_trans, suc-mul, arith, length-append, length-drop, take_at, take-suc, take_all, ext_get_or, get_or-drop, length-take-le, get_or-take, get_or-append-add}
use Rattle.std.proofs.lemmas.List.{length-map}
use Rattle.std.proofs.Math.ListN.{get_or-append, get_or-map}
use Rattle.std.specs.Float.{nan, binary32}
use Rattle.std.specs.Float.Ieee.{add, mul}
use Rattle.float.specs.Base.{zero-}
use Rattle.seq.specs.Tab.{length-tab, get_or-tab}
use Rattle.seq.specs.Lists.{filled, tab, lines}
use Rattle.resample_window.specs.declared.Tap.{Tap}
use Rattle.resample_window.specs.Window.{taps, start, tap_sources, tap_weights, all_taps, onto}
use Rattle.picture.specs.Sizes.{longest_side}
use Rattle.resample_window.specs.Taps.{length-onto, start_none, start-more, start-rises}
use Rattle.resample_window.specs.Taps.{taps-from}
use Rattle.resample_window_laws.specs.Reach.{reach, taps-few, taps-room-down, taps-room-up}
use Rattle.resample.specs.Resampled.{tap_total, across}
use Rattle.resample.specs.Tables.{Tables, no_tap}

-- what `taps` makes in lists that have room
pub tables-made : (src dst : ℕ) (offsets₀ offsets index₀ index : List ℕ) (weight₀ weight : List Float) → 0 < src → dst < length offsets₀
    → start src dst dst ≤ length index₀ → start src dst dst ≤ length weight₀
    → offsets ≡ filled (start src dst) (dst + 1) offsets₀ → index ≡ onto (tap_sources (all_taps src dst dst)) index₀
    → weight ≡ onto (tap_weights (all_taps src dst dst)) weight₀ → Tables src dst offsets index weight
unfolding filled onto start
tables-made src dst offsets₀ offsets index₀ index weight₀ weight some d i w e f g =
    let all = all_taps src dst dst in
    let long : length (tab (start src dst) (dst + 1)) ≡ dst + 1 = length-tab (start src dst) (dst + 1) in
    let from : length (tap_sources all) ≡ length all = length-map all (λ t. t.from) in
    let with : length (tap_weights all) ≡ length all = length-map all (λ t. t.weight) in
    record {
      some = some;
      starts = ap (take (dst + 1)) e ∙ take_at (tab (start src dst) (dst + 1)) (drop (dst + 1) offsets₀) (dst + 1) long;
      from = ap (take (length all)) f ∙ take_at (tap_sources all) (drop (length (tap_sources all)) index₀) (length all) from;
      with = ap (take (length all)) g ∙ take_at (tap_weights all) (drop (length (tap_weights all)) weight₀) (length all) with;
      bounds = omega (arith, ap length e, length-append (tab (start src dst) (dst + 1)) (drop (dst + 1) offsets₀), length-drop (dst + 1) offsets₀);
      index_room = omega (arith, ap length f, length-onto (tap_sources all) index₀ (omega arith));
      weight_room = omega (arith, ap length g, length-onto (tap_weights all) weight₀ (omega arith));
    }

-- ---- how much room the taps need

start-within : (src dst r : ℕ) → ((i : ℕ) → length (taps src dst i) ≤ r) → (n : ℕ) → start src dst n ≤ n * r
start-within src dst r few zero = omega (arith, start_none src dst)
start-within src dst r few (suc n) = omega (arith, start-within src dst r few n, ap (start src dst) (add-one n), start-more src dst n, few n, suc-mul n r)

pub start-most : (src dst n : ℕ) → start src dst n ≤ n * (2 * reach src dst)
start-most src dst n = start-within src dst (2 * reach src dst) (taps-few src dst) n

pub room-down : (src : ℕ) → src ≤ longest_side → start src 256 256 ≤ 16384
room-down src h = le_trans (start-most src 256 256) (taps-room-down src h)

pub room-up : (dst : ℕ) → 256 ≤ dst → dst ≤ longest_side → start 256 dst dst ≤ 16384
room-up dst h k = le_trans (start-most 256 dst dst) (taps-room-up dst h k)

-- ---- one tap more

pub total-append : (z : Float) (ts us : List Tap) (f : ℕ → Float) → tap_total z (ts ++ us) f ≡ tap_total (tap_total z ts f) us f
unfolding tap_total
total-append z [] us f = refl
total-append z (t ∷ ts) us f = total-append (add binary32 z (mul binary32 t.weight (f t.from))) ts us f

pub total-more : (z : Float) (ts : List Tap) (t : Tap) (f : ℕ → Float)
    → add binary32 (tap_total z ts f) (mul binary32 t.weight (f t.from)) ≡ tap_total z (ts ++ (t ∷ [])) f
unfolding tap_total
total-more z ts t f = sym (total-append z ts (t ∷ []) f)

-- the same, of the first m of a sample's taps
pub total-take : (z t : Float) (ts : List Tap) (m : ℕ) (u : Tap) (f : ℕ → Float) → m < length ts → t ≡ tap_total z (take m ts) f
    → add binary32 t (mul binary32 (get_or ts m u).weight (f (get_or ts m u).from)) ≡ tap_total z (take (m + 1) ts) f
total-take z t ts m u f h e = rw (e, add-one, take-suc ts m u h) (total-more z (take m ts) (get_or ts m u) f)

-- ---- what stands where

-- a sum reads only inside the source
pub total-same : (z : Float) (ts : List Tap) (f g : ℕ → Float) → ((i : ℕ) → i < length ts → f (get_or ts i no_tap).from ≡ g (get_or ts i no_tap).from)
    → tap_total z ts f ≡ tap_total z ts g
unfolding tap_total
total-same z [] f g h = refl
total-same z (t ∷ ts) f g h =
    ap (λ (y : Float). tap_total (add binary32 z (mul binary32 t.weight y)) ts f) (h 0 (omega arith))
    ∙ total-same (add binary32 z (mul binary32 t.weight (g t.from))) ts f g (λ i k. h (suc i) (omega arith))

pub across-same : (n m : ℕ) (f g : ℕ → Float) (x : ℕ) → 0 < n → ((k : ℕ) → k < n → f k ≡ g k) → across n m f x ≡ across n m g x
unfolding across
across-same n m f g x some h = total-same zero- (taps n m x) f g (λ i k. h (get_or (taps n m x) i no_tap).from (taps-from n m x no_tap some i k))

-- tap m of sample x stands m places behind the sample's first
all-at : (src dst n x m : ℕ) (u : Tap) → x < n → m < length (taps src dst x) → get_or (all_taps src dst n) (start src dst x + m) u ≡ get_or (taps src dst x) m u
unfolding all_taps lines start
all-at src dst zero x m u h g = absurd (omega arith)
all-at src dst (suc n) x m u h g =
    elim (eq-or-lt_of_le h) [
      | inl e ↦ (let i : x ≡ n = omega arith in rw i (get_or-append-add (all_taps src dst n) (taps src dst n) m u))
      | inr k ↦
          let l : x < n = omega arith in
          let i : start src dst x + m < start src dst n = omega (arith, start-more src dst x, start-rises src dst (x + 1) n (omega arith)) in
          get_or-append (all_taps src dst n) (taps src dst n) u (start src dst x + m) i ∙ all-at src dst n x m u l g
    ]

module _ {src dst : ℕ} {offsets index : List ℕ} {weight : List Float} (t : Tables src dst offsets index weight) where
  -- where the taps of sample x start
  pub offset_at : (x : ℕ) → x ≤ dst → get_or offsets x 0 ≡ start src dst x
  offset_at x h =
      let k : x < dst + 1 = omega arith in
      sym (get_or-take (dst + 1) offsets x 0 k) ∙ (ap (λ (xs : List ℕ). get_or xs x 0) t.starts ∙ get_or-tab (start src dst) (dst + 1) x 0 k)

  -- those of sample x are a part of all, by what f reads of a tap
  part-of : {A : Type 0} (f : Tap → A) (xs : List A) → take (start src dst dst) xs ≡ map f (all_taps src dst dst) → start src dst dst ≤ length xs
      → (x : ℕ) → x < dst → take (start src dst (x + 1) - start src dst x) (drop (start src dst x) xs) ≡ map f (taps src dst x)
  part-of {A = A} f xs p room x h =
      let own = taps src dst x in
      let a = start src dst x in
      let more = start-more src dst x in
      let rises = start-rises src dst (x + 1) dst (omega arith) in
      let n : start src dst (x + 1) - a ≡ length own = omega arith in
      let long : length (take (length own) (drop a xs)) ≡ length (map f own) =
      length-take-le (length own) (drop a xs) (omega (arith, length-drop a xs)) ∙ sym (length-map own f) in
      rw n
      (ext_get_or (f no_tap) (take (length own) (drop a xs)) (map f own) long
      (λ i I. let k : i < length own = omega (arith, length-take-le (length own) (drop a xs) (omega (arith, length-drop a xs))) in
      let m : a + i < start src dst dst = omega arith in
      get_or-take (length own) (drop a xs) i (f no_tap) k
      ∙ (get_or-drop a xs i (f no_tap)
      ∙ (sym (get_or-take (start src dst dst) xs (a + i) (f no_tap) m)
      ∙ (ap (λ (ys : List A). get_or ys (a + i) (f no_tap)) p
      ∙ (get_or-map f (all_taps src dst dst) (a + i) no_tap
      ∙ (ap f (all-at src dst dst x i no_tap h k) ∙ sym (get_or-map f own i no_tap))))))))

  -- as the tables' offsets have it
  module _ (x a e : ℕ) (h : x < dst) (A : a ≡ get_or offsets x 0) (E : e ≡ get_or offsets (x + 1) 0) where
    starts-at : a ≡ start src dst x
    starts-at = A ∙ offset_at x (omega arith)

    ends-at : e ≡ start src dst (x + 1)
    ends-at = E ∙ offset_at (x + 1) (omega arith)

    pub own-order : a ≤ e
    own-order = omega (arith, starts-at, ends-at, start-rises src dst x (x + 1) (omega arith))

    pub own-room : e ≤ start src dst dst
    own-room = omega (arith, ends-at, start-rises src dst (x + 1) dst (omega arith))

    pub own-sources : take (e - a) (drop a index) ≡ tap_sources (taps src dst x)
    own-sources = rw (starts-at, ends-at) (part-of (λ u. u.from) index t.from t.index_room x h)

    pub own-inside : (k : ℕ) → k < length (take (e - a) (drop a index)) → get_or (take (e - a) (drop a index)) k 0 < src
    own-inside k h' =
        let ts = taps src dst x in
        let less : k < length ts = omega (arith, ap length own-sources, length-map ts (λ (u : Tap). u.from), h') in
        omega (arith, ap (λ (xs : List ℕ). get_or xs k 0) own-sources, get_or-map (λ (u : Tap). u.from) ts k no_tap, taps-from src dst x no_tap t.some k less)

    pub own-weights : take (e - a) (drop a weight) ≡ tap_weights (taps src dst x)
    own-weights = rw (starts-at, ends-at) (part-of (λ u. u.weight) weight t.with t.weight_room x h)

-- ---- the sum over the first taps of sample x, from -0

module _ (src dst x : ℕ) (f : ℕ → Float) where
  pub all_there : (m : ℕ) (v : Float) → m ≡ length (taps src dst x) → v ≡ tap_total zero- (take m (taps src dst x)) f → v ≡ across src dst f x
  unfolding across
  all_there m v e h = h ∙ ap (λ (ts : List Tap). tap_total zero- ts f) (take_all m (taps src dst x) (omega arith))

  -- a tap more, of the lists of their sources and weights
  module _ (m : ℕ) (less : m < length (taps src dst x)) (k : ℕ) (q : Float) (from : k ≡ get_or (tap_sources (taps src dst x)) m 0)
      (with : q ≡ get_or (tap_weights (taps src dst x)) m nan) where
    pub tap-more : (v : Float) → v ≡ tap_total zero- (take m (taps src dst x)) f
        → add binary32 v (mul binary32 q (f k)) ≡ tap_total zero- (take (m + 1) (taps src dst x)) f
    tap-more v e =
        rw (from, with, get_or-map (λ u. u.from) (taps src dst x) m no_tap, get_or-map (λ u. u.weight) (taps src dst x) m no_tap)
        (total-take zero- v (taps src dst x) m no_tap f less e)
