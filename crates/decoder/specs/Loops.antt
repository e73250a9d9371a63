-- What the decoder's loops keep: one step more of a path traced back, of the votes, two entries at a time, and of a byte.
use Rattle.std.specs.Prelude.{◌≡◌, refl, List, [], ◌∷◌, ◌++◌, ℕ, zero, suc, ◌+◌, ◌*◌, ◌/◌, ◌%◌, ◌^◌, ◌≤◌, ◌<◌, length, get_or, take, drop, set}
use Rattle.std.proofs.Common.{sym, ap, ap₂, ◌∙◌, append_assoc, add-zero, pow-suc, add-one, arith, length-set, take-suc, drop-cons, get_or-set_same, drop-set-lt, take-suc-set, length-take-le, pow_mono}
use Rattle.encoder.specs.Ccsds131.{Bits}
use Rattle.encoder.specs.Bits.{bits_at}
use Rattle.decoder.specs.Decoder.{Sums, next_metrics, metrics_after, odd_at, byte_at}
use Rattle.decoder.specs.Decisions.{packed, decision_rows, traced_from, traced_path}
use Rattle.decoder.specs.Trace.{metrics_after-more, decision_rows-more}

module _ {A : Type 0} where
  pub take-two : (xs : List A) (t : ℕ) (d : A) → 2 * t + 1 < length xs
      → take (2 * (t + 1)) xs ≡ take (2 * t) xs ++ (get_or xs (2 * t) d ∷ get_or xs (2 * t + 1) d ∷ [])
  take-two xs t d h =
      let e : 2 * (t + 1) ≡ suc (2 * t + 1) = omega arith in
      let f : 2 * t + 1 ≡ suc (2 * t) = omega arith in
      ap (λ (n : ℕ). take n xs) e
      ∙ take-suc xs (2 * t + 1) d h
      ∙ ap (λ (l : List A). l ++ (get_or xs (2 * t + 1) d ∷ [])) (ap (λ (n : ℕ). take n xs) f ∙ take-suc xs (2 * t) d (omega arith))
      ∙ append_assoc (take (2 * t) xs) (get_or xs (2 * t) d ∷ []) (get_or xs (2 * t + 1) d ∷ [])

  pub drop-set : (xs : List A) (t : ℕ) (a : A) → t < length xs → drop t (set xs t a) ≡ a ∷ drop (suc t) xs
  drop-set xs t a h =
      drop-cons (set xs t a) t a (omega (arith, length-set xs t a))
      ∙ ap₂ (λ (x : A) (l : List A). x ∷ l) (get_or-set_same xs t a a h) (drop-set-lt (suc t) xs t a (omega arith))

-- ---- traced back, one step more

pub orig-at : (ds : List ℕ) (k t j : ℕ) → t < length ds → j ≡ traced_from (drop (suc t) ds) k → traced_from (drop t ds) k ≡ (2 * j + get_or ds t 0 / 2 ^ j % 2) % 64
unfolding traced_from
orig-at ds k t j h e = rw (drop-cons ds t 0 h, e) refl

pub path-at : (ds : List ℕ) (k t j : ℕ) → t < length ds → j ≡ traced_from (drop (suc t) ds) k
    → traced_path (drop t ds) k ≡ j / 32 ∷ traced_path (drop (suc t) ds) k
unfolding traced_path
path-at ds k t j h e = rw (drop-cons ds t 0 h, e) refl

-- ---- the decoder forward, one step more

module _ {M W : Type 0} (o : Sums M W) (m₀ : List M) (vs : List W) (d : W) where
  even-take : (t : ℕ) → 2 * t + 1 < length vs → length (take (2 * t) vs) ≡ 2 * t
  even-take t h = length-take-le (2 * t) vs (omega arith)

  pub metric-step : (t : ℕ) (m n : List M) → 2 * t + 1 < length vs → m ≡ metrics_after o m₀ (take (2 * t) vs)
      → n ≡ next_metrics o m (get_or vs (2 * t) d) (get_or vs (2 * t + 1) d) → n ≡ metrics_after o m₀ (take (2 * (t + 1)) vs)
  metric-step t m n h e f =
      f ∙ ap (λ (x : List M). next_metrics o x (get_or vs (2 * t) d) (get_or vs (2 * t + 1) d)) e
      ∙ sym (ap (metrics_after o m₀) (take-two vs t d h)
      ∙ metrics_after-more o m₀ (take (2 * t) vs) t (get_or vs (2 * t) d) (get_or vs (2 * t + 1) d) (even-take t h))

  pub rows_step : (t : ℕ) (m : List M) (out : List ℕ) (q : ℕ) → 2 * t + 1 < length vs → t < length out → m ≡ metrics_after o m₀ (take (2 * t) vs)
      → q ≡ packed (odd_at o m (get_or vs (2 * t) d) (get_or vs (2 * t + 1) d)) 64
      → take t out ≡ decision_rows o m₀ (take (2 * t) vs) → take (t + 1) (set out t q) ≡ decision_rows o m₀ (take (2 * (t + 1)) vs)
  rows_step t m out q h k e f r =
      ap (λ (n : ℕ). take n (set out t q)) (add-one t)
      ∙ take-suc-set out t q k
      ∙ ap₂ (λ (l : List ℕ) (x : ℕ). l ++ (x ∷ [])) r (f ∙ ap (λ (x : List M). packed (odd_at o x (get_or vs (2 * t) d) (get_or vs (2 * t + 1) d)) 64) e)
      ∙ sym (ap (decision_rows o m₀) (take-two vs t d h)
      ∙ decision_rows-more o m₀ (take (2 * t) vs) t (get_or vs (2 * t) d) (get_or vs (2 * t + 1) d) (even-take t h))

-- ---- a byte, one bit more

unfoldable pub eaten : List ℕ → ℕ → ℕ → ℕ
eaten bs a zero = 0
eaten bs a (suc k) = eaten bs a k * 2 + get_or bs (a + k) 0

pub eaten-lt : (bs : List ℕ) (a k : ℕ) → Bits bs → eaten bs a k < 2 ^ k
unfolding eaten
eaten-lt bs a zero B = omega arith
eaten-lt bs a (suc k) B = omega (arith, eaten-lt bs a k B, bits_at bs (a + k) B, pow-suc 2 k)

small : (k : ℕ) → k < 8 → 2 ^ k ≤ 2 ^ 7
small k h = pow_mono (let g : k ≤ 7 = omega arith in g)

pub eaten-fits : (bs : List ℕ) (a k : ℕ) → Bits bs → k < 8 → eaten bs a k < 128
eaten-fits bs a k B h = omega (arith, eaten-lt bs a k B, small k h)

pub eaten-more : (bs : List ℕ) (a k v : ℕ) → v ≡ eaten bs a k → v * 2 + get_or bs (a + k) 0 ≡ eaten bs a (k + 1)
unfolding eaten
eaten-more bs a k v e = rw (e, add-one k) refl

pub eaten-all : (bs : List ℕ) (i : ℕ) → eaten bs (8 * i) 8 ≡ byte_at bs i
unfolding eaten byte_at
eaten-all bs i = rw (add-zero (8 * i)) (omega arith)
