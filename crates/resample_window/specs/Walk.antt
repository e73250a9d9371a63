-- A walk over the taps of a window: those that came, xs, with those that are left, s, are all; and what is known of the next one, t.
use Rattle.std.specs.Prelude.{◌≡◌, refl, ℕ, ◌<◌, List, [], ◌∷◌, ◌++◌, length, get_or, slice_index_or}
use Rattle.std.proofs.Common.{sym, ◌∙◌, ap, arith, append-nil, append_assoc, length-append}
use Rattle.std.proofs.lemmas.List.{get_or_at}
use Rattle.resample_window.specs.declared.Tap.{Tap}

module _ (all xs s : List Tap) (i : xs ++ s ≡ all) where
  pub walked : s ≡ [] → xs ≡ all
  walked e = sym (append-nil xs) ∙ (ap (λ (ts : List Tap). xs ++ ts) (sym e) ∙ i)

  module _ (t : Tap) (us : List Tap) (e : s ≡ t ∷ us) where
    split : xs ++ (t ∷ us) ≡ all
    split = ap (λ (ts : List Tap). xs ++ ts) (sym e) ∙ i

    pub next-less : length xs < length all
    next-less = omega (arith, ap length split, length-append xs (t ∷ us))

    pub next-is : slice_index_or all (length xs) t ≡ t
    next-is = ap (λ (ts : List Tap). get_or ts (length xs) t) (sym split) ∙ get_or_at xs t us t (length xs) refl

    -- it reads inside where all do
    pub next-from : (src : ℕ) → ((k : ℕ) → k < length all → (get_or all k t).from < src) → t.from < src
    next-from src h = rw next-is at (h (length xs) next-less)

    pub next-more : (xs ++ (t ∷ [])) ++ us ≡ all
    next-more = append_assoc xs (t ∷ []) us ∙ split
