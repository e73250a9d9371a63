-- Rows summed with the weights of a window: with no row, with one more, and with all, which is a row of what is resampled.
use Rattle.std.specs.Prelude.{◌≡◌, List, [], ◌∷◌, ◌++◌, ℕ, length, get_or, replicate, Float}
use Rattle.std.proofs.Common.{sym, ◌∙◌, ap}
use Rattle.std.specs.Float.{nan, binary32}
use Rattle.std.specs.Float.Ieee.{add, mul}
use Rattle.seq.specs.Tab.{tab-same, get_or-tab, length-tab, tab-replicate}
use Rattle.seq.specs.Lists.{tab}
use Rattle.float.specs.Base.{zero+}
use Rattle.resample_window.specs.declared.Tap.{Tap}
use Rattle.resample_window.specs.Window.{taps}
use Rattle.resample.specs.Resampled.{tap_total, across, resampled, sum_rows}
use Rattle.resample.specs.Tables.{no_tap, added_at}
use Rattle.resample.specs.Taps.{total-more, total-same}

pub length-sum_rows : (n : ℕ) (row : ℕ → List Float) (ts : List Tap) → length (sum_rows n row ts) ≡ n
unfolding sum_rows
length-sum_rows n row ts = length-tab _ n

pub sum_rows-none : (n : ℕ) (row : ℕ → List Float) → replicate n zero+ ≡ sum_rows n row []
unfolding sum_rows tap_total
sum_rows-none n row = sym (tab-replicate zero+ n)

pub sum_rows-more : (n : ℕ) (row : ℕ → List Float) (ts : List Tap) (t : Tap) (sum r : List Float) → sum ≡ sum_rows n row ts → r ≡ row t.from
    → tab (added_at sum t.weight r) n ≡ sum_rows n row (ts ++ (t ∷ []))
unfolding sum_rows
sum_rows-more n row ts t sum r e f =
    tab-same _ _ n
    (λ x X.
    rw (e, f)
    (ap (λ (z : Float). add binary32 z (mul binary32 t.weight (get_or (row t.from) x nan)))
    (get_or-tab (λ x. tap_total zero+ ts (λ k. get_or (row k) x nan)) n x nan X) ∙ total-more zero+ ts t (λ k. get_or (row k) x nan)))

pub sum_rows-all : (w h n m : ℕ) (f : ℕ → ℕ → Float) (row : ℕ → List Float) (y : ℕ) → ((k : ℕ) → row k ≡ tab (across w n (f k)) n)
    → sum_rows n row (taps h m y) ≡ tab (resampled w h n m f y) n
unfolding sum_rows resampled
sum_rows-all w h n m f row y e =
    tab-same _ _ n (λ x X. total-same zero+ (taps h m y) _ _ (λ i I. let k = (get_or (taps h m y) i no_tap).from in
    ap (λ (r : List Float). get_or r x nan) (e k) ∙ get_or-tab (across w n (f k)) n x nan X))
