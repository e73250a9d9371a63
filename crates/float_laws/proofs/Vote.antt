-- Four times a value up to a half, 1 less that, and the mean of four such: the theorems that rest on `four_exact` of specs/Vote.antt.
use Rattle.std.specs.Prelude.{refl, true, false, ℕ, ◌+◌, ◌*◌, ◌≤◌, ◌<◌, T, Float}
use Rattle.std.proofs.Common.{sym, subst, true≢false, arith, lit≤}
use native.Mathlib.Nat.{le_refl, zero-lt-suc, one-mul}
use Rattle.std.specs.Float.{nan, inf, fin, Format, binary32, binary64}
use Rattle.std.specs.Float.Ieee.{up, down, add, sub, mul, div, fits}
use Rattle.std.specs.Float.Ieee.Fits.{down_pos}
use Rattle.std.specs.Float.Ieee.Scale.{finite}
use Rattle.float_laws.specs.Product.{mul-value-at}
use Rattle.seq.specs.Lists.{sum_to}
use Rattle.float.specs.Calls.{floor, smaller}
use Rattle.float.specs.Base.{zero-}
use Rattle.float_laws.specs.Values.{Within, Holds}
use Rattle.float_laws.specs.Bounds.{holds-scaled, within_more, sum-to-within, div-within}
use Rattle.float_laws.specs.Vote.{one_exact, four_exact, Upto, round-upto, small-whole, halves, frac-upto, frac, one_less}

four-le : (a c : ℕ) → a * 2 ≤ 1 * c → 4 * a * 1 ≤ 2 * (1 * c)
four-le a c h = omega arith

fourfold : (f : Format) (h : Float) → Upto h 1 2 → Upto (mul f four_exact h) 2 1
fourfold f nan k = absurd k
fourfold f (inf s) k = absurd k
fourfold f (fin true m e) k = absurd (true≢false k.0)
fourfold f (fin false m e) k =
    subst (λ (z : Float). Upto z 2 1)
    (sym (mul-value-at f four_exact (fin false m e) false false 4 1 (m * up e) (down e) (zero-lt-suc 0) (down_pos e) (refl, refl) (refl, refl)))
    (round-upto f (4 * (m * up e)) (1 * down e) 2 1 (subst (λ (z : ℕ). 0 < z) (sym (one-mul (down e))) (down_pos e)) (zero-lt-suc 0)
    (small-whole f 2 (lit≤ tt)) (four-le (m * up e) (down e) k.1))

-- ---- the term, and the mean of four

pub term-within : (f : Format) (x : Float) → T (fits f x) → T (finite x) → let r = sub f x (floor f x) in
    Within (sub f one_exact (mul f four_exact (smaller r (sub f one_exact r)))) 1 1
term-within f x t h =
    let r = sub f x (floor f x) in
    one_less f (mul f four_exact (smaller r (sub f one_exact r))) (fourfold f (smaller r (sub f one_exact r)) (halves f r (frac-upto f r (frac f x t h))))

pub mean-within : (f : Format) (t : ℕ → Float) → ((k : ℕ) → k < 4 → Within (t k) 1 1) → Within (div f (sum_to (add f) zero- 4 t) four_exact) 1 1
mean-within f t h =
    let total = sum_to (add f) zero- 4 t in
    let w : Within total 4 1 = sum-to-within f zero- t 4 1 0 1 (zero-lt-suc 0) (λ i l. small-whole f (0 + i * 1) (omega arith)) (le_refl 0) h in
    within_more (div f total four_exact) 4 4 1 1 (zero-lt-suc 3)
    (div-within f total four_exact false 4 1 4 1 (zero-lt-suc 0) (zero-lt-suc 3) (zero-lt-suc 0) (quarter f) w (refl, refl)) (le_refl 4)
  where
    quarter : (g : Format) → Holds g 4 4
    quarter binary32 = holds-scaled binary32 4 2 (lit≤ tt) (lit≤ tt)
    quarter binary64 = holds-scaled binary64 4 2 (lit≤ tt) (lit≤ tt)
