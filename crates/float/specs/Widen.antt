-- The floor of an f32 is the same in both formats, so one proof serves both.
use Rattle.std.specs.Prelude.{◌≡◌, ℕ, ◌*◌, Bool, not, T, refl, Float}
use Rattle.std.proofs.Common.{sym, ◌∙◌, subst, zero-lt-suc}
use Rattle.std.specs.Float.{nan, inf, fin, Format, binary32, binary64}
use Rattle.std.specs.Float.Ieee.{up, down, fits, is_nan}
use Rattle.std.specs.Float.Ieee.Fits.{fits_widens, round-fits}
use Rattle.std.specs.Float.Ieee.Exact.{HasValue}
use Rattle.float.specs.Fraction.{value-unique}
use Rattle.float.specs.Calls.{floor, downward}
use Rattle.float.specs.Whole.{floor-value}

pub floor-fits : (f : Format) (x : Float) → T (fits f x) → T (fits f (floor f x))
unfolding floor
floor-fits f nan t = t
floor-fits f (inf s) t = t
floor-fits f (fin s m e) t = round-fits f s (downward s (m * up e) (down e)) 1

pub nan-stays : (f : Format) → floor f nan ≡ nan
unfolding floor
nan-stays f = refl

inf-stays : (f : Format) (s : Bool) → floor f (inf s) ≡ inf s
unfolding floor
inf-stays f s = refl

pub floor-widens : (x : Float) → T (fits binary32 x) → floor binary64 x ≡ floor binary32 x
floor-widens nan t = nan-stays binary64 ∙ sym (nan-stays binary32)
floor-widens (inf s) t = inf-stays binary64 s ∙ sym (inf-stays binary32 s)
floor-widens (fin s m e) t =
    value-unique binary64 (floor binary64 (fin s m e)) (floor binary32 (fin s m e)) s (downward s (m * up e) (down e)) 1 (zero-lt-suc 0)
    (floor-fits binary64 (fin s m e) (fits_widens (fin s m e) t)) (fits_widens (floor binary32 (fin s m e)) (floor-fits binary32 (fin s m e) t))
    (floor-value binary64 s m e (fits_widens (fin s m e) t)) (floor-value binary32 s m e t)

value-number : (x : Float) (s : Bool) (a c : ℕ) → HasValue x s a c → T (not (is_nan x))
unfolding is_nan
value-number nan s a c h = absurd h
value-number (inf t) s a c h = absurd h
value-number (fin t m e) s a c h = tt

pub floor-number : (f : Format) (x : Float) → T (fits f x) → T (not (is_nan x)) → T (not (is_nan (floor f x)))
unfolding is_nan
floor-number f nan t n = absurd n
floor-number f (inf s) t n = subst (λ (z : Float). T (not (is_nan z))) (sym (inf-stays f s)) tt
floor-number f (fin s m e) t n = value-number (floor f (fin s m e)) s (downward s (m * up e) (down e)) 1 (floor-value f s m e t)
