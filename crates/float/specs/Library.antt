-- The library's floor, ceiling and absolute value are those of Calls.antt.
use Rattle.std.specs.Prelude.{◌≡◌, refl, true, false, ℕ, ◌+◌, ◌-◌, ◌*◌, ◌/◌, ◌<◌, ℤ, pos, Float}
use Rattle.std.proofs.Common.{ap, sym, ◌∙◌, arith}
use Rattle.std.specs.Float.{nan, inf, fin, Format, round_with, ratio_floor, ratio_ceil, float_with_sign}
use Rattle.std.specs.Float.Ieee.{up, down, neg, round, of_int}
use lib.Ieee.Fits.{down_pos}
use Rattle.float.specs.Calls.{floor, ceil, absolute}
use Rattle.float.specs.Rounding.{neg-round}

-- a quotient rounded up, its divisor above 0
less-one : (a : ℕ) (e : ℤ) → (a + down e - 1) / down e ≡ (a + (down e - 1)) / down e
less-one a e = ap (λ (n : ℕ). n / down e) (omega (arith, down_pos e))

pub library_absolute : (x : Float) → float_with_sign false x ≡ absolute x
unfolding absolute float_with_sign
library_absolute nan = refl
library_absolute (inf s) = refl
library_absolute (fin s m e) = refl

pub library_floor : (f : Format) (x : Float) → round_with ratio_floor ratio_ceil f x ≡ floor f x
unfolding floor round_with
library_floor f nan = refl
library_floor f (inf s) = refl
library_floor f (fin false m e) = refl
library_floor f (fin true m e) = ap (λ (n : ℕ). round f true n 1) (less-one (m * up e) e)

pub library_ceil : (f : Format) (x : Float) → round_with ratio_ceil ratio_floor f x ≡ ceil f x
unfolding floor ceil neg round_with
library_ceil f nan = refl
library_ceil f (inf true) = refl
library_ceil f (inf false) = refl
library_ceil f (fin false m e) = ap (λ (n : ℕ). round f false n 1) (less-one (m * up e) e) ∙ sym (neg-round f true ((m * up e + (down e - 1)) / down e) 1)
library_ceil f (fin true m e) = sym (neg-round f false (m * up e / down e) 1)
