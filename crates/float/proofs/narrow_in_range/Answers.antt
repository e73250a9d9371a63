-- `float::narrow_in_range` meets its contract, by `narrowed` of `specs/Narrow.antt`.
use Rattle.std.proofs.Common.{◌≡◌, ℕ, ◌+◌, ◌*◌, ◌%◌, ◌^◌, ◌<◌, ◌≤◌, Bool, true, false, not, ◌&&◌, T, sym, refl, ap, ◌∙◌, subst, mod-eq_of_lt, arith, max, lit≤}
use Rattle.std.proofs.lemmas.Float.{not_nan_f64_bits}
use lib.Ieee.{Float, inf, binary32, binary64, add, sub, lt, fits, is_nan, of_bits, nan_bits}
use Rattle.float.specs.Base.{two_to}
use Rattle.float.specs.Known.{known}
use Rattle.float.specs.Narrow.{narrowed, stepped}
use Rattle.float.proofs.narrow_in_range.Goals as goal

-- the shift drops nothing
whole-shift : (e : ℕ) → e ≤ 1150 → (e + 29) * 2 ^ 52 % 2 ^ 64 ≡ (e + 29) * 2 ^ 52
whole-shift e h = mod-eq_of_lt (let z : (e + 29) * 2 ^ 52 < 2 ^ 64 = omega arith in z)

top-is : of_bits binary64 0x47f0_0000_0000_0000 ≡ two_to 128
unfolding of_bits
top-is = refl

infinity : of_bits binary32 0x7f80_0000 ≡ inf false
unfolding of_bits
infinity = refl

-- y as the machine has it
abbrev y_of : Float → ℕ → Float
y_of x b = sub binary64 (add binary64 x (of_bits binary64 b)) (of_bits binary64 b)

test : (x : Float) (e : ℕ) (t : Bool) → e ≤ 1150 → lt (y_of x ((e + 29) * 2 ^ 52 % 2 ^ 64)) (of_bits binary64 0x47f0_0000_0000_0000) ≡ t
    → lt (stepped x e) (two_to 128) ≡ t
test x e t h p = ap (λ (b : ℕ). lt (y_of x b) (two_to 128)) (sym (whole-shift e h))
    ∙ ap (λ (z : Float). lt (y_of x ((e + 29) * 2 ^ 52 % 2 ^ 64)) z) (sym top-is) ∙ p

-- the exponent's field is small, and so is what `at_least` gives of it, whatever the least is
small-field : (field least e : ℕ) → e ≡ max field least → least ≤ 1150 → max field 897 ≤ 1150 → e ≤ 1150
small-field field least e h l k = omega arith

no-nan : (n : ℕ) → n ≤ 2046 → T (not (nan_bits binary64 (n * 2 ^ 52 % 2 ^ 64)))
no-nan n h = not_nan_f64_bits (n * 2 ^ 52 % 2 ^ 64) (omega arith)

pub overflow_add-m : goal.overflow_add-m
overflow_add-m c =
    let h = small-field _ _ _ c.max-e.ensures (lit≤ tt) (narrowed c.args.x _ (known c.well_formed.0.1) c.requires.0 c.requires.1 refl).e_small in
    record { fits = omega arith }

pub float_from_bits-m : goal.float_from_bits-m
float_from_bits-m c =
    let h = small-field _ _ _ c.max-e.ensures (lit≤ tt) (narrowed c.args.x _ (known c.well_formed.0.1) c.requires.0 c.requires.1 refl).e_small in
    no-nan _ (omega arith)

pub float_to_float-result : goal.float_to_float-result
float_to_float-result c =
    let l = narrowed c.args.x c.max-e.result (known c.well_formed.0.1) c.requires.0 c.requires.1 c.max-e.ensures in
    let x = c.args.x in
    let e = c.max-e.result in
    let h = l.e_small in
    subst (λ (b : ℕ). T (fits binary32 (y_of x b) && not (is_nan (y_of x b)))) (sym (whole-shift e h))
    (l.under_fits (test x e true h c.if-y.true))

pub returns-then-y : goal.returns-then-y
returns-then-y c =
    let l = narrowed c.args.x c.max-e.result (known c.well_formed.0.1) c.requires.0 c.requires.1 c.max-e.ensures in
    let x = c.args.x in
    let e = c.max-e.result in
    let h = l.e_small in
    ap (λ (b : ℕ). y_of x b) (whole-shift e h) ∙ l.under_is (test x e true h c.if-y.true)

pub float_from_bits-result : goal.float_from_bits-result
unfolding nan_bits
float_from_bits-result c = tt

pub returns : goal.returns
returns c =
    let l = narrowed c.args.x c.max-e.result (known c.well_formed.0.1) c.requires.0 c.requires.1 c.max-e.ensures in
    let x = c.args.x in
    let e = c.max-e.result in
    let h = l.e_small in
    infinity ∙ sym (l.over_is (test x e false h c.if-y.false))
