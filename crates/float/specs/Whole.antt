-- `floor` and `round_away` by the size of the operand: a value that is large, zero or no number stays, and the result is always
-- that whole number exactly, since a format holds every whole number that it can round to. Generic over the format.
use Rattle.std.specs.Prelude.{◌≡◌, ℕ, suc, ◌+◌, ◌-◌, ◌*◌, ◌/◌, ◌^◌, ◌<◌, ◌≤◌, Bool, true, false, not, T, ℤ, pos, negsuc, nat_le, nat_lt, refl, Float}
use Rattle.std.proofs.Common.{sym, ap, ◌∙◌, subst, le_of_lt, le_trans, le_of_eq, zero-lt-suc, mul-one, one-mul, zero-mul, mul_assoc, mul-le-mul_left, mul-div_cancel, div-lt_iff_lt-mul, add-mul, arith, ltb→lt, nltb→le, leb→le, lit≤, pow_pos}
use Rattle.std.proofs.Math.Nat.{pow-succ'}
use Rattle.std.proofs.Math.Arith.{digits_div}
use Rattle.std.proofs.Math.Dec.{nleb→lt}
use Rattle.std.specs.Float.{nan, inf, fin, Format, binary32, binary64}
use Rattle.std.specs.Float.Ieee.{prec, up, down, round, neg, lt, fits}
use Rattle.std.specs.Float.Ieee.Fits.{down_pos}
use Rattle.std.specs.Float.Ieee.Exact.{HasValue}
use Rattle.std.specs.Float.Ieee.Back.{round_whole}
use Rattle.float.specs.Rounding.{held, round-to, neg-round}
use Rattle.float.specs.Calls.{floor, round_away, downward, half_away}
use Rattle.float.specs.Base.{zero+, two_to, minus_two_to}

-- ---- what a rule of rounding a fraction to a whole number keeps: a whole number stays, and none below P goes above it

pub record WholeRule (g : ℕ → ℕ → ℕ) : Type 0 where
  pub stays : (n c : ℕ) → 0 < c → g (n * c) c ≡ n
  pub small : (a c P : ℕ) → 0 < c → a < P * c → g a c ≤ P

pub next_multiple : (P c : ℕ) → (P + 1) * c ≡ P * c + c
next_multiple P c = add-mul P 1 c ∙ ap (λ (z : ℕ). P * c + z) (one-mul c)

pub down_rule : (s : Bool) → WholeRule (downward s)
down_rule true = record {
  stays = λ n c C. digits_div n (pred c C);
  small = λ a c P C h. let l : (a + (c - 1)) / c < P + 1 = (div-lt_iff_lt-mul C).1 (let e = next_multiple P c in omega arith) in omega arith;
}
  where
    pred : (c : ℕ) → 0 < c → c - 1 < c
    pred c h = omega arith
down_rule false = record { stays = λ n c C. mul-div_cancel n C; small = λ a c P C h. le_of_lt ((div-lt_iff_lt-mul C).1 h) }

pub half-rule : WholeRule half_away
half-rule = record {
  stays = λ n c C. ap (λ (z : ℕ). (z + c) / (c * 2)) (mul_assoc n c 2) ∙ digits_div n (more c C);
  small = λ a c P C h.
      let e : (P + 1) * (c * 2) ≡ P * c * 2 + c * 2 = next_multiple P (c * 2) ∙ ap (λ (z : ℕ). z + c * 2) (sym (mul_assoc P c 2)) in
      let l : (a * 2 + c) / (c * 2) < P + 1 = (div-lt_iff_lt-mul (twice c C)).1 (omega arith) in
      omega arith;
}
  where
    more : (c : ℕ) → 0 < c → c < c * 2
    more c h = omega arith

    twice : (c : ℕ) → 0 < c → 0 < c * 2
    twice c h = omega arith

-- ---- no number, an infinity or a whole number: these stay

abbrev pub Still : Float → Type 0
Still nan = Unit
Still (inf s) = Unit
Still (fin s m e) = (n : ℕ) × (m * up e ≡ n * down e)

rule-still : (f : Format) {g : ℕ → ℕ → ℕ} → WholeRule g → (s : Bool) (m : ℕ) (e : ℤ) → T (fits f (fin s m e)) → Still (fin s m e)
    → round f s (g (m * up e) (down e)) 1 ≡ fin s m e
rule-still f {g} r s m e t h =
    ap (λ (z : ℕ). round f s z 1) (ap (λ (z : ℕ). g z (down e)) h.1 ∙ r.stays h.0 (down e) (down_pos e))
    ∙ round-to f (fin s m e) s h.0 1 (zero-lt-suc 0) t (refl, mul-one (m * up e) ∙ h.1)

pub floor-still : (f : Format) (x : Float) → T (fits f x) → Still x → floor f x ≡ x
unfolding floor
floor-still f nan t h = refl
floor-still f (inf s) t h = refl
floor-still f (fin s m e) t h = rule-still f (down_rule s) s m e t h

pub round_away-still : (f : Format) (x : Float) → T (fits f x) → Still x → round_away f x ≡ x
unfolding round_away
round_away-still f nan t h = refl
round_away-still f (inf s) t h = refl
round_away-still f (fin s m e) t h = rule-still f half-rule s m e t h

-- ---- from 2 ^ (prec - 1) on a value is whole

pub top_digit : (f : Format) → 2 ^ prec f ≡ 2 ^ (prec f - 1) * 2
top_digit binary32 = refl
top_digit binary64 = refl

large : (f : Format) (m : ℕ) (e : ℤ) → m < 2 ^ prec f → 2 ^ (prec f - 1) * down e ≤ m * up e → (n : ℕ) × (m * up e ≡ n * down e)
large f m (pos k) h l = (m * 2 ^ k, sym (mul-one (m * 2 ^ k)))
large f m (negsuc k) h l =
    let P = 2 ^ (prec f - 1) in
    let a : P * 2 ≤ P * 2 ^ suc k = mul-le-mul_left P (subst (λ (z : ℕ). 2 ≤ z) (sym (pow-succ' 2 k)) (two-le (2 ^ k) (pow_pos k))) in
    let b : m < P * 2 = subst (λ (z : ℕ). m < z) (top_digit f) h in
    let c : m * 1 ≡ m = mul-one m in
    absurd (omega arith)
  where
    two-le : (p : ℕ) → 0 < p → 2 ≤ 2 * p
    two-le p h = omega arith

-- a test against ±2 ^ k, as one of whole numbers
not-under : (m : ℕ) (e : ℤ) (k : ℕ) → T (not (nat_lt (m * up e * 1) (1 * 2 ^ k * down e))) → 2 ^ k * down e ≤ m * up e
not-under m e k q =
    le_trans (le_of_eq (ap (λ (z : ℕ). z * down e) (sym (one-mul (2 ^ k)))))
    (le_trans (nltb→le (m * up e * 1) (1 * 2 ^ k * down e) q) (le_of_eq (mul-one (m * up e))))

pub still-large : (f : Format) (x : Float) → T (fits f x) → T (lt zero+ x) → T (not (lt x (two_to (prec f - 1)))) → Still x
unfolding lt
still-large f nan t p q = tt
still-large f (inf s) t p q = tt
still-large f (fin true m e) t p q = absurd p
still-large f (fin false m e) t p q = large f m e (held f false m e t).digits (not-under m e (prec f - 1) q)

pub not-below-zero : (m : ℕ) (e : ℤ) → T (nat_lt (m * up e * 1) (0 * 1 * down e)) → ⊥
not-below-zero m e p =
    let z : m * up e * 1 < 0 * 1 * down e = ltb→lt (m * up e * 1) (0 * 1 * down e) p in
    let w : 0 * 1 * down e ≡ 0 = zero-mul (down e) in
    omega arith

pub still-large-neg : (f : Format) (x : Float) → T (fits f x) → T (lt x zero+) → T (not (lt (minus_two_to (prec f - 1)) x)) → Still x
unfolding lt
still-large-neg f nan t p q = tt
still-large-neg f (inf s) t p q = tt
still-large-neg f (fin false m e) t p q = absurd (not-below-zero m e p)
still-large-neg f (fin true m e) t p q = large f m e (held f true m e t).digits (not-under m e (prec f - 1) q)

pub still-zero : (x : Float) → T (not (lt zero+ x)) → T (not (lt x zero+)) → Still x
unfolding lt
still-zero nan p q = tt
still-zero (inf s) p q = tt
still-zero (fin false m e) p q =
    let l : m * up e * 1 ≤ 0 * 1 * down e = nltb→le (0 * 1 * down e) (m * up e * 1) p in
    let w : 0 * 1 * down e ≡ 0 = zero-mul (down e) in
    let y : 0 * down e ≡ 0 = zero-mul (down e) in
    (0, let r : m * up e ≡ 0 * down e = omega arith in r)
still-zero (fin true m e) p q =
    let l : m * up e * 1 + 0 * 1 * down e ≤ 0 = nltb→le 0 (m * up e * 1 + 0 * 1 * down e) q in
    let y : 0 * down e ≡ 0 = zero-mul (down e) in
    (0, let r : m * up e ≡ 0 * down e = omega arith in r)

-- ---- the result is that whole number exactly

under-half : (f : Format) → 2 ^ (prec f - 1) ≤ 2 ^ prec f
under-half binary32 = lit≤ tt
under-half binary64 = lit≤ tt

rule_value : (f : Format) {g : ℕ → ℕ → ℕ} → WholeRule g → (s : Bool) (m : ℕ) (e : ℤ) → T (fits f (fin s m e))
    → HasValue (round f s (g (m * up e) (down e)) 1) s (g (m * up e) (down e)) 1
rule_value f {g} r s m e t =
    go (nat_le (2 ^ (prec f - 1) * down e) (m * up e)) (leb→le (2 ^ (prec f - 1) * down e) (m * up e)) (nleb→lt (2 ^ (prec f - 1) * down e) (m * up e))
  where
    go : (b : Bool) → (T b → 2 ^ (prec f - 1) * down e ≤ m * up e) → (T (not b) → m * up e < 2 ^ (prec f - 1) * down e)
        → HasValue (round f s (g (m * up e) (down e)) 1) s (g (m * up e) (down e)) 1
    go true p q =
        let w = large f m e (held f s m e t).digits (p tt) in
        let d : g (m * up e) (down e) ≡ w.0 = ap (λ (z : ℕ). g z (down e)) w.1 ∙ r.stays w.0 (down e) (down_pos e) in
        subst (λ (z : Float). HasValue z s (g (m * up e) (down e)) 1) (sym (rule-still f r s m e t w))
        (refl, mul-one (m * up e) ∙ w.1 ∙ ap (λ (z : ℕ). z * down e) (sym d))
    go false p q = round_whole f s (g (m * up e) (down e)) (le_trans (r.small (m * up e) (down e) (2 ^ (prec f - 1)) (down_pos e) (q tt)) (under-half f))

pub floor-value : (f : Format) (s : Bool) (m : ℕ) (e : ℤ) → T (fits f (fin s m e)) → HasValue (floor f (fin s m e)) s (downward s (m * up e) (down e)) 1
unfolding floor
floor-value f s m e t = rule_value f (down_rule s) s m e t

pub round_away-value : (f : Format) (s : Bool) (m : ℕ) (e : ℤ) → T (fits f (fin s m e)) → HasValue (round_away f (fin s m e)) s (half_away (m * up e) (down e)) 1
unfolding round_away
round_away-value f s m e t = rule_value f half-rule s m e t

-- ---- of a negation

pub round_away-neg : (f : Format) (x : Float) → round_away f (neg x) ≡ neg (round_away f x)
unfolding round_away neg
round_away-neg f nan = refl
round_away-neg f (inf s) = refl
round_away-neg f (fin s m e) = sym (neg-round f s (half_away (m * up e) (down e)) 1)

pub neg-neg : (x : Float) → neg (neg x) ≡ x
unfolding neg
neg-neg nan = refl
neg-neg (inf true) = refl
neg-neg (inf false) = refl
neg-neg (fin true m e) = refl
neg-neg (fin false m e) = refl
