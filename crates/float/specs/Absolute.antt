-- The absolute value by the sign of the operand: itself, its negation, and for a zero or no number the sum with +0. Generic over the format.
use Rattle.std.specs.Prelude.{◌≡◌, ℕ, zero, suc, ◌+◌, ◌*◌, ◌<◌, ◌≤◌, Bool, true, false, not, T, ◌⊎◌, ℤ, pos, ◌≢◌, refl, Float}
use Rattle.std.proofs.Common.{sym, ap, ◌∙◌, subst, inl, inr, zero-lt-suc, zero-mul, mul-pos, arith, ltb→lt, nltb→le}
use Rattle.std.specs.Float.{nan, inf, fin, Format, binary32, binary64}
use Rattle.std.specs.Float.Ieee.{up, down, neg, add, lt, fits}
use Rattle.std.specs.Float.Ieee.Fits.{up_pos}
use Rattle.float.specs.Fraction.{zero_exp}
use Rattle.float.specs.Calls.{absolute}
use Rattle.float.specs.Base.{zero+}

pub absolute-below : (x : Float) → T (lt x zero+) → neg x ≡ absolute x
unfolding lt neg absolute
absolute-below nan p = absurd p
absolute-below (inf true) p = refl
absolute-below (inf false) p = absurd p
absolute-below (fin true m e) p = refl
absolute-below (fin false m e) p =
    let z : m * up e * 1 < 0 * 1 * down e = ltb→lt (m * up e * 1) (0 * 1 * down e) p in
    let w : 0 * 1 * down e ≡ 0 = zero-mul (down e) in
    absurd (omega arith)

pub absolute-above : (x : Float) → T (lt zero+ x) → x ≡ absolute x
unfolding lt absolute
absolute-above nan p = refl
absolute-above (inf true) p = absurd p
absolute-above (inf false) p = refl
absolute-above (fin true m e) p = absurd p
absolute-above (fin false m e) p = refl

zero-sum : (f : Format) (s : Bool) → add f zero+ (fin s 0 (pos 0)) ≡ fin false 0 (pos 0)
unfolding add
zero-sum binary32 true = refl
zero-sum binary32 false = refl
zero-sum binary64 true = refl
zero-sum binary64 false = refl

absolute-zero : (f : Format) (s : Bool) (e : ℤ) → T (fits f (fin s zero e)) → add f zero+ (fin s zero e) ≡ absolute (fin s zero e)
unfolding absolute
absolute-zero f s e t =
    let z : e ≡ pos 0 = zero_exp f s e t in
    ap (λ (g : ℤ). add f zero+ (fin s zero g)) z ∙ zero-sum f s ∙ ap (λ (g : ℤ). fin false zero g) (sym z)

nonzero : (m : ℕ) (e : ℤ) → suc m * up e ≢ 0 * down e
nonzero m e h =
    let p : 0 < suc m * up e = mul-pos (zero-lt-suc m) (up_pos e) in
    let z : 0 * down e ≡ 0 = zero-mul (down e) in
    omega arith

add-nan : (f : Format) → add f zero+ nan ≡ nan
unfolding add
add-nan f = refl

zero_of : (x : Float) → T (not (lt zero+ x)) → T (not (lt x zero+)) → (x ≡ nan) ⊎ ((s : Bool) × (e : ℤ) × (x ≡ fin s zero e))
unfolding lt
zero_of nan p q = inl refl
zero_of (inf true) p q = absurd q
zero_of (inf false) p q = absurd p
zero_of (fin s zero e) p q = inr (s, e, refl)
zero_of (fin true (suc m) e) p q =
    let l : suc m * up e * 1 + 0 * 1 * down e ≤ 0 = nltb→le 0 (suc m * up e * 1 + 0 * 1 * down e) q in
    let z : 0 * down e ≡ 0 = zero-mul (down e) in
    absurd (nonzero m e (let r : suc m * up e ≡ 0 * down e = omega arith in r))
zero_of (fin false (suc m) e) p q =
    let l : suc m * up e * 1 ≤ 0 * 1 * down e = nltb→le (0 * 1 * down e) (suc m * up e * 1) p in
    let w : 0 * 1 * down e ≡ 0 = zero-mul (down e) in
    let z : 0 * down e ≡ 0 = zero-mul (down e) in
    absurd (nonzero m e (let r : suc m * up e ≡ 0 * down e = omega arith in r))

absolute-nan : absolute nan ≡ nan
unfolding absolute
absolute-nan = refl

pub absolute-rest : (f : Format) (x : Float) → T (fits f x) → T (not (lt zero+ x)) → T (not (lt x zero+)) → add f zero+ x ≡ absolute x
absolute-rest f x t p q =
    elim (zero_of x p q) [
      | inl e ↦ ap (λ (z : Float). add f zero+ z) e ∙ add-nan f ∙ sym absolute-nan ∙ ap absolute (sym e)
      | inr k ↦ subst (λ (z : Float). add f zero+ z ≡ absolute z) (sym k.2) (absolute-zero f k.0 k.1 (subst (λ (z : Float). T (fits f z)) k.2 t))
    ]
