-- A product and a quotient of two values see only their fractions: each is one rounding of the exact result. Generic over the format.
use Rattle.std.specs.Prelude.{◌≡◌, Bool, true, false, cond, ℕ, ◌*◌, ◌≤◌, ◌<◌, T, eqb, Float}
use Rattle.std.proofs.Common.{sym, ap, ◌∙◌, subst, lt_of_not-le, lt_irrefl, mul_comm, mul-pos, arith, eqb→eq}
use Rattle.std.proofs.Math.Nat.{mul-mul-mul_comm}
use Rattle.std.specs.Float.{nan, inf, fin, Format}
use Rattle.std.specs.Float.Ieee.{unlike, up, down, round, mul, div}
use Rattle.std.specs.Float.Ieee.Fits.{up_pos, down_pos}
use Rattle.std.specs.Float.Ieee.Exact.{HasValue}
use Rattle.std.specs.Float.Ieee.Scale.{round_same}
use Rattle.float.specs.Fraction.{value→zero}

mul-cross : (M N E D a b c d : ℕ) → M * c ≡ a * E → N * d ≡ b * D → M * N * (c * d) ≡ a * b * (E * D)
mul-cross M N E D a b c d p q = mul-mul-mul_comm M N c d ∙ ap (λ (z : ℕ). z * (N * d)) p ∙ ap (λ (z : ℕ). a * E * z) q ∙ mul-mul-mul_comm a E b D

pub mul-value-at : (f : Format) (x y : Float) (s t : Bool) (a c b d : ℕ) → 0 < c → 0 < d → HasValue x s a c → HasValue y t b d
    → mul f x y ≡ round f (unlike s t) (a * b) (c * d)
unfolding mul
mul-value-at f nan y s t a c b d C D h k = absurd h
mul-value-at f (inf u) y s t a c b d C D h k = absurd h
mul-value-at f (fin u m e) nan s t a c b d C D h k = absurd k
mul-value-at f (fin u m e) (inf v) s t a c b d C D h k = absurd k
mul-value-at f (fin u m e) (fin v n g) s t a c b d C D h k =
    ap (λ (z : Bool). round f (unlike z v) (m * up e * (n * up g)) (down e * down g)) h.0
    ∙ ap (λ (z : Bool). round f (unlike s z) (m * up e * (n * up g)) (down e * down g)) k.0
    ∙ round_same f (unlike s t) (m * up e * (n * up g)) (down e * down g) (a * b) (c * d) (mul-pos (down_pos e) (down_pos g)) (mul-pos C D)
    (mul-cross (m * up e) (n * up g) (down e) (down g) a b c d h.1 k.1)

div-cross : (M N E D a b c d : ℕ) → M * c ≡ a * E → N * d ≡ b * D → M * D * (c * b) ≡ a * d * (N * E)
div-cross M N E D a b c d p q =
    mul-mul-mul_comm M D c b ∙ ap (λ (z : ℕ). z * (D * b)) p ∙ ap (λ (z : ℕ). a * E * z) (mul_comm D b ∙ sym q ∙ mul_comm N d) ∙ mul-mul-mul_comm a E d N
    ∙ ap (λ (z : ℕ). a * d * z) (mul_comm E N)

-- by b / d, which is not zero
pub div-value-at : (f : Format) (x y : Float) (s t : Bool) (a c b d : ℕ) → 0 < c → 0 < b → 0 < d → HasValue x s a c → HasValue y t b d
    → div f x y ≡ round f (unlike s t) (a * d) (c * b)
unfolding div
div-value-at f nan y s t a c b d C B D h k = absurd h
div-value-at f (inf u) y s t a c b d C B D h k = absurd h
div-value-at f (fin u m e) nan s t a c b d C B D h k = absurd k
div-value-at f (fin u m e) (inf v) s t a c b d C B D h k = absurd k
div-value-at f (fin u m e) (fin v n g) s t a c b d C B D h k =
    ap (λ (z : Bool). cond (eqb n 0) (cond (eqb m 0) nan (inf (unlike z v))) (round f (unlike z v) (m * up e * down g) (n * up g * down e))) h.0
    ∙ ap (λ (z : Bool). cond (eqb n 0) (cond (eqb m 0) nan (inf (unlike s z))) (round f (unlike s z) (m * up e * down g) (n * up g * down e))) k.0
    ∙ go (eqb n 0) (eqb→eq n 0)
  where
    none : n ≡ 0 → ⊥
    none z = lt_irrefl 0 (subst (λ (w : ℕ). 0 < w) (value→zero v g b d (subst (λ (w : ℕ). w * up g * d ≡ b * down g) z k.1)) B)

    n_pos : 0 < n
    n_pos = lt_of_not-le (λ (l : n ≤ 0). none (let z : n ≡ 0 = omega arith in z))

    go : (q : Bool) → (T q → n ≡ 0)
        → cond q (cond (eqb m 0) nan (inf (unlike s t))) (round f (unlike s t) (m * up e * down g) (n * up g * down e)) ≡ round f (unlike s t) (a * d) (c * b)
    go true z = absurd (none (z tt))
    go false z =
        round_same f (unlike s t) (m * up e * down g) (n * up g * down e) (a * d) (c * b) (mul-pos (mul-pos n_pos (up_pos g)) (down_pos e)) (mul-pos C B)
        (div-cross (m * up e) (n * up g) (down e) (down g) a b c d h.1 k.1)
