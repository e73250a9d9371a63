-- The encoder is linear: where two registers differ, their outputs differ as the outputs of the difference.
use Rattle.std.specs.Prelude.{◌≡◌, refl, ℕ, zero, suc, ◌+◌, ◌*◌, ◌/◌, ◌%◌, ◌<◌, min}
use Rattle.std.proofs.Common.{sym, ap, ap₂, ◌∙◌, arith}
use Rattle.std.proofs.Math.Arith.{bin_ind}
use Rattle.std.specs.Int.Count.{ones, ones_step}
use Rattle.std.specs.Int.Bits.{differ, bit_and, bit_xor, and_step, xor_step, xor_zero_l}
use Rattle.std.proofs.lemmas.Nat.{xor_block, xor_shr}
use Rattle.encoder.specs.Ccsds131.{parity, register, next_state}
use Rattle.encoder.specs.Bits.{parity-lt}

pub differ-sum : (x y : ℕ) → x < 2 → y < 2 → differ x y ≡ (x + y) % 2
differ-sum zero y h k = omega arith
differ-sum (suc zero) zero h k = refl
differ-sum (suc zero) (suc zero) h k = refl
differ-sum (suc zero) (suc (suc y)) h k = absurd (omega arith)
differ-sum (suc (suc x)) y h k = absurd (omega arith)

-- the lowest digit, and the rest
parity-step : (g r : ℕ) → parity g r ≡ (min (r % 2) (g % 2) + parity (g / 2) (r / 2)) % 2
unfolding parity
parity-step g r =
    let A = bit_and r g in
    let B = bit_and (r / 2) (g / 2) in
    let s : A ≡ B * 2 + min (r % 2) (g % 2) = and_step r g in
    let h : A / 2 ≡ B = omega arith in
    let o : ones A ≡ A % 2 + ones (A / 2) = ones_step A in
    let e : ones (A / 2) ≡ ones B = ap ones h in
    omega arith

two : (m n : ℕ) → (m % 2 + n % 2) % 2 ≡ (m + n) % 2
two m n = omega arith

four : (x y p q : ℕ) → ((x + y) % 2 + (p + q) % 2) % 2 ≡ ((x + p) % 2 + (y + q) % 2) % 2
four x y p q = two (x + y) (p + q) ∙ ap (λ (k : ℕ). k % 2) (let e : x + y + (p + q) ≡ x + p + (y + q) = omega arith in e) ∙ sym (two (x + p) (y + q))

one-digit : (x y g p q : ℕ) → x < 2 → y < 2 → g < 2 → p < 2 → q < 2 → (min ((x + y) % 2) g + (p + q) % 2) % 2 ≡ ((min x g + p) % 2 + (min y g + q) % 2) % 2
one-digit x y zero p q a b c d e =
    ap (λ (u : ℕ). (u + (p + q) % 2) % 2) (let m : min ((x + y) % 2) 0 ≡ 0 = omega arith in m)
    ∙ four 0 0 p q
    ∙ ap₂ (λ (u v : ℕ). ((u + p) % 2 + (v + q) % 2) % 2) (let m : 0 ≡ min x 0 = omega arith in m) (let m : 0 ≡ min y 0 = omega arith in m)
one-digit x y (suc zero) p q a b c d e =
    ap (λ (u : ℕ). (u + (p + q) % 2) % 2) (let m : min ((x + y) % 2) 1 ≡ (x + y) % 2 = omega arith in m)
    ∙ four x y p q
    ∙ ap₂ (λ (u v : ℕ). ((u + p) % 2 + (v + q) % 2) % 2) (let m : x ≡ min x 1 = omega arith in m) (let m : y ≡ min y 1 = omega arith in m)
one-digit x y (suc (suc g)) p q a b c d e = absurd (omega arith)

nothing : (g : ℕ) → parity g 0 ≡ 0
unfolding parity ones
nothing g = refl

parity-sum : (a b g : ℕ) → parity g (bit_xor a b) ≡ (parity g a + parity g b) % 2
parity-sum =
    bin_ind (λ (a : ℕ). (b g : ℕ) → parity g (bit_xor a b) ≡ (parity g a + parity g b) % 2)
    (λ b g. base b g) (λ a ih b g. more a b g (ih (b / 2) (g / 2)))
  where
    base : (b g : ℕ) → parity g (bit_xor 0 b) ≡ (parity g 0 + parity g b) % 2
    base b g = ap (λ (x : ℕ). parity g x) (xor_zero_l b) ∙ (let z = nothing g in let l = parity-lt g b in omega arith)

    more : (a b g : ℕ) → parity (g / 2) (bit_xor (a / 2) (b / 2)) ≡ (parity (g / 2) (a / 2) + parity (g / 2) (b / 2)) % 2
        → parity g (bit_xor a b) ≡ (parity g a + parity g b) % 2
    more a b g ih =
        let X = bit_xor a b in
        let D = (a % 2 + b % 2) % 2 in
        let s : X ≡ bit_xor (a / 2) (b / 2) * 2 + differ (a % 2) (b % 2) = xor_step a b in
        let d : differ (a % 2) (b % 2) ≡ D = differ-sum (a % 2) (b % 2) (omega arith) (omega arith) in
        let lo : X % 2 ≡ D = omega arith in
        let hi : X / 2 ≡ bit_xor (a / 2) (b / 2) = omega arith in
        parity-step g X
        ∙ ap₂ (λ (x y : ℕ). (min x (g % 2) + parity (g / 2) y) % 2) lo hi
        ∙ ap (λ (x : ℕ). (min D (g % 2) + x) % 2) ih
        ∙ one-digit (a % 2) (b % 2) (g % 2) (parity (g / 2) (a / 2)) (parity (g / 2) (b / 2)) (omega arith) (omega arith) (omega arith)
        (parity-lt (g / 2) (a / 2)) (parity-lt (g / 2) (b / 2))
        ∙ sym (ap₂ (λ (x y : ℕ). (x + y) % 2) (parity-step g a) (parity-step g b))

pub parity-xor : (g a b : ℕ) → differ (parity g a) (parity g b) ≡ parity g (bit_xor a b)
parity-xor g a b = differ-sum (parity g a) (parity g b) (parity-lt g a) (parity-lt g b) ∙ sym (parity-sum a b g)

pub register-xor : (b d s t : ℕ) → s < 64 → t < 64 → bit_xor (register b s) (register d t) ≡ register (bit_xor b d) (bit_xor s t)
register-xor b d s t h k = xor_block 6 b d s t h k

pub next-xor : (b d s t : ℕ) → s < 64 → t < 64 → bit_xor (next_state b s) (next_state d t) ≡ next_state (bit_xor b d) (bit_xor s t)
next-xor b d s t h k = sym (xor_shr (register b s) (register d t) 1) ∙ ap (λ (x : ℕ). x / 2) (register-xor b d s t h k)
