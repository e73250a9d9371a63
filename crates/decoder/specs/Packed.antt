-- Bits packed into a number, bit i at weight 2 ^ i, and read back.
use Rattle.std.specs.Prelude.{◌≡◌, refl}
use Rattle.std.proofs.Math.Path.{sym, ap, subst}
use Rattle.std.proofs.Common.{ap₂, ◌∙◌, eq-or-lt_of_le, add_comm, mul_assoc, add-one, pow-add, pow_pos, pow_mono, shl_exact}
use Rattle.std.proofs.Math.Logic.{inl, inr}
use Prim.Native.Nat.{ℕ, zero, suc, ◌+◌, ◌-◌, ◌*◌, ◌/◌, ◌%◌, ◌^◌, ◌≤◌, ◌<◌}
use Rattle.std.proofs.Math.Nat.{add-mul-div_right, mod-eq_of_lt, pow-suc, mul-le-mul_right, one-mul}
use native.Mathlib.Omega.{arith}
use Rattle.std.proofs.Math.Pow.{high}
use Rattle.decoder.specs.Decisions.{packed}

module _ (f : ℕ → ℕ) (B : (i : ℕ) → f i < 2) where
  pub packed_lt : (n : ℕ) → packed f n < 2 ^ n
  unfolding packed
  packed_lt zero = omega arith
  packed_lt (suc n) =
      let b = B n in
      let h : f n * 2 ^ n ≤ 1 * 2 ^ n = mul-le-mul_right (2 ^ n) (let g : f n ≤ 1 = omega arith in g) in
      omega (arith, packed_lt n, pow-suc 2 n, one-mul (2 ^ n))

  pub unpacked : (n j : ℕ) → j < n → packed f n / 2 ^ j % 2 ≡ f j
  unfolding packed
  unpacked zero j h = absurd (omega arith)
  unpacked (suc n) j h =
      elim (eq-or-lt_of_le h) [
        | inl e ↦
            let g : j ≡ n = omega arith in
            subst (λ (x : ℕ). (packed f n + f n * 2 ^ n) / 2 ^ x % 2 ≡ f x) (sym g)
            (ap (λ (x : ℕ). x / 2 ^ n % 2) (add_comm (packed f n) (f n * 2 ^ n)) ∙ ap (λ (x : ℕ). x % 2) (high (f n) n (packed_lt n)) ∙ mod-eq_of_lt (B n))
        | inr l ↦
            let g : j < n = omega arith in
            let d = n - suc j in
            let e : n ≡ suc d + j = omega arith in
            let s : f n * 2 ^ n ≡ f n * 2 ^ d * 2 * 2 ^ j =
            ap (λ (x : ℕ). f n * 2 ^ x) e ∙ ap (λ (x : ℕ). f n * x) (pow-add 2 (suc d) j ∙ ap (λ (x : ℕ). x * 2 ^ j) (pow-suc 2 d))
            ∙ sym (mul_assoc (f n) (2 ^ d * 2) (2 ^ j)) ∙ ap (λ (x : ℕ). x * 2 ^ j) (sym (mul_assoc (f n) (2 ^ d) 2)) in
            let q : (packed f n + f n * 2 ^ n) / 2 ^ j ≡ packed f n / 2 ^ j + f n * 2 ^ d * 2 =
            ap (λ (x : ℕ). (packed f n + x) / 2 ^ j) s ∙ add-mul-div_right (packed f n) (f n * 2 ^ d * 2) (pow_pos j) in
            ap (λ (x : ℕ). x % 2) q
            ∙ (let z : (packed f n / 2 ^ j + f n * 2 ^ d * 2) % 2 ≡ packed f n / 2 ^ j % 2 = even-off (packed f n / 2 ^ j) (f n * 2 ^ d) in z)
            ∙ unpacked n j g
      ]
    where
      even-off : (x y : ℕ) → (x + y * 2) % 2 ≡ x % 2
      even-off x y = omega arith

-- a bit put at k, above a number below 2 ^ k
pub put-exact : (bit k : ℕ) → k < 64 → bit < 2 → bit * 2 ^ k % 2 ^ 64 ≡ bit * 2 ^ k
put-exact bit k K b = shl_exact 1 k 64 b (let h : 1 + k ≤ 64 = omega arith in h)

pub put-fits : (d bit k : ℕ) → k < 64 → bit < 2 → d < 2 ^ k → d + bit * 2 ^ k < 2 ^ 64
put-fits d bit k K b h =
    let g : bit * 2 ^ k ≤ 1 * 2 ^ k = mul-le-mul_right (2 ^ k) (let q : bit ≤ 1 = omega arith in q) in
    let p : 2 ^ suc k ≤ 2 ^ 64 = pow_mono K in
    omega (arith, pow-suc 2 k, one-mul (2 ^ k))

pub packed_more : (f : ℕ → ℕ) (n d bit r : ℕ) → d ≡ packed f n → bit ≡ f n → r ≡ d + bit * 2 ^ n → r ≡ packed f (n + 1)
unfolding packed
packed_more f n d bit r p q e = e ∙ ap₂ (λ (x y : ℕ). x + y * 2 ^ n) p q ∙ sym (rw add-one refl)
