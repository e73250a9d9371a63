-- Bits and the numbers that have them: sums of polynomials are exclusive ors of numbers, which is therefore associative, and
-- bits behind others count by their place.
use Rattle.std.specs.Prelude.{◌≡◌, refl, Bool, true, false, cond, List, [], ◌∷◌, ◌++◌, ℕ, zero, suc, ◌+◌, ◌*◌, ◌%◌, ◌^◌, ◌<◌, eqb, length, replicate}
use Rattle.std.proofs.Common.{sym, ap, ap₂, ◌∙◌, mod-lt, mul_assoc, pow-suc, div-add-mod', arith, lit<}
use Rattle.std.proofs.Math.Arith.{bin_ind}
use Rattle.std.specs.Int.Bits.{bit_xor, xor_zero_r}
use Rattle.std.proofs.lemmas.Nat.{xor_block}
use Rattle.crc32.specs.Ieee8023.{plus_bit, ◌⊕◌, scaled, number}
use Rattle.crc32.specs.Sum.{sum-assoc}

-- ---- one bit

pub bit-lt : (b : Bool) → cond b 1 0 < 2
bit-lt true = lit< tt
bit-lt false = lit< tt

pub bit_test : (b : Bool) → eqb (cond b 1 0) 1 ≡ b
bit_test true = refl
bit_test false = refl

bit-sum : (a b : Bool) → cond (plus_bit a b) 1 0 ≡ bit_xor (cond a 1 0) (cond b 1 0)
bit-sum false b = refl
bit-sum true false = refl
bit-sum true true = refl

pub low_bit : (n : ℕ) → cond (eqb (n % 2) 1) 1 0 ≡ n % 2
low_bit n = digit (n % 2) (mod-lt n (lit< tt))
  where
    digit : (r : ℕ) → r < 2 → cond (eqb r 1) 1 0 ≡ r
    digit zero h = refl
    digit (suc zero) h = refl
    digit (suc (suc r)) h = absurd (omega arith)

-- ---- sums

pub number-sum : (p q : List Bool) → number (p ⊕ q) ≡ bit_xor (number p) (number q)
unfolding ◌⊕◌ number
number-sum [] q = refl
number-sum (a ∷ p) [] = sym (xor_zero_r (number p * 2 + cond a 1 0))
number-sum (a ∷ p) (b ∷ q) =
    ap₂ (λ (x y : ℕ). x * 2 + y) (number-sum p q) (bit-sum a b)
    ∙ sym (xor_block 1 (number p) (number q) (cond a 1 0) (cond b 1 0) (bit-lt a) (bit-lt b))

pub number-zeros : (n : ℕ) → number (replicate n false) ≡ 0
unfolding number
number-zeros zero = refl
number-zeros (suc n) = ap (λ (x : ℕ). x * 2 + 0) (number-zeros n)

pub number-scaled : (c : Bool) (g : List Bool) → number (scaled c g) ≡ cond c (number g) 0
unfolding number scaled
number-scaled true [] = refl
number-scaled true (b ∷ g) = ap (λ (x : ℕ). x * 2 + cond b 1 0) (number-scaled true g)
number-scaled false [] = refl
number-scaled false (b ∷ g) = ap (λ (x : ℕ). x * 2 + 0) (number-scaled false g)

-- every number has its bits
binary : (n : ℕ) → (p : List Bool) × (number p ≡ n)
unfolding number
binary =
    bin_ind (λ (n : ℕ). (p : List Bool) × (number p ≡ n)) ([], refl)
    (λ n half. (eqb (n % 2) 1 ∷ half.0, ap₂ (λ (x y : ℕ). x * 2 + y) half.1 (low_bit n) ∙ div-add-mod' n 2))

pub xor_assoc : (a b c : ℕ) → bit_xor (bit_xor a b) c ≡ bit_xor a (bit_xor b c)
xor_assoc a b c =
    let (p, is-a) = binary a in
    let (q, is_b) = binary b in
    let (r, is_c) = binary c in
    cc (is-a, is_b, is_c, number-sum p q, number-sum (p ⊕ q) r, number-sum q r, number-sum p (q ⊕ r), sum-assoc p q r)

-- ---- places

pub number_lt : (p : List Bool) → number p < 2 ^ length p
unfolding number
number_lt [] = lit< tt
number_lt (b ∷ p) = omega (arith, number_lt p, bit-lt b, pow-suc 2 (length p))

pub number_append : (p q : List Bool) → number (p ++ q) ≡ number q * 2 ^ length p + number p
unfolding number
number_append [] q = omega arith
number_append (b ∷ p) q =
    omega (arith, number_append p q, ap (λ (x : ℕ). number q * x) (pow-suc 2 (length p)), mul_assoc (number q) (2 ^ length p) 2)
