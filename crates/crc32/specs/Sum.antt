-- Laws of the sum of polynomials.
use Rattle.std.specs.Prelude.{◌≡◌, refl, Bool, true, false, List, [], ◌∷◌, ℕ, zero, suc, ◌≤◌, length, replicate}
use Rattle.std.proofs.Common.{ap, ap₂, zero-le, suc-le-suc, le_refl, le_of_suc-le-suc, not-suc-le-zero}
use Rattle.crc32.specs.Ieee8023.{plus_bit, ◌⊕◌, complemented}

-- two polynomials are equal where their leading coefficients are, and the rest
pub both : {a b : Bool} {p q : List Bool} → a ≡ b → p ≡ q → a ∷ p ≡ b ∷ q
both = ap₂ (λ (a : Bool) (p : List Bool). a ∷ p)

plus_assoc : (a b c : Bool) → plus_bit (plus_bit a b) c ≡ plus_bit a (plus_bit b c)
plus_assoc false b c = refl
plus_assoc true false c = refl
plus_assoc true true false = refl
plus_assoc true true true = refl

pub plus_comm : (a b : Bool) → plus_bit a b ≡ plus_bit b a
plus_comm false false = refl
plus_comm false true = refl
plus_comm true false = refl
plus_comm true true = refl

plus-self : (a : Bool) → plus_bit a a ≡ false
plus-self false = refl
plus-self true = refl

pub sum-assoc : (p q r : List Bool) → (p ⊕ q) ⊕ r ≡ p ⊕ (q ⊕ r)
unfolding ◌⊕◌
sum-assoc [] q r = refl
sum-assoc (a ∷ p) [] r = refl
sum-assoc (a ∷ p) (b ∷ q) [] = refl
sum-assoc (a ∷ p) (b ∷ q) (c ∷ r) = both (plus_assoc a b c) (sum-assoc p q r)

pub sum_comm : (p q : List Bool) → p ⊕ q ≡ q ⊕ p
unfolding ◌⊕◌
sum_comm [] [] = refl
sum_comm [] (b ∷ q) = refl
sum_comm (a ∷ p) [] = refl
sum_comm (a ∷ p) (b ∷ q) = both (plus_comm a b) (sum_comm p q)

-- what is added twice is gone
pub sum_twice : (p q : List Bool) → length q ≤ length p → (p ⊕ q) ⊕ q ≡ p
unfolding ◌⊕◌
sum_twice [] [] h = refl
sum_twice [] (b ∷ q) h = absurd (not-suc-le-zero h)
sum_twice (a ∷ p) [] h = refl
sum_twice (a ∷ p) (b ∷ q) h = both (rw (plus_assoc, plus-self, plus_comm)) (sum_twice p q (le_of_suc-le-suc h))

-- a sum is as long as the longer of the two
pub length-plus : (p q : List Bool) → length q ≤ length p → length (p ⊕ q) ≡ length p
unfolding ◌⊕◌
length-plus [] [] h = refl
length-plus [] (b ∷ q) h = absurd (not-suc-le-zero h)
length-plus (a ∷ p) [] h = refl
length-plus (a ∷ p) (b ∷ q) h = ap suc (length-plus p q (le_of_suc-le-suc h))

pub sum-longer : (p q : List Bool) → length q ≤ length (p ⊕ q)
unfolding ◌⊕◌
sum-longer [] q = le_refl (length q)
sum-longer (a ∷ p) [] = zero-le
sum-longer (a ∷ p) (b ∷ q) = suc-le-suc (sum-longer p q)

-- to complement is to add ones
pub complemented-sum : (n : ℕ) (p : List Bool) → n ≤ length p → complemented n p ≡ p ⊕ replicate n true
unfolding complemented ◌⊕◌
complemented-sum zero p h = sum_comm [] p
complemented-sum (suc n) [] h = absurd (not-suc-le-zero h)
complemented-sum (suc n) (a ∷ p) h = both (plus_comm true a) (complemented-sum n p (le_of_suc-le-suc h))
