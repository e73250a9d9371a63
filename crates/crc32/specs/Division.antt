-- Long division gives THE remainder: the dividend is quotient times divisor plus remainder, and whatever quotient and
-- remainder a dividend is made of, the division finds that remainder.
use Rattle.std.specs.Prelude.{◌≡◌, Bool, true, ◌&&◌}
use Rattle.std.proofs.Math.Path.{refl, ap}
use Rattle.std.proofs.Common.{ap₂, ◌∙◌, arith}
use Rattle.std.proofs.Math.Bool.{false}
use mathlib.Core.List.{List, [], ◌∷◌, ◌++◌}
use Prim.Native.Nat.{ℕ, zero, suc, ◌+◌, ◌≤◌}
use Rattle.std.proofs.Math.Nat.{zero-add}
use Rattle.std.proofs.Math.ListN.{length, replicate, length-append}
use Rattle.std.proofs.lemmas.List.{length-map}
use Rattle.crc32.specs.Ieee8023.{plus_bit, ◌⊕◌, leading_bit, scaled, remainder}
use Rattle.crc32.specs.Sum.{both, sum-assoc, sum_comm, sum_twice, length-plus, sum-longer}
use Rattle.crc32.specs.Quotient.{times, quotient}

length-scaled : (c : Bool) (g : List Bool) → length (scaled c g) ≡ length g
unfolding scaled
length-scaled c g = length-map g (λ b. c && b)

-- the leading coefficient of a product
leading : (a : Bool) → plus_bit (plus_bit (a && true) false) false ≡ a
leading false = refl
leading true = refl

-- a divisor of degree `length g`
module _ (g : List Bool) where
  pub length-remainder : (n : ℕ) (p : List Bool) → n + length g ≤ length p → n + length (remainder n (true ∷ g) p) ≡ length p
  unfolding remainder ◌⊕◌ leading_bit scaled
  length-remainder zero p h = zero-add (length p)
  length-remainder (suc n) [] h = absurd (omega arith)
  length-remainder (suc n) (a ∷ p) h =
      let e : length (p ⊕ scaled a g) ≡ length p = length-plus p (scaled a g) (omega (arith, length-scaled a g)) in
      omega (arith, length-remainder n (p ⊕ scaled a g) (omega (arith, e)), e)

  pub remainder-exists : (n : ℕ) (p : List Bool) → n + length g ≤ length p
      → times (quotient n (true ∷ g) p) (true ∷ g) ⊕ (replicate n false ++ remainder n (true ∷ g) p) ≡ p
  unfolding times quotient remainder ◌⊕◌ leading_bit scaled
  remainder-exists zero p h = refl
  remainder-exists (suc n) [] h = absurd (omega arith)
  remainder-exists (suc n) (a ∷ p) h =
      let s = scaled a g in
      let short : length s ≤ length p = omega (arith, length-scaled a g) in
      let more : n + length g ≤ length (p ⊕ s) = omega (arith, length-plus p s short) in
      both (leading a)
      (sum-assoc s (times (quotient n (true ∷ g) (p ⊕ s)) (true ∷ g)) (replicate n false ++ remainder n (true ∷ g) (p ⊕ s))
      ∙ ap (λ (t : List Bool). s ⊕ t) (remainder-exists n (p ⊕ s) more)
      ∙ sum_comm s (p ⊕ s)
      ∙ sum_twice p s short)

  pub remainder-unique : (q r : List Bool) → length r ≡ length g
      → remainder (length q) (true ∷ g) (times q (true ∷ g) ⊕ (replicate (length q) false ++ r)) ≡ r
  unfolding times remainder ◌⊕◌ leading_bit scaled
  remainder-unique [] r h = refl
  remainder-unique (c ∷ q) r h =
      let s = scaled c g in
      let t = times q (true ∷ g) in
      let z = replicate (length q) false ++ r in
      let long : length s ≤ length (t ⊕ z) = omega (arith, length-scaled c g, length-append (replicate (length q) false) r, sum-longer t z) in
      ap (remainder (length q) (true ∷ g))
      (ap₂ (λ (y : List Bool) (b : Bool). y ⊕ scaled b g) (sum-assoc s t z ∙ sum_comm s (t ⊕ z)) (leading c)
      ∙ sum_twice (t ⊕ z) s long)
      ∙ remainder-unique q r h
