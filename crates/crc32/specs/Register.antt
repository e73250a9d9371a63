-- The shift register: the remainder, as a number whose low bit is the leading coefficient, is found by feeding the message's
-- bits one after the other. What is left of the dividend is the rest of the message, with the register added at its front.
use Rattle.std.specs.Prelude.{◌≡◌, Bool, ℕ, ◌/◌, ◌%◌, ◌^◌, ◌<◌, eqb, length}
use Rattle.std.proofs.Math.Path.{refl, ap}
use Rattle.std.proofs.Common.{sym, ◌∙◌, zero-add, arith}
use Rattle.std.proofs.Math.Bool.{true, false, cond}
use mathlib.Core.List.{List, [], ◌∷◌, ◌++◌, tail}
use Rattle.std.specs.Int.Bits.{bit_xor, xor_lt}
use Rattle.std.proofs.Math.Dec.{lit<}
use Rattle.std.proofs.Math.ListN.{replicate}
use Rattle.std.proofs.Math.Pow.{high, low}
use Rattle.crc32.specs.Ieee8023.{plus_bit, ◌⊕◌, leading_bit, scaled, remainder, number}
use Rattle.crc32.specs.Sum.{both, plus_comm, sum-assoc, sum_comm}
use Rattle.crc32.specs.Numbers.{bit-lt, bit_test, number-sum, number-zeros, number-scaled}
use Rattle.crc32.specs.Shift.{register_turn, register_of}

-- ---- long division by the register

-- a turn is a step of the long division
turn-divides : (g t : List Bool) (c : Bool) → register_turn (number g) (number (c ∷ t)) ≡ number (t ⊕ scaled c g)
unfolding register_turn number
turn-divides g t c = rw (high (number t) 1 (bit-lt c), low (number t) 1 (bit-lt c), bit_test, number-sum, number-scaled)

-- a bit goes to the front of the register
front : (b : Bool) (p s : List Bool) → (b ∷ p) ⊕ s ≡ plus_bit b (leading_bit s) ∷ (p ⊕ tail s)
unfolding ◌⊕◌ leading_bit
front b p [] = both (plus_comm false b) (sum_comm [] p)
front b p (a ∷ s) = refl

module _ (g : List Bool) (n : ℕ) where
  -- the register s stands at the front of what is left of the message m and of the n zeros behind it
  pub finds-remainder : (m s : List Bool)
      → number (remainder (length m) (true ∷ g) ((m ++ replicate n false) ⊕ s)) ≡ register_of (number g) (number s) m
  unfolding remainder register_of ◌⊕◌ scaled leading_bit number
  finds-remainder [] s = number-sum (replicate n false) s ∙ ap (λ (x : ℕ). bit_xor x (number s)) (number-zeros n)
  finds-remainder (b ∷ m) s =
      let z = m ++ replicate n false in
      let c = plus_bit b (leading_bit s) in
      let step : tail ((b ∷ z) ⊕ s ⊕ scaled (leading_bit ((b ∷ z) ⊕ s)) (true ∷ g)) ≡ z ⊕ (tail s ⊕ scaled c g) =
      ap (λ (t : List Bool). tail (t ⊕ scaled (leading_bit t) (true ∷ g))) (front b z s) ∙ sum-assoc z (tail s) (scaled c g) in
      let fed : number (c ∷ tail s) ≡ bit_xor (cond b 1 0) (number s) =
      ap number (sym (front b [] s)) ∙ number-sum (b ∷ []) s ∙ ap (λ (x : ℕ). bit_xor x (number s)) (zero-add (cond b 1 0)) in
      ap (λ (p : List Bool). number (remainder (length m) (true ∷ g) p)) step
      ∙ finds-remainder m (tail s ⊕ scaled c g)
      ∙ ap (λ (x : ℕ). register_of (number g) x m) (sym (turn-divides g (tail s) c) ∙ ap (λ (x : ℕ). register_turn (number g) x) fed)

-- ---- the register goes on, and keeps its width

module _ (g : ℕ) where
  pub register-append : (p q : List Bool) (x : ℕ) → register_of g x (p ++ q) ≡ register_of g (register_of g x p) q
  unfolding register_of
  register-append [] q x = refl
  register-append (b ∷ p) q x = register-append p q (register_turn g (bit_xor (cond b 1 0) x))

  pub register-lt : g < 2 ^ 32 → (p : List Bool) (x : ℕ) → x < 2 ^ 32 → register_of g x p < 2 ^ 32
  unfolding register_of register_turn
  register-lt h [] x l = l
  register-lt h (b ∷ p) x l =
      let y = bit_xor (cond b 1 0) x in
      let fed : y < 2 ^ 32 = xor_lt 32 (cond b 1 0) x (omega (arith, bit-lt b)) l in
      register-lt h p (register_turn g y) (xor_lt 32 (y / 2) (cond (eqb (y % 2) 1) g 0) (omega arith) (added (eqb (y % 2) 1)))
    where
      added : (c : Bool) → cond c g 0 < 2 ^ 32
      added true = h
      added false = lit< tt
