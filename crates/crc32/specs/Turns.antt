-- Many bits at a time: a turn is linear over exclusive or, so bits may be added to the register all at once, and what the
-- turns make of a register is the sum of what they make of its parts.
use Rattle.std.specs.Prelude.{◌≡◌, Bool, eqb, length}
use Rattle.std.proofs.Math.Path.{refl, ap, ap₂}
use Rattle.std.proofs.Common.{sym, ◌∙◌, mod-lt, pow-suc, mul-div_cancel, arith, lit<, pow_pos}
use Rattle.std.proofs.Math.Bool.{cond}
use mathlib.Core.List.{List, [], ◌∷◌}
use Prim.Native.Nat.{ℕ, zero, suc, ◌+◌, ◌*◌, ◌/◌, ◌%◌, ◌^◌, ◌<◌}
use Rattle.std.proofs.Math.Nat.{suc-add, zero-add, mul-one, mul_assoc, mul-mod_left}
use Rattle.std.specs.Int.Bits.{bit_xor, xor_self, xor_zero_r, xor_shifted}
use Rattle.std.proofs.lemmas.Nat.{xor_comm, xor_shr, xor_mod}
use Rattle.std.proofs.Math.Pow.{split}
use Rattle.crc32.specs.Ieee8023.{number}
use Rattle.crc32.specs.Numbers.{bit-lt, xor_assoc}
use Rattle.crc32.specs.Shift.{register_turn, register_of, register_turns}

-- the order of four summands
xor-middle : (a b c d : ℕ) → bit_xor (bit_xor a b) (bit_xor c d) ≡ bit_xor (bit_xor a c) (bit_xor b d)
xor-middle a b c d = cc (xor_assoc a b (bit_xor c d), xor_assoc a c (bit_xor b d), xor_assoc b c d, xor_assoc c b d, xor_comm b c)

module _ (g : ℕ) where
  turns-add : (j k y : ℕ) → register_turns g (j + k) y ≡ register_turns g k (register_turns g j y)
  unfolding register_turns
  turns-add zero k y = rw zero-add
  turns-add (suc j) k y = rw suc-add (turns-add j k (register_turn g y))

  -- what two bits that fall out have added
  added : (x y : ℕ) → x < 2 → y < 2 → cond (eqb (bit_xor x y) 1) g 0 ≡ bit_xor (cond (eqb x 1) g 0) (cond (eqb y 1) g 0)
  added zero y h l = refl
  added (suc zero) zero h l = sym (xor_zero_r g)
  added (suc zero) (suc zero) h l = sym (xor_self g)
  added (suc zero) (suc (suc y)) h l = absurd (omega arith)
  added (suc (suc x)) y h l = absurd (omega arith)

  -- a turn of a sum is the sum of the turns
  linear : (a b : ℕ) → register_turn g (bit_xor a b) ≡ bit_xor (register_turn g a) (register_turn g b)
  unfolding register_turn
  linear a b =
      ap₂ bit_xor (xor_shr a b 1)
      (ap (λ (x : ℕ). cond (eqb x 1) g 0) (xor_mod a b 1) ∙ added (a % 2) (b % 2) (mod-lt a (lit< tt)) (mod-lt b (lit< tt)))
      ∙ xor-middle (a / 2) (b / 2) (cond (eqb (a % 2) 1) g 0) (cond (eqb (b % 2) 1) g 0)

  turns-linear : (k a b : ℕ) → register_turns g k (bit_xor a b) ≡ bit_xor (register_turns g k a) (register_turns g k b)
  unfolding register_turns
  turns-linear zero a b = refl
  turns-linear (suc k) a b = ap (register_turns g k) (linear a b) ∙ turns-linear k (register_turn g a) (register_turn g b)

  -- zeros that fall out add nothing
  turn-zero : (a : ℕ) → register_turn g (a * 2) ≡ a
  unfolding register_turn
  turn-zero a = rw (mul-div_cancel a (lit< tt), mul-mod_left a 2) (xor_zero_r a)

  turns-zeros : (k a : ℕ) → register_turns g k (a * 2 ^ k) ≡ a
  unfolding register_turns
  turns-zeros zero a = mul-one a
  turns-zeros (suc k) a = rw (pow-suc, ← mul_assoc, turn-zero) (turns-zeros k a)

  -- bits fed one after the other are as if added all at once
  pub at_once : (p : List Bool) (x : ℕ) → register_of g x p ≡ register_turns g (length p) (bit_xor (number p) x)
  unfolding register_of number register_turns
  at_once [] x = refl
  at_once (b ∷ p) x =
      let y = bit_xor (cond b 1 0) x in
      let all : bit_xor (number p * 2 + cond b 1 0) x ≡ bit_xor (number p * 2) y =
      rw (← xor_shifted (number p) 1 (cond b 1 0) (bit-lt b)) (xor_assoc (number p * 2) (cond b 1 0) x) in
      at_once p (register_turn g y) ∙ ap (register_turns g (length p)) (rw (all, linear (number p * 2) y, turn-zero))

  -- the j low bits of a register, and the rest of it, turn apart
  pub turns-apart : (j k y : ℕ) → register_turns g (j + k) y ≡ bit_xor (register_turns g (j + k) (y % 2 ^ j)) (register_turns g k (y / 2 ^ j))
  turns-apart j k y =
      let low = y % 2 ^ j in
      let high = y / 2 ^ j * 2 ^ j in
      ap (register_turns g (j + k)) (sym (xor_shifted (y / 2 ^ j) j low (mod-lt y (pow_pos j)) ∙ split y j) ∙ xor_comm high low)
      ∙ turns-linear (j + k) low high
      ∙ ap (bit_xor (register_turns g (j + k) low)) (turns-add j k high ∙ ap (register_turns g k) (turns-zeros j (y / 2 ^ j)))
