-- Source numbers are signed and small: their sums and differences fit in 64 bits, and a clamp by tests is the clamp.
use Rattle.std.specs.Prelude.{◌≡◌, min, ℕ, zero, suc, ◌+◌, ◌-◌, ◌^◌, ◌<◌, ◌≤◌, Bool, true, false, cond, T, ℤ, pos, negsuc, ◌+ℤ◌, ◌-ℤ◌, neg_ℤ, FitsSigned, int_lt, nat_lt, unsigned_abs, ◌≤ℤ◌, ◌<ℤ◌, refl}
use Rattle.std.proofs.Common.{sym, subst, ◌∙◌, not-suc-le-zero, arith, ltb-true, ltb-false, le-ltb}
use Rattle.std.specs.Int.Signed.{mag, non_neg}
use Rattle.std.proofs.lemmas.Int.{ints}
use Rattle.std.specs.Int.{w64, FitsUnsignedBits}
use Rattle.resample_window.specs.Window.{clamp_of, numbers}

-- ---- sizes

between : (b : Bool) (x y : ℕ) → mag (cond b (negsuc (y - suc x)) (pos (x - y))) ≤ x + y
between true x y = omega arith
between false x y = omega arith

add-mag : (z w : ℤ) → mag (z +ℤ w) ≤ mag z + mag w + 1
add-mag (pos a) (pos b) = omega arith
add-mag (pos a) (negsuc b) = omega (arith, between (nat_lt a (suc b)) a (suc b))
add-mag (negsuc a) (pos b) = omega (arith, between (nat_lt b (suc a)) b (suc a))
add-mag (negsuc a) (negsuc b) = omega arith

neg-mag : (z : ℤ) → mag (neg_ℤ z) ≤ mag z + 1
neg-mag (pos zero) = omega arith
neg-mag (pos (suc n)) = omega arith
neg-mag (negsuc n) = omega arith

pub sum_fits : (z : ℤ) (n : ℕ) → mag z < 2 ^ 30 → n ≤ 2 ^ 32 → FitsSigned w64 (z +ℤ pos n)
sum_fits z n a b = record { sfits = omega (arith, add-mag z (pos n)) }

pub small-fits : (z : ℤ) → mag z < 2 ^ 30 → FitsSigned w64 z
small-fits z a = record { sfits = omega arith }

diff-mag : (a b : ℤ) → mag a < 2 ^ 30 → mag b < 2 ^ 30 → mag (b -ℤ a) < 2 ^ 32
diff-mag a b A B = omega (arith, add-mag b (neg_ℤ a), neg-mag a)

pub diff-fits : (a b : ℤ) → mag a < 2 ^ 30 → mag b < 2 ^ 30 → FitsSigned w64 (b -ℤ a)
diff-fits a b A B = record { sfits = omega (arith, diff-mag a b A B) }

-- ---- a difference that is not negative

level : (x y : ℕ) (t : Bool) → (nat_lt x y ≡ t) → nat_lt x y ≡ false → T (non_neg (cond t (negsuc (y - suc x)) (pos (x - y))))
level x y true e f = absurd (subst T (sym e ∙ f) tt)
level x y false e f = tt

not-below : (x y : ℕ) → nat_lt x y ≡ false → T (non_neg (cond (nat_lt x y) (negsuc (y - suc x)) (pos (x - y))))
not-below x y f = level x y (nat_lt x y) refl f

pub diff-sign : (a b : ℤ) → int_lt b a ≡ false → T (non_neg (b -ℤ a))
diff-sign (pos zero) (pos b) f = tt
diff-sign (pos (suc a)) (pos b) f = not-below b (suc a) f
diff-sign (pos a) (negsuc b) f = absurd (subst T f tt)
diff-sign (negsuc a) (pos b) f = tt
diff-sign (negsuc a) (negsuc b) f = not-below (suc a) (suc b) (le-ltb (suc a) (suc b) (omega (arith, ltb-false a b f)))

nat-mag : (z : ℤ) → unsigned_abs z ≤ mag z + 1
nat-mag (pos n) = omega arith
nat-mag (negsuc n) = omega arith

pub diff-size : (a b : ℤ) → mag a < 2 ^ 30 → mag b < 2 ^ 30 → unsigned_abs (b -ℤ a) ≤ 2 ^ 32
diff-size a b A B = omega (arith, diff-mag a b A B, nat-mag (b -ℤ a))

pub numbers-small : (a b : ℤ) → mag a < 2 ^ 30 → mag b < 2 ^ 30 → numbers a b ≤ 2 ^ 32 + 1
unfolding numbers
numbers-small a b A B = go (int_lt b a)
  where
    go : (t : Bool) → cond t 0 (suc (unsigned_abs (b -ℤ a))) ≤ 2 ^ 32 + 1
    go true = omega arith
    go false = omega (arith, diff-mag a b A B, nat-mag (b -ℤ a))

-- ---- the numbers from a to b

pos-abs : (z : ℤ) → T (non_neg z) → pos (unsigned_abs z) ≡ z
pos-abs (pos n) t = refl
pos-abs (negsuc n) t = absurd t

below : (a b : ℤ) → int_lt a b ≡ true → a <ℤ b
below a b e = record { lt = subst T (sym e) tt }

module _ (a b : ℤ) where
  -- number k of those from a on is one of them where k is below their count
  pub in-numbers : (k : ℕ) → k < numbers a b → (a +ℤ pos k) ≤ℤ b
  unfolding numbers
  in-numbers k h = go (int_lt b a) refl h
    where
      go : (t : Bool) → int_lt b a ≡ t → k < cond t 0 (suc (unsigned_abs (b -ℤ a))) → (a +ℤ pos k) ≤ℤ b
      go true e h = absurd (omega arith)
      go false e h = let p : pos (unsigned_abs (b -ℤ a)) ≡ b -ℤ a = pos-abs _ (diff-sign a b e) in omega (arith, ints)

  -- and only there
  pub numbers-in : (k : ℕ) → (a +ℤ pos k) ≤ℤ b → k < numbers a b
  unfolding numbers
  numbers-in k h = go (int_lt b a) refl
    where
      go : (t : Bool) → int_lt b a ≡ t → k < cond t 0 (suc (unsigned_abs (b -ℤ a)))
      go true e = let l : b <ℤ a = below b a e in absurd (omega (arith, ints))
      go false e = let p : pos (unsigned_abs (b -ℤ a)) ≡ b -ℤ a = pos-abs _ (diff-sign a b e) in omega (arith, ints)

  pub numbers-none : b <ℤ a → numbers a b ≡ 0
  numbers-none h = go (numbers a b) (λ k l. in-numbers k l)
    where
      go : (n : ℕ) → ((k : ℕ) → k < n → (a +ℤ pos k) ≤ℤ b) → n ≡ 0
      go zero f = refl
      go (suc n) f = let l : (a +ℤ pos 0) ≤ℤ b = f 0 (omega arith) in absurd (omega (arith, ints))

-- one more from a than from the number behind it
pub numbers-first : (a b : ℤ) → a ≤ℤ b → numbers a b ≡ suc (numbers (a +ℤ pos 1) b)
unfolding numbers
numbers-first a b h = go (int_lt b a) refl (int_lt b (a +ℤ pos 1)) refl
  where
    go : (s : Bool) → int_lt b a ≡ s → (t : Bool) → int_lt b (a +ℤ pos 1) ≡ t
        → cond s 0 (suc (unsigned_abs (b -ℤ a))) ≡ suc (cond t 0 (suc (unsigned_abs (b -ℤ (a +ℤ pos 1)))))
    go true e t f = let l : b <ℤ a = below b a e in absurd (omega (arith, ints))
    go false e true f =
        let p : pos (unsigned_abs (b -ℤ a)) ≡ b -ℤ a = pos-abs _ (diff-sign a b e) in
        let l : b <ℤ (a +ℤ pos 1) = below b (a +ℤ pos 1) f in
        omega (arith, ints)
    go false e false f =
        let p : pos (unsigned_abs (b -ℤ a)) ≡ b -ℤ a = pos-abs _ (diff-sign a b e) in
        let q : pos (unsigned_abs (b -ℤ (a +ℤ pos 1))) ≡ b -ℤ (a +ℤ pos 1) = pos-abs _ (diff-sign (a +ℤ pos 1) b f) in
        omega (arith, ints)

-- ---- a clamp

pub clamp-low : (z : ℤ) (n : ℕ) → int_lt z (pos 0) ≡ true → 0 ≡ clamp_of n z
unfolding clamp_of
clamp-low (pos k) n t = absurd (not-suc-le-zero (ltb-true k 0 t))
clamp-low (negsuc k) n t = refl

pub at-least-zero : (z : ℤ) → int_lt z (pos 0) ≡ false → T (non_neg z)
at-least-zero (pos k) f = tt
at-least-zero (negsuc k) f = absurd (subst T f tt)

pub clamp-inside : (z : ℤ) (n : ℕ) → int_lt z (pos 0) ≡ false → unsigned_abs z < n → unsigned_abs z ≡ clamp_of n z
unfolding clamp_of
clamp-inside (pos k) n f h = omega arith
clamp-inside (negsuc k) n f h = absurd (subst T f tt)

pub clamp-high : (z : ℤ) (n : ℕ) → int_lt z (pos 0) ≡ false → n ≤ unsigned_abs z → n - 1 ≡ clamp_of n z
unfolding clamp_of
clamp-high (pos k) n f h = omega arith
clamp-high (negsuc k) n f h = absurd (subst T f tt)

-- and by the library's conversion and minimum, which the code takes
pub clamp-negative : (z : ℤ) (n : ℕ) → FitsSigned w64 z → ¬ (FitsUnsignedBits 64 z) → 0 ≡ clamp_of n z
unfolding clamp_of
clamp-negative (pos k) n f h = absurd (h (omega arith))
clamp-negative (negsuc k) n f h = refl

pub clamp-min : (z : ℤ) (n : ℕ) → FitsUnsignedBits 64 z → min (unsigned_abs z) (n - 1) ≡ clamp_of n z
unfolding clamp_of
clamp-min (pos k) n h = refl
clamp-min (negsuc k) n h = absurd h

pub clamp-below : (z : ℤ) (n : ℕ) → 0 < n → clamp_of n z < n
unfolding clamp_of
clamp-below (pos k) n h = omega arith
clamp-below (negsuc k) n h = h
