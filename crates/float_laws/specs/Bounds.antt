-- Bounds on sizes: an operation whose exact result is at most a / c in size gives a value that is, where the format holds a /
-- c, since rounding keeps the order.
-- Generic over the format.
use Rattle.std.specs.Prelude.{◌≡◌, Bool, true, false, ◌&&◌, cond, ℤ, T, ltb, eqb, Float}
use Rattle.std.proofs.Common.{sym, ap, ◌∙◌, subst, inl, inr, arith, eqb→eq, pow_pos}
use Rattle.std.specs.Bool.{beq}
use Prim.Native.Nat.{ℕ, zero, suc, ◌+◌, ◌-◌, ◌*◌, ◌/◌, ◌^◌, ◌≤◌, ◌<◌}
use native.Mathlib.Nat.{le_refl, le_trans, le_of_eq, lt_irrefl, zero-mul, mul_comm, mul_assoc, mul_right_comm, mul_left_comm, mul-mul-mul_comm}
use native.Mathlib.Nat.{add-mul, mul-pos, mul-le-mul, mul-le-mul_right, le_of_mul-le-mul_right, add_assoc, add_comm, add-zero, suc-mul, one-mul}
use native.Mathlib.Nat.{div-lt_iff_lt-mul, eq-zero-or-pos}
use Rattle.std.specs.Float.{nan, inf, fin, Format}
use Rattle.std.specs.Float.Ieee.{prec, low, unlike, up, down, round, neg, sum, add, sub, mul, div, le}
use Rattle.std.specs.Float.Ieee.Fits.{down_pos, up_pos}
use Rattle.std.specs.Float.Ieee.Exact.{HasValue}
use Rattle.std.specs.Float.Ieee.Order.{round_mono}
use Rattle.std.specs.Float.Ieee.Scale.{grid, finite}
use Rattle.seq.specs.Lists.{sum_to}
use Rattle.float.specs.Fraction.{value-scale, at_most}
use Rattle.float.specs.Rounding.{neg-round, exact-at, round-shape, inf-not-le}
use Rattle.float.specs.Calls.{round_away, half_away}
use Rattle.float_laws.specs.Values.{Within, Holds}

-- ---- which fractions a format holds

pub holds-scaled : (f : Format) (n l : ℕ) → l ≤ low f → n ≤ 2 ^ prec f → Holds f n (2 ^ l)
holds-scaled f n l L h = exact-at f false n l L h

pub holds-whole : (f : Format) (n : ℕ) → n ≤ 2 ^ prec f → Holds f n 1
holds-whole f n h = exact-at f false n 0 Prim.Native.Nat.zero-le h

-- ---- from a value's fraction to a bound, and from one bound to a larger one

pub value-within : (x : Float) (s : Bool) (g l a c : ℕ) → 0 < l → HasValue x s g l → g * c ≤ a * l → Within x a c
value-within nan s g l a c L h k = h
value-within (inf t) s g l a c L h k = h
value-within (fin t m e) s g l a c L h k =
    le_of_mul-le-mul_right
    (le_trans (le_of_eq (mul_right_comm (m * up e) c l ∙ ap (λ (z : ℕ). z * c) h.1 ∙ mul_right_comm g (down e) c))
    (le_trans (mul-le-mul_right (down e) k) (le_of_eq (mul_right_comm a l (down e)))))
    L

pub within_more : (x : Float) (a c b d : ℕ) → 0 < c → Within x a c → a * d ≤ b * c → Within x b d
within_more nan a c b d C h k = h
within_more (inf t) a c b d C h k = h
within_more (fin t m e) a c b d C h k =
    le_of_mul-le-mul_right
    (le_trans (le_of_eq (mul_right_comm (m * up e) d c))
    (le_trans (mul-le-mul_right d h)
    (le_trans (le_of_eq (mul_right_comm a (down e) d))
    (le_trans (mul-le-mul_right (down e) k) (le_of_eq (mul_right_comm b c (down e)))))))
    C

pub within-neg : (x : Float) (a c : ℕ) → Within x a c → Within (neg x) a c
unfolding neg
within-neg nan a c h = h
within-neg (inf s) a c h = h
within-neg (fin s m e) a c h = h

pub within-finite : (x : Float) (a c : ℕ) → Within x a c → T (finite x)
within-finite nan a c h = h
within-finite (inf s) a c h = h
within-finite (fin s m e) a c h = tt

-- ---- monotone rounding

-- x and y, as fractions g / l and a / c
le-values : (x y : Float) (g l a c : ℕ) → 0 < l → 0 < c → HasValue x false g l → HasValue y false a c → T (le x y) → g * c ≤ a * l
le-values x y g l a c L C h k t =
    at_most x y (g * c) (a * l) (l * c) (mul-pos L C) (value-scale x false g l c h)
    (subst (λ (z : ℕ). HasValue y false (a * l) z) (mul_comm c l) (value-scale y false a c l k)) t

rounded-false : (f : Format) (n d a c : ℕ) → 0 < d → 0 < c → Holds f a c → n * c ≤ a * d → Within (round f false n d) a c
rounded-false f n d a c D C H h =
    let t : T (le (round f false n d) (round f false a c)) = round_mono f n d a c D C h in
    elim (round-shape f false n d) [
      | inl e ↦ absurd (inf-not-le (round f false a c) a c H (subst (λ (z : Float). T (le z (round f false a c))) e t))
      | inr v ↦ value-within (round f false n d) false (grid f n d) (2 ^ low f) a c (pow_pos (low f)) v
          (le-values (round f false n d) (round f false a c) (grid f n d) (2 ^ low f) a c (pow_pos (low f)) C v H t)
    ]

pub round-within : (f : Format) (s : Bool) (n d a c : ℕ) → 0 < d → 0 < c → Holds f a c → n * c ≤ a * d → Within (round f s n d) a c
round-within f false n d a c D C H h = rounded-false f n d a c D C H h
round-within f true n d a c D C H h =
    subst (λ (z : Float). Within z a c) (neg-round f false n d) (within-neg (round f false n d) a c (rounded-false f n d a c D C H h))

-- ---- the operations

less-part : (A B C a b c : ℕ) → A * c ≤ a * C → (A - B) * c ≤ (a + b) * C
less-part A B C a b c h = le_trans (mul-le-mul_right c (sub-le A B)) (le_trans h (mul-le-mul_right C (native.Mathlib.Nat.le-add_right a b)))
  where
    sub-le : (x y : ℕ) → x - y ≤ x
    sub-le x y = omega arith

sum-within : (f : Format) (s : Bool) (A : ℕ) (t : Bool) (B C a b c : ℕ) → 0 < C → 0 < c → Holds f (a + b) c → A * c ≤ a * C → B * c ≤ b * C
    → Within (sum f s A t B C) (a + b) c
unfolding sum
sum-within f s A t B C a b c D d H h k = go (beq s t) (ltb A B)
  where
    both : (A + B) * c ≤ (a + b) * C
    both = le_trans (le_of_eq (add-mul A B c)) (le_trans (native.Mathlib.Nat.add-le-add h k) (le_of_eq (sym (add-mul a b C))))

    go : (p q : Bool) → Within (cond p (round f s (A + B) C) (cond q (round f t (B - A) C) (round f (s && ltb B A) (A - B) C))) (a + b) c
    go true q = round-within f s (A + B) C (a + b) c D d H both
    go false true = round-within f t (B - A) C (a + b) c D d H (le_trans (less-part B A C b a c k) (le_of_eq (ap (λ (z : ℕ). z * C) (add_comm b a))))
    go false false = round-within f (s && ltb B A) (A - B) C (a + b) c D d H (less-part A B C a b c h)

pub add-within : (f : Format) (x y : Float) (a b c : ℕ) → 0 < c → Holds f (a + b) c → Within x a c → Within y b c → Within (add f x y) (a + b) c
unfolding add
add-within f nan y a b c C H h k = absurd h
add-within f (inf s) y a b c C H h k = absurd h
add-within f (fin s m e) nan a b c C H h k = absurd k
add-within f (fin s m e) (inf t) a b c C H h k = absurd k
add-within f (fin s m e) (fin t n d) a b c C H h k =
    sum-within f s (m * up e * down d) t (n * up d * down e) (down e * down d) a b c (mul-pos (down_pos e) (down_pos d)) C H
    (le_trans (le_of_eq (mul_right_comm (m * up e) (down d) c)) (le_trans (mul-le-mul_right (down d) h) (le_of_eq (mul_assoc a (down e) (down d)))))
    (le_trans (le_of_eq (mul_right_comm (n * up d) (down e) c))
    (le_trans (mul-le-mul_right (down e) k) (le_of_eq (mul_assoc b (down d) (down e) ∙ ap (λ (z : ℕ). b * z) (mul_comm (down d) (down e))))))

pub sub_within : (f : Format) (x y : Float) (a b c : ℕ) → 0 < c → Holds f (a + b) c → Within x a c → Within y b c → Within (sub f x y) (a + b) c
unfolding sub
sub_within f x y a b c C H h k = add-within f x (neg y) a b c C H h (within-neg y b c k)

pub mul-within : (f : Format) (x y : Float) (a c b d : ℕ) → 0 < c → 0 < d → Holds f (a * b) (c * d) → Within x a c → Within y b d
    → Within (mul f x y) (a * b) (c * d)
unfolding mul
mul-within f nan y a c b d C D H h k = absurd h
mul-within f (inf s) y a c b d C D H h k = absurd h
mul-within f (fin s m e) nan a c b d C D H h k = absurd k
mul-within f (fin s m e) (inf t) a c b d C D H h k = absurd k
mul-within f (fin s m e) (fin t n g) a c b d C D H h k =
    round-within f (unlike s t) (m * up e * (n * up g)) (down e * down g) (a * b) (c * d) (mul-pos (down_pos e) (down_pos g)) (mul-pos C D) H
    (le_trans (le_of_eq (mul-mul-mul_comm (m * up e) (n * up g) c d)) (le_trans (mul-le-mul h k) (le_of_eq (mul-mul-mul_comm a (down e) b (down g)))))

-- the divisor is b / d
div-bound : (M N E G a c b d : ℕ) → M * c ≤ a * E → N * d ≡ b * G → M * G * (c * b) ≤ a * d * (N * E)
div-bound M N E G a c b d h k =
    le_trans (le_of_eq (mul-mul-mul_comm M G c b ∙ ap (λ (z : ℕ). M * c * z) (mul_comm G b ∙ sym k)))
    (le_trans (mul-le-mul_right (N * d) h)
    (le_of_eq (simp (mul_assoc, mul_comm, mul_left_comm))))

nonzero : (n : ℕ) (g : ℤ) (b d : ℕ) → 0 < b → n * up g * d ≡ b * down g → n ≡ 0 → ⊥
nonzero n g b d B h z =
    lt_irrefl 0 (subst (λ (w : ℕ). 0 < w) (sym h ∙ ap (λ (w : ℕ). w * up g * d) z ∙ ap (λ (w : ℕ). w * d) (zero-mul (up g)) ∙ zero-mul d)
    (mul-pos B (down_pos g)))

pub div-within : (f : Format) (x y : Float) (t : Bool) (a c b d : ℕ) → 0 < c → 0 < b → 0 < d → Holds f (a * d) (c * b) → Within x a c → HasValue y t b d
    → Within (div f x y) (a * d) (c * b)
unfolding div
div-within f nan y t a c b d C B D H h k = absurd h
div-within f (inf s) y t a c b d C B D H h k = absurd h
div-within f (fin s m e) nan t a c b d C B D H h k = absurd k
div-within f (fin s m e) (inf u) t a c b d C B D H h k = absurd k
div-within f (fin s m e) (fin u n g) t a c b d C B D H h k = go (eqb n 0) (eqb→eq n 0)
  where
    n_pos : 0 < n
    n_pos = elim (eq-zero-or-pos n) [ inl z ↦ absurd (nonzero n g b d B k.1 z) | inr p ↦ p ]

    go : (q : Bool) → (T q → n ≡ 0)
        → Within (cond q (cond (eqb m 0) nan (inf (unlike s u))) (round f (unlike s u) (m * up e * down g) (n * up g * down e))) (a * d) (c * b)
    go true z = absurd (nonzero n g b d B k.1 (z tt))
    go false z =
        round-within f (unlike s u) (m * up e * down g) (n * up g * down e) (a * d) (c * b) (mul-pos (mul-pos n_pos (up_pos g)) (down_pos e)) (mul-pos C B) H
        (div-bound (m * up e) (n * up g) (down e) (down g) a c b d h k.1)

-- ---- rounding to a whole number

half-away-at-most : (a c n : ℕ) → 0 < c → a * 1 ≤ n * c → half_away a c ≤ n
half-away-at-most a c n C h =
    let e : (n + 1) * (c * 2) ≡ n * c * 2 + c * 2 =
    add-mul n 1 (c * 2) ∙ (ap (λ (z : ℕ). n * (c * 2) + z) (one-mul (c * 2)) ∙ ap (λ (z : ℕ). z + c * 2) (sym (mul_assoc n c 2))) in
    let twice : 0 < c * 2 = omega arith in
    let below : a * 2 + c < (n + 1) * (c * 2) = omega arith in
    let l : (a * 2 + c) / (c * 2) < n + 1 = (div-lt_iff_lt-mul twice).1 below in
    omega arith

pub round_away-within : (f : Format) (x : Float) (n : ℕ) → Holds f n 1 → Within x n 1 → Within (round_away f x) n 1
unfolding round_away
round_away-within f nan n H h = h
round_away-within f (inf s) n H h = h
round_away-within f (fin s m e) n H h =
    round-within f s (half_away (m * up e) (down e)) 1 n 1 (native.Mathlib.Nat.zero-lt-suc 0) (native.Mathlib.Nat.zero-lt-suc 0) H
    (mul-le-mul_right 1 (half-away-at-most (m * up e) (down e) n (down_pos e) h))

-- ---- sums of many, in index order

next : (b n a : ℕ) → b + n * a + a ≡ b + suc n * a
next b n a = add_assoc b (n * a) a ∙ ap (λ (z : ℕ). b + z) (sym (suc-mul n a))

pub sum-to-within : (f : Format) (z : Float) (g : ℕ → Float) (n a b c : ℕ) → 0 < c → ((i : ℕ) → i ≤ n → Holds f (b + i * a) c) → Within z b c
    → ((i : ℕ) → i < n → Within (g i) a c)
    → Within (sum_to (add f) z n g) (b + n * a) c
unfolding sum_to
sum-to-within f z g zero a b c C H h k = subst (λ (w : ℕ). Within z w c) (sym (ap (λ (w : ℕ). b + w) (zero-mul a) ∙ add-zero b)) h
sum-to-within f z g (suc n) a b c C H h k =
    subst (λ (w : ℕ). Within (add f (sum_to (add f) z n g) (g n)) w c) (next b n a)
    (add-within f (sum_to (add f) z n g) (g n) (b + n * a) a c C (subst (λ (w : ℕ). Holds f w c) (sym (next b n a)) (H (suc n) (le_refl (suc n))))
    (sum-to-within f z g n a b c C (λ i l. H i (step i n l)) h (λ i l. k i (step (suc i) n l))) (k n (le_refl (suc n))))
  where
    step : (i n : ℕ) → i ≤ n → i ≤ suc n
    step i n l = omega arith
