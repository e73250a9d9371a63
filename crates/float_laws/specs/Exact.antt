-- Values that denote z / c exactly. Where every value is a multiple of 1 / 2 ^ l and none exceeds 2 ^ prec of them, a float
-- addition, negation and comparison are those of whole numbers.
-- Generic over the format.
use Rattle.std.specs.Prelude.{◌≡◌, refl, Bool, true, false, not, ◌&&◌, cond, ℕ, zero, suc, ◌+◌, ◌-◌, ◌^◌, ◌≤◌, ◌<◌, ℤ, pos, negsuc, neg_ℤ, nat_abs, ◌+ℤ◌, T, ltb, Float}
use Rattle.std.proofs.Common.{sym, ap, ◌∙◌, subst, arith, ltb→lt, nltb→le, lt→ltb, pow_pos}
use Rattle.std.proofs.Math.IntN.{neg_ℤ-neg_ℤ, neg_ℤ-+ℤ, +ℤ_comm}
use Rattle.std.specs.Int.Signed.{lt_z}
use Rattle.std.specs.Float.{nan, inf, fin, Format}
use Rattle.std.specs.Float.Ieee.{prec, low, round, neg, sum, add, below, lt, fits}
use Rattle.std.specs.Float.Ieee.Exact.{HasValue}
use Rattle.float.specs.Fraction.{add_at, neg_value, lt_at, bool_iff}
use Rattle.std.specs.Float.Ieee.Scale.{finite}
use Rattle.float.specs.Rounding.{held, exact-at}
use Rattle.float.specs.Units.{in_units, units_of}
use Rattle.float_laws.specs.Values.{signed, Is}

pub abs_neg : (a : ℕ) → nat_abs (neg_ℤ (pos a)) ≡ a
abs_neg zero = refl
abs_neg (suc a) = refl

pub abs-signed : (s : Bool) (a : ℕ) → nat_abs (signed s a) ≡ a
abs-signed true a = abs_neg a
abs-signed false a = refl

-- ---- negation

pub is-neg : {c : ℕ} {x : Float} {z : ℤ} → Is c x z → Is c (neg x) (neg_ℤ z)
is-neg {c} {x} {z} h =
    record { sign = not h.sign; size = h.size; value = neg_value x h.sign h.size c h.value; whole = go h.sign h.size ∙ ap neg_ℤ h.whole }
  where
    go : (s : Bool) (a : ℕ) → signed (not s) a ≡ neg_ℤ (signed s a)
    go true a = sym (neg_ℤ-neg_ℤ (pos a))
    go false a = refl

-- ---- addition

made : (f : Format) (s : Bool) (n l : ℕ) (z : ℤ) → l ≤ low f → signed s n ≡ z → nat_abs z ≤ 2 ^ prec f → Is (2 ^ l) (round f s n (2 ^ l)) z
made f s n l z L e h =
    record { sign = s; size = n; value = exact-at f s n l L (subst (λ (k : ℕ). k ≤ 2 ^ prec f) (ap nat_abs (sym e) ∙ abs-signed s n) h); whole = e }

succ-off : (a b : ℕ) → a < b → b - a ≡ suc (b - suc a)
succ-off a b h = omega arith

pub pos-neg : (a b : ℕ) → pos a +ℤ neg_ℤ (pos b) ≡ cond (ltb a b) (neg_ℤ (pos (b - a))) (pos (a - b))
pos-neg a zero = go (ltb a 0) (ltb→lt a 0)
  where
    go : (t : Bool) → (T t → a < 0) → pos (a + 0) ≡ cond t (neg_ℤ (pos (0 - a))) (pos (a - 0))
    go true k = absurd (let z : a < 0 = k tt in omega arith)
    go false k = ap pos (let z : a + 0 ≡ a - 0 = omega arith in z)
pos-neg a (suc b) = go (ltb a (suc b)) (ltb→lt a (suc b))
  where
    go : (t : Bool) → (T t → a < suc b) → cond t (negsuc (suc b - suc a)) (pos (a - suc b)) ≡ cond t (neg_ℤ (pos (suc b - a))) (pos (a - suc b))
    go true k = sym (ap (λ (z : ℕ). neg_ℤ (pos z)) (succ-off a (suc b) (k tt)))
    go false k = refl

sum_is : (f : Format) (l : ℕ) (s : Bool) (a : ℕ) (t : Bool) (b : ℕ) → l ≤ low f → nat_abs (signed s a +ℤ signed t b) ≤ 2 ^ prec f
    → Is (2 ^ l) (sum f s a t b (2 ^ l)) (signed s a +ℤ signed t b)
unfolding sum
sum_is f l false a false b L h = made f false (a + b) l (pos (a + b)) L refl h
sum_is f l true a true b L h = made f true (a + b) l (neg_ℤ (pos a) +ℤ neg_ℤ (pos b)) L (neg_ℤ-+ℤ (pos a) (pos b)) h
sum_is f l false a true b L h = go (ltb a b) (pos-neg a b)
  where
    go : (t : Bool) → pos a +ℤ neg_ℤ (pos b) ≡ cond t (neg_ℤ (pos (b - a))) (pos (a - b))
        → Is (2 ^ l) (cond t (round f true (b - a) (2 ^ l)) (round f false (a - b) (2 ^ l))) (pos a +ℤ neg_ℤ (pos b))
    go true e = made f true (b - a) l (pos a +ℤ neg_ℤ (pos b)) L (sym e) h
    go false e = made f false (a - b) l (pos a +ℤ neg_ℤ (pos b)) L (sym e) h
sum_is f l true a false b L h = go (ltb a b) (ltb b a) (ltb→lt a b) (ltb→lt b a) (nltb→le a b) (nltb→le b a) (+ℤ_comm (neg_ℤ (pos a)) (pos b) ∙ pos-neg b a)
  where
    go : (t u : Bool) → (T t → a < b) → (T u → b < a) → (T (not t) → b ≤ a) → (T (not u) → a ≤ b)
        → neg_ℤ (pos a) +ℤ pos b ≡ cond u (neg_ℤ (pos (a - b))) (pos (b - a))
        → Is (2 ^ l) (cond t (round f false (b - a) (2 ^ l)) (round f (true && u) (a - b) (2 ^ l))) (neg_ℤ (pos a) +ℤ pos b)
    go true true p q p' q' e = absurd (let x : a < b = p tt in let y : b < a = q tt in omega arith)
    go true false p q p' q' e = made f false (b - a) l (neg_ℤ (pos a) +ℤ pos b) L (sym e) h
    go false true p q p' q' e = made f true (a - b) l (neg_ℤ (pos a) +ℤ pos b) L (sym e) h
    go false false p q p' q' e =
        made f false (a - b) l (neg_ℤ (pos a) +ℤ pos b) L
        (ap pos (let x : b ≤ a = p' tt in let y : a ≤ b = q' tt in let k : a - b ≡ b - a = omega arith in k) ∙ sym e) h

pub is-add : (f : Format) (l : ℕ) {x y : Float} {z w : ℤ} → l ≤ low f → Is (2 ^ l) x z → Is (2 ^ l) y w → nat_abs (z +ℤ w) ≤ 2 ^ prec f
    → Is (2 ^ l) (add f x y) (z +ℤ w)
is-add f l {x} {y} {z} {w} L h k b =
    let e : signed h.sign h.size +ℤ signed k.sign k.size ≡ z +ℤ w =
    ap (λ (v : ℤ). v +ℤ signed k.sign k.size) h.whole ∙ ap (λ (v : ℤ). z +ℤ v) k.whole in
    subst (λ (v : Float). Is (2 ^ l) v (z +ℤ w)) (sym (add_at f x y h.sign k.sign h.size k.size (2 ^ l) (pow_pos l) h.value k.value))
    (subst (λ (v : ℤ). Is (2 ^ l) (sum f h.sign h.size k.sign k.size (2 ^ l)) v) e
    (sum_is f l h.sign h.size k.sign k.size L (subst (λ (v : ℤ). nat_abs v ≤ 2 ^ prec f) (sym e) b)))

-- ---- comparison

both_zero : (a b : ℕ) → ltb 0 (a + b) ≡ lt_z (neg_ℤ (pos a)) (pos b)
both_zero zero b = ap (λ (k : ℕ). ltb 0 k) (let e : 0 + b ≡ b = omega arith in e)
both_zero (suc a) b = bool_iff (ltb 0 (suc a + b)) true (λ t. tt) (λ t. lt→ltb 0 (suc a + b) (omega arith))

neg_right : (a b : ℕ) → false ≡ lt_z (pos a) (neg_ℤ (pos b))
neg_right a zero = bool_iff false (ltb a 0) (λ t. absurd t) (λ t. let z : a < 0 = ltb→lt a 0 t in absurd (omega arith))
neg_right a (suc b) = refl

neg-both : (a b : ℕ) → ltb b a ≡ lt_z (neg_ℤ (pos a)) (neg_ℤ (pos b))
neg-both zero zero = refl
neg-both zero (suc b) = bool_iff (ltb (suc b) 0) false (λ t. let z : suc b < 0 = ltb→lt (suc b) 0 t in absurd (omega arith)) (λ t. absurd t)
neg-both (suc a) zero = bool_iff (ltb 0 (suc a)) true (λ t. tt) (λ t. lt→ltb 0 (suc a) (omega arith))
neg-both (suc a) (suc b) =
    bool_iff (ltb (suc b) (suc a)) (ltb b a) (λ t. let z : suc b < suc a = ltb→lt (suc b) (suc a) t in
    lt→ltb b a (omega arith)) (λ t. let z : b < a = ltb→lt b a t in lt→ltb (suc b) (suc a) (omega arith))

below-is : (s : Bool) (a : ℕ) (t : Bool) (b : ℕ) → below s a t b ≡ lt_z (signed s a) (signed t b)
below-is false a false b = refl
below-is false a true b = neg_right a b
below-is true a false b = both_zero a b
below-is true a true b = neg-both a b

pub is_lt : {c : ℕ} {x y : Float} {z w : ℤ} → 0 < c → Is c x z → Is c y w → lt x y ≡ lt_z z w
is_lt {c} {x} {y} {z} {w} C h k =
    lt_at x y h.sign k.sign h.size k.size c C h.value k.value
    ∙ below-is h.sign h.size k.sign k.size
    ∙ ap (λ (v : ℤ). lt_z v (signed k.sign k.size)) h.whole
    ∙ ap (λ (v : ℤ). lt_z z v) k.whole

-- ---- minus infinity: below every such value, and unchanged by adding one

pub inf-add : (f : Format) {c : ℕ} {y : Float} {w : ℤ} (s : Bool) → Is c y w → add f (inf s) y ≡ inf s
unfolding add
inf-add f {c} {y} {w} s h = go y h.value
  where
    go : (v : Float) → HasValue v h.sign h.size c → add f (inf s) v ≡ inf s
    go nan k = absurd k
    go (inf t) k = absurd k
    go (fin t m e) k = refl

pub inf-lt : {c : ℕ} {y : Float} {w : ℤ} → Is c y w → lt (inf true) y ≡ true
unfolding lt
inf-lt {c} {y} {w} h = go y h.value
  where
    go : (v : Float) → HasValue v h.sign h.size c → lt (inf true) v ≡ true
    go nan k = absurd k
    go (inf t) k = absurd k
    go (fin t m e) k = refl

pub lt-inf : {c : ℕ} {y : Float} {w : ℤ} → Is c y w → lt y (inf true) ≡ false
unfolding lt
lt-inf {c} {y} {w} h = go y h.value
  where
    go : (v : Float) → HasValue v h.sign h.size c → lt v (inf true) ≡ false
    go nan k = absurd k
    go (inf t) k = absurd k
    go (fin t m e) k = refl

-- ---- every finite value of a format is such a one, in units of the smallest

pub every-finite : (f : Format) (x : Float) → T (fits f x) → T (finite x) → (z : ℤ) × Is (2 ^ low f) x z
every-finite f nan t h = absurd h
every-finite f (inf s) t h = absurd h
every-finite f (fin s m e) t h =
    (signed s (in_units f (fin s m e)), record { sign = s; size = in_units f (fin s m e); value = units_of f s m e (held f s m e t); whole = refl })
