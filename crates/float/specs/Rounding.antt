-- `round`: at a value of the format it gives that value; a whole number of 1 / 2 ^ l, up to 2 ^ prec of them, is such a value; it commutes with `neg`.
-- Generic over the format.
use Rattle.std.specs.Prelude.{◌≡◌, ℕ, zero, suc, ◌+◌, ◌-◌, ◌*◌, ◌%◌, ◌^◌, ◌<◌, ◌≤◌, Bool, true, false, cond, not, ◌&&◌, T, ltb, leb, ◌⊎◌, ℤ, pos, nat_eq, nat_le, nat_lt, refl, Float}
use Rattle.std.proofs.Common.{sym, ap, ◌∙◌, mul-one, mul_comm, mul_assoc, mul-lt-mul_of_pos_right, not-le_of_lt, le_of_lt, lt_of_lt_of_le, eq-or-lt_of_le, one-mul, ltb→lt, leb→le, lit<, pow-add, pow_mono, shl_lt, inl, inr, arith}
use Rattle.std.proofs.Math.Path.{subst}
use Rattle.std.proofs.Math.Dec.{nleb→lt}
use Rattle.std.proofs.Math.Pow.{pow_pos, pow-lt}
use Rattle.std.specs.Float.{nan, inf, fin, Format, binary32, binary64}
use Rattle.std.specs.Float.Ieee.{prec, emax, low, up, down, odd, units, round, neg, fits, le}
use Rattle.std.specs.Float.Ieee.Digits.{back}
use Rattle.std.specs.Float.Ieee.Fits.{and_l, and_r, round-fits, round_is, down_pos}
use Rattle.std.specs.Float.Ieee.Scale.{round_same, grid, overflow}
use Rattle.std.specs.Float.Ieee.Exact.{HasValue, round_exact, odd_sign}
use Rattle.float.specs.Fraction.{value-unique, zero_exp, upx, downx, up_is, down_is}
use Rattle.std.specs.Float.Ieee.Order.{drop, kept}

-- ---- what `fits` says of a value that is not zero
pub record Held (f : Format) (m : ℕ) (e : ℤ) : Type 0 where
  pub digits : m < 2 ^ prec f
  pub lowest : down e ≤ 2 ^ low f
  pub under : m * up e < 2 ^ suc (emax f) * down e

above-one : (f : Format) → 1 ≤ 2 ^ low f
above-one f = pow_pos (low f)

pub held : (f : Format) (s : Bool) (m : ℕ) (e : ℤ) → T (fits f (fin s m e)) → Held f m e
unfolding fits
held f s zero e t =
    let z : e ≡ pos 0 = zero_exp f s e (unfold fits in t) in
    subst (λ (g : ℤ). Held f zero g) (sym z)
    (record {
      digits = pow_pos (prec f);
      lowest = above-one f;
      under =
          subst (λ (n : ℕ). 0 < n) (sym (mul-one (2 ^ suc (emax f)))) (pow_pos (suc (emax f)));
    })
held f s (suc m) e t =
    let a : Bool = nat_eq (suc m % 2) 1 in
    let b : Bool = ltb (suc m) (2 ^ prec f) in
    let c : Bool = leb (down e) (2 ^ low f) in
    let d : Bool = ltb (suc m * up e) (2 ^ suc (emax f) * down e) in
    record {
      digits = ltb→lt (suc m) (2 ^ prec f) (and_r a b (and_l (a && b) c (and_l (a && b && c) d t)));
      lowest = leb→le (down e) (2 ^ low f) (and_r (a && b) c (and_l (a && b && c) d t));
      under = ltb→lt (suc m * up e) (2 ^ suc (emax f) * down e) (and_r (a && b && c) d t);
    }

-- ---- a value is its own rounding

pub pow-inj-le : (i j : ℕ) → 2 ^ i ≤ 2 ^ j → i ≤ j
pow-inj-le i j h = go (nat_le i j) (leb→le i j) (nleb→lt i j)
  where
    go : (b : Bool) → (T b → i ≤ j) → (T (not b) → j < i) → i ≤ j
    go true p q = p tt
    go false p q = absurd (not-le_of_lt (pow-lt (q tt)) h)

own_value : (f : Format) (s : Bool) (m : ℕ) (e : ℤ) → Held f m e → HasValue (round f s (m * up e) (down e)) s (m * up e) (down e)
own_value f s m e h =
    let d = downx e in
    let L : d ≤ low f = pow-inj-le d (low f) (subst (λ (z : ℕ). z ≤ 2 ^ low f) (down_is e) h.lowest) in
    let r = low f - d in
    let j = upx e + r in
    let spl : 2 ^ low f ≡ 2 ^ r * down e = sym (ap (λ (z : ℕ). 2 ^ z) (back (low f) d L)) ∙ pow-add 2 r d ∙ ap (λ (z : ℕ). 2 ^ r * z) (sym (down_is e)) in
    let M : m * 2 ^ j ≡ m * up e * 2 ^ r =
    ap (λ (z : ℕ). m * z) (pow-add 2 (upx e) r ∙ ap (λ (z : ℕ). z * 2 ^ r) (sym (up_is e))) ∙ sym (mul_assoc m (up e) (2 ^ r)) in
    let top : 2 ^ suc (emax f) * down e * 2 ^ r ≡ 2 ^ (low f + suc (emax f)) =
    mul_assoc (2 ^ suc (emax f)) (down e) (2 ^ r)
    ∙ ap (λ (z : ℕ). 2 ^ suc (emax f) * z) (mul_comm (down e) (2 ^ r) ∙ sym spl)
    ∙ mul_comm (2 ^ suc (emax f)) (2 ^ low f)
    ∙ sym (pow-add 2 (low f) (suc (emax f))) in
    round_exact f s (m * up e) (down e) m j (down_pos e) h.digits
    (subst (λ (z : ℕ). z < 2 ^ (low f + suc (emax f))) (sym M) (subst (λ (z : ℕ). m * up e * 2 ^ r < z) top (mul-lt-mul_of_pos_right h.under (pow_pos r))))
    (ap (λ (z : ℕ). m * up e * z) spl ∙ sym (mul_assoc (m * up e) (2 ^ r) (down e)) ∙ ap (λ (z : ℕ). z * down e) (sym M))

pub round-own : (f : Format) (s : Bool) (m : ℕ) (e : ℤ) → T (fits f (fin s m e)) → round f s (m * up e) (down e) ≡ fin s m e
round-own f s m e t =
    value-unique f (round f s (m * up e) (down e)) (fin s m e) s (m * up e) (down e) (down_pos e) (round-fits f s (m * up e) (down e)) t
    (own_value f s m e (held f s m e t)) (refl, refl)

-- any fraction that a value of the format equals rounds to it
pub round-to : (f : Format) (x : Float) (s : Bool) (a c : ℕ) → 0 < c → T (fits f x) → HasValue x s a c → round f s a c ≡ x
round-to f nan s a c C t h = absurd h
round-to f (inf u) s a c C t h = absurd h
round-to f (fin u m e) s a c C t h =
    round_same f s a c (m * up e) (down e) C (down_pos e) (sym h.1) ∙ ap (λ (z : Bool). round f z (m * up e) (down e)) (sym h.0) ∙ round-own f u m e t

-- ---- negation

neg-odd : (d : ℕ) (s : Bool) (q k l : ℕ) → neg (odd d s q k l) ≡ odd d (not s) q k l
unfolding neg odd
neg-odd d s zero k l = refl
neg-odd d s (suc q) k l = refl

neg-units : (f : Format) (s : Bool) (q k : ℕ) → neg (units f s q k) ≡ units f (not s) q k
unfolding units neg
neg-units f s q k = go (nat_lt (q * 2 ^ k) (2 ^ (low f + suc (emax f))))
  where
    go : (b : Bool) → neg (cond b (odd (suc (prec f)) s q k (low f)) (inf s)) ≡ cond b (odd (suc (prec f)) (not s) q k (low f)) (inf (not s))
    go true = neg-odd (suc (prec f)) s q k (low f)
    go false = refl

pub neg-round : (f : Format) (s : Bool) (a c : ℕ) → neg (round f s a c) ≡ round f (not s) a c
neg-round f s a c = ap neg (round_is f s a c) ∙ neg-units f s _ _ ∙ sym (round_is f (not s) a c)

-- ---- a whole number of 1 / 2 ^ l, up to 2 ^ prec of them, is a value of the format

one-lt : (f : Format) → 1 < 2 ^ prec f
one-lt binary32 = lit< tt
one-lt binary64 = lit< tt

reach : (f : Format) → prec f < suc (emax f)
reach binary32 = lit< tt
reach binary64 = lit< tt

room : (p j l k e : ℕ) → j + l ≡ k → p < e → p + j < k + e
room p j l k e h g = omega arith

pub exact-at : (f : Format) (s : Bool) (n l : ℕ) → l ≤ low f → n ≤ 2 ^ prec f → HasValue (round f s n (2 ^ l)) s n (2 ^ l)
exact-at f s n l L h =
    let j = low f - l in
    let split : 2 ^ low f ≡ 2 ^ j * 2 ^ l = sym (ap (λ (z : ℕ). 2 ^ z) (back (low f) l L)) ∙ pow-add 2 (low f - l) l in
    let rm : prec f + j < low f + suc (emax f) = room (prec f) (low f - l) l (low f) (suc (emax f)) (back (low f) l L) (reach f) in
    elim (eq-or-lt_of_le h) [
      | inl e ↦
          round_exact f s n (2 ^ l) 1 (prec f + j) (pow_pos l) (one-lt f)
          (subst (λ (z : ℕ). z < 2 ^ (low f + suc (emax f))) (sym (one-mul (2 ^ (prec f + j)))) (pow-lt rm))
          (ap (λ (z : ℕ). z * 2 ^ low f) e
          ∙ ap (λ (z : ℕ). 2 ^ prec f * z) split
          ∙ sym (mul_assoc (2 ^ prec f) (2 ^ j) (2 ^ l))
          ∙ ap (λ (z : ℕ). z * 2 ^ l) (sym (pow-add 2 (prec f) j) ∙ sym (one-mul (2 ^ (prec f + j)))))
      | inr g ↦
          round_exact f s n (2 ^ l) n j (pow_pos l) g
          (lt_of_lt_of_le (shl_lt (prec f) j g) (pow_mono (le_of_lt rm)))
          (ap (λ (z : ℕ). n * z) split ∙ sym (mul_assoc n (2 ^ j) (2 ^ l)))
    ]

-- ---- what `round` gives: an infinity, or a value in units of the smallest one

pub round-shape : (f : Format) (s : Bool) (n d : ℕ) → (round f s n d ≡ inf s) ⊎ HasValue (round f s n d) s (grid f n d) (2 ^ low f)
unfolding units
round-shape f s n d =
    subst (λ (z : Float). (z ≡ inf s) ⊎ HasValue z s (grid f n d) (2 ^ low f)) (sym (round_is f s n d)) (go (nat_lt (grid f n d) (overflow f)))
  where
    go : (b : Bool) → (cond b (odd (suc (prec f)) s (kept (prec f) (n * 2 ^ low f) d) (drop (prec f) (n * 2 ^ low f) d) (low f)) (inf s) ≡ inf s)
        ⊎ HasValue (cond b (odd (suc (prec f)) s (kept (prec f) (n * 2 ^ low f) d) (drop (prec f) (n * 2 ^ low f) d) (low f)) (inf s)) s (grid f n d)
        (2 ^ low f)
    go true = inr (odd_sign (suc (prec f)) s (kept (prec f) (n * 2 ^ low f) d) (drop (prec f) (n * 2 ^ low f) d) (low f))
    go false = inl refl

pub inf-not-le : (y : Float) (a c : ℕ) → HasValue y false a c → T (le (inf false) y) → ⊥
unfolding le
inf-not-le nan a c h t = h
inf-not-le (inf s) a c h t = h
inf-not-le (fin s m e) a c h t = t
