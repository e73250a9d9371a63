-- 1 - 4 min(r, 1 - r), with r = x - floor x, lies from -1 to 1 at every finite x, and so does the mean of four values that do:
-- a block's vote (proofs/Vote.antt). Generic over the format.
use Rattle.std.specs.Prelude.{◌≡◌, refl, ◌⊎◌, Bool, true, false, not, ◌&&◌, cond, ℕ, ◌+◌, ◌-◌, ◌*◌, ◌/◌, ◌^◌, ◌≤◌, ◌<◌, ℤ, T, ltb, leb, Float}
use Rattle.std.proofs.Common.{sym, ap, ◌∙◌, subst, inl, inr, true≢false, arith, ltb→lt, nltb→le, leb→le, lit≤}
use native.Mathlib.Nat.{le_refl, le_of_lt, le_trans, le_of_eq, zero-lt-suc, mul-one, one-mul, mul_right_comm, mul-le-mul_right}
use native.Mathlib.Nat.{le_of_mul-le-mul_right, div-mul-le_self, lt-div-mul-add}
use Rattle.std.proofs.Math.Dec.{nleb→lt}
use Rattle.std.specs.Float.{nan, inf, fin, Format, binary32, binary64}
use Rattle.std.specs.Float.Ieee.{prec, low, up, down, round, sum, sub, lt, fits, is_nan}
use Rattle.std.specs.Float.Ieee.Fits.{down_pos}
use Rattle.std.specs.Float.Ieee.Exact.{HasValue}
use Rattle.std.specs.Float.Ieee.Scale.{grid, finite}
use Rattle.float.specs.Fraction.{value-scale, sub_at}
use Rattle.float.specs.Calls.{floor, downward, smaller}
use Rattle.float.specs.Step.{minus-at-most}
use Rattle.float.specs.Whole.{floor-value}
use Rattle.float.specs.Base.{two_to}
use Rattle.float_laws.specs.Values.{Within, Holds}
use Rattle.float_laws.specs.Bounds.{holds-whole, holds-scaled, round-within}
use Rattle.float.specs.Rounding.{round-shape}

abbrev pub one_exact : Float
one_exact = two_to 0

abbrev pub four_exact : Float
four_exact = two_to 2

-- not negative, with the sign clear, and at most a / c
abbrev pub Upto : Float → ℕ → ℕ → Type 0
Upto nan a c = ⊥
Upto (inf s) a c = ⊥
Upto (fin t m e) a c = (t ≡ false) × (m * up e * c ≤ a * down e)

-- ---- rounding

upto-of : (x : Float) (g l a c : ℕ) → HasValue x false g l → Within x a c → Upto x a c
upto-of nan g l a c h k = h
upto-of (inf s) g l a c h k = h
upto-of (fin t m e) g l a c h k = (h.0, k)

pub round-upto : (f : Format) (n d a c : ℕ) → 0 < d → 0 < c → Holds f a c → n * c ≤ a * d → Upto (round f false n d) a c
round-upto f n d a c D C H h =
    let w : Within (round f false n d) a c = round-within f false n d a c D C H h in
    elim (round-shape f false n d)
    [ inl e ↦ absurd (subst (λ (z : Float). Within z a c) e w) | inr v ↦ upto-of (round f false n d) (grid f n d) (2 ^ low f) a c v w ]

pub small-whole : (f : Format) (n : ℕ) → n ≤ 4 → Holds f n 1
small-whole f n h = holds-whole f n (le_trans h (at_least f))
  where
    at_least : (g : Format) → 4 ≤ 2 ^ prec g
    at_least binary32 = lit≤ tt
    at_least binary64 = lit≤ tt

-- ---- the fraction: x - floor x is a fraction below 1, rounded, with the sign clear

pub record Frac (f : Format) (r : Float) : Type 0 where
  pub numer : ℕ
  pub denom : ℕ
  pub denom_pos : 0 < denom
  pub proper : numer < denom
  pub is : r ≡ round f false numer denom

up-mul : (a c : ℕ) → 0 < c → (a ≤ (a + (c - 1)) / c * c) × ((a + (c - 1)) / c * c < a + c)
up-mul a c C =
    let x : (a + (c - 1)) / c * c ≤ a + (c - 1) = div-mul-le_self (a + (c - 1)) c in
    let y : a + (c - 1) < (a + (c - 1)) / c * c + c = lt-div-mul-add C in
    (omega arith, omega arith)

fraction-is : (f : Format) (s : Bool) (a c : ℕ) → 0 < c → Frac f (sum f s a (not s) (downward s a c * c) c)
unfolding sum
fraction-is f false a c C =
    let l : a / c * c ≤ a = div-mul-le_self a c in
    let g : a < a / c * c + c = lt-div-mul-add C in
    record { numer = a - a / c * c; denom = c; denom_pos = C; proper = omega arith; is = go (ltb a (a / c * c)) (ltb→lt a (a / c * c)) }
  where
    go : (b : Bool) → (T b → a < a / c * c) → cond b (round f true (a / c * c - a) c) (round f false (a - a / c * c) c) ≡ round f false (a - a / c * c) c
    go true k = absurd (native.Mathlib.Nat.not-le_of_lt (k tt) (div-mul-le_self a c))
    go false k = refl
fraction-is f true a c C =
    let u = up-mul a c C in
    let l : a ≤ (a + (c - 1)) / c * c = u.0 in
    let g : (a + (c - 1)) / c * c < a + c = u.1 in
    record {
      numer = (a + (c - 1)) / c * c - a;
      denom = c;
      denom_pos = C;
      proper = omega arith;
      is = go ((a + (c - 1)) / c * c) l (ltb a ((a + (c - 1)) / c * c)) (ltb ((a + (c - 1)) / c * c) a) (ltb→lt ((a + (c - 1)) / c * c) a)
          (nltb→le a ((a + (c - 1)) / c * c));
    }
  where
    go : (w : ℕ) → a ≤ w → (b d : Bool) → (T d → w < a) → (T (not b) → w ≤ a)
        → cond b (round f false (w - a) c) (round f (true && d) (a - w) c) ≡ round f false (w - a) c
    go w l true d p q = refl
    go w l false true p q = absurd (native.Mathlib.Nat.not-le_of_lt (p tt) l)
    go w l false false p q = ap (λ (z : ℕ). round f false z c) (let k : w ≤ a = q tt in let z : a - w ≡ w - a = omega arith in z)

pub frac : (f : Format) (x : Float) → T (fits f x) → T (finite x) → Frac f (sub f x (floor f x))
frac f nan t h = absurd h
frac f (inf s) t h = absurd h
frac f (fin s m e) t h =
    let a = m * up e in
    let c = down e in
    let N = downward s a c in
    let v : HasValue (floor f (fin s m e)) s (N * c) c =
    subst (λ (z : ℕ). HasValue (floor f (fin s m e)) s (N * c) z) (one-mul c) (value-scale (floor f (fin s m e)) s N 1 c (floor-value f s m e t)) in
    subst (λ (z : Float). Frac f z) (sym (sub_at f (fin s m e) (floor f (fin s m e)) s s a (N * c) c (down_pos e) (refl, refl) v))
    (fraction-is f s a c (down_pos e))

pub frac-upto : (f : Format) (r : Float) → Frac f r → Upto r 1 1
frac-upto f r h =
    subst (λ (z : Float). Upto z 1 1) (sym h.is)
    (round-upto f h.numer h.denom 1 1 h.denom_pos (zero-lt-suc 0) (small-whole f 1 (lit≤ tt)) (let p = h.proper in omega arith))

-- ---- 1 - r

one-is : (c : ℕ) → HasValue one_exact false c c
one-is c = (refl, one-mul c ∙ sym (mul-one c))

one-minus : (f : Format) (m : ℕ) (e : ℤ) → m * up e ≤ down e → sub f one_exact (fin false m e) ≡ round f false (down e - m * up e) (down e)
one-minus f m e h = sub_at f one_exact (fin false m e) false false (down e) (m * up e) (down e) (down_pos e) (one-is (down e)) (refl, refl)
    ∙ minus-at-most f (down e) (m * up e) (down e) h

at_most_one : (a c : ℕ) → a * 1 ≤ 1 * c → a ≤ c
at_most_one a c h = omega arith

-- ---- the least of r and 1 - r is at most a half

upto-below : (q r : Float) (b d a c : ℕ) → Upto q b d → Upto r a c → T (not (lt r q)) → Upto q a c
unfolding lt
upto-below nan r b d a c h k t = absurd h
upto-below (inf s) r b d a c h k t = absurd h
upto-below (fin s n g) nan b d a c h k t = absurd k
upto-below (fin s n g) (inf u) b d a c h k t = absurd k
upto-below (fin true n g) (fin u m e) b d a c h k t = absurd (true≢false h.0)
upto-below (fin false n g) (fin true m e) b d a c h k t = absurd (true≢false k.0)
upto-below (fin false n g) (fin false m e) b d a c h k t =
    let l : n * up g * down e ≤ m * up e * down g = nltb→le (m * up e * down g) (n * up g * down e) t in (
      refl,
      le_of_mul-le-mul_right
          (le_trans (le_of_eq (mul_right_comm (n * up g) c (down e)))
          (le_trans (mul-le-mul_right c l)
          (le_trans (le_of_eq (mul_right_comm (m * up e) (down g) c))
          (le_trans (mul-le-mul_right (down g) k.1) (le_of_eq (mul_right_comm a (down e) (down g)))))))
          (down_pos e),
    )

lt-then-not : (q r : Float) (b d b' d' : ℕ) → Upto q b d → Upto r b' d' → T (lt q r) → T (not (lt r q))
unfolding lt
lt-then-not nan r b d b' d' h k t = absurd h
lt-then-not (inf s) r b d b' d' h k t = absurd h
lt-then-not (fin s n g) nan b d b' d' h k t = absurd k
lt-then-not (fin s n g) (inf u) b d b' d' h k t = absurd k
lt-then-not (fin true n g) (fin u m e) b d b' d' h k t = absurd (true≢false h.0)
lt-then-not (fin false n g) (fin true m e) b d b' d' h k t = absurd (true≢false k.0)
lt-then-not (fin false n g) (fin false m e) b d b' d' h k t =
    lib.Arith.le→nltb (m * up e * down g) (n * up g * down e) (le_of_lt (ltb→lt (n * up g * down e) (m * up e * down g) t))

upto-number : (r : Float) (a c : ℕ) → Upto r a c → is_nan r ≡ false
unfolding is_nan
upto-number nan a c h = absurd h
upto-number (inf s) a c h = refl
upto-number (fin s m e) a c h = refl

least-upto : (r q : Float) (b d b' d' a c : ℕ) → Upto r b d → Upto q b' d' → Upto r a c ⊎ Upto q a c → Upto (smaller r q) a c
unfolding smaller
least-upto r q b d b' d' a c h k o =
    subst (λ (t : Bool). Upto (cond t q (cond (lt q r) q r)) a c) (sym (upto-number r b d h)) (go (lt q r) (lt-then-not q r b' d' b d k h) o refl)
  where
    go : (t : Bool) → (T (lt q r) → T (not (lt r q))) → Upto r a c ⊎ Upto q a c → lt q r ≡ t → Upto (cond t q r) a c
    go true n (inl p) e = upto-below q r b' d' a c k p (n (subst T (sym e) tt))
    go true n (inr p) e = p
    go false n (inl p) e = p
    go false n (inr p) e = upto-below r q b d a c h p (subst (λ (z : Bool). T (not z)) (sym e) tt)

half-holds : (f : Format) → Holds f 1 2
half-holds binary32 = holds-scaled binary32 1 1 (lit≤ tt) (lit≤ tt)
half-holds binary64 = holds-scaled binary64 1 1 (lit≤ tt) (lit≤ tt)

twice-le : (a c : ℕ) → c < a * 2 → (c - a) * 2 ≤ 1 * c
twice-le a c h = omega arith

pub halves : (f : Format) (r : Float) → Upto r 1 1 → Upto (smaller r (sub f one_exact r)) 1 2
halves f nan h = absurd h
halves f (inf s) h = absurd h
halves f (fin true m e) h = absurd (true≢false h.0)
halves f (fin false m e) h =
    let a = m * up e in
    let c = down e in
    let l : a ≤ c = at_most_one a c h.1 in
    let q : sub f one_exact (fin false m e) ≡ round f false (c - a) c = one-minus f m e l in
    let Q : Upto (sub f one_exact (fin false m e)) 1 1 =
    subst (λ (z : Float). Upto z 1 1) (sym q) (round-upto f (c - a) c 1 1 (down_pos e) (zero-lt-suc 0) (small-whole f 1 (lit≤ tt)) (omega arith)) in
    least-upto (fin false m e) (sub f one_exact (fin false m e)) 1 1 1 1 1 2 h Q (go (leb (a * 2) c) (leb→le (a * 2) c) (nleb→lt (a * 2) c) q)
  where
    go : (b : Bool) → (T b → m * up e * 2 ≤ down e) → (T (not b) → down e < m * up e * 2)
        → sub f one_exact (fin false m e) ≡ round f false (down e - m * up e) (down e)
        → Upto (fin false m e) 1 2 ⊎ Upto (sub f one_exact (fin false m e)) 1 2
    go true p n q = inl (refl, le_trans (p tt) (le_of_eq (sym (one-mul (down e)))))
    go false p n q = inr (subst (λ (z : Float). Upto z 1 2) (sym q)
        (round-upto f (down e - m * up e) (down e) 1 2 (down_pos e) (zero-lt-suc 1) (half-holds f) (twice-le (m * up e) (down e) (n tt))))

-- ---- 1 less a value from 0 to 2

apart : (f : Format) (c b : ℕ) → 0 < c → b ≤ 2 * c → Within (sum f false c true b c) 1 1
unfolding sum
apart f c b C h = go (ltb c b)
  where
    go : (t : Bool) → Within (cond t (round f true (b - c) c) (round f false (c - b) c)) 1 1
    go true = round-within f true (b - c) c 1 1 C (zero-lt-suc 0) (small-whole f 1 (lit≤ tt)) (omega arith)
    go false = round-within f false (c - b) c 1 1 C (zero-lt-suc 0) (small-whole f 1 (lit≤ tt)) (omega arith)

pub one_less : (f : Format) (w : Float) → Upto w 2 1 → Within (sub f one_exact w) 1 1
one_less f nan k = absurd k
one_less f (inf s) k = absurd k
one_less f (fin true m e) k = absurd (true≢false k.0)
one_less f (fin false m e) k =
    subst (λ (z : Float). Within z 1 1)
    (sym (sub_at f one_exact (fin false m e) false false (down e) (m * up e) (down e) (down_pos e) (one-is (down e)) (refl, refl)))
    (apart f (down e) (m * up e) (down_pos e) (le_trans (le_of_eq (sym (mul-one (m * up e)))) k.1))
