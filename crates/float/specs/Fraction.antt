-- Values of floats as signed fractions (`HasValue`): a value of a format is written in one way, and each operation and comparison sees only the fractions.
-- Generic over the format.
use Rattle.std.specs.Prelude.{◌≡◌, ℕ, zero, suc, ◌+◌, ◌-◌, ◌*◌, ◌%◌, ◌^◌, ◌<◌, ◌≤◌, Bool, true, false, cond, not, ◌&&◌, ◌||◌, T, ◌⊎◌, ℤ, pos, negsuc, ◌==◌, ◌≢◌, nat_le, nat_lt, refl, Float}
use Rattle.std.proofs.Common.{sym, ap, ◌∙◌, subst, inl, inr, le_of_eq, le_of_lt, lt_of_not-le, eq-or-lt_of_le, lt_irrefl, zero-lt-suc, zero-mul, mul-one, one-mul, mul_comm, mul_assoc, mul_left_comm, mul_right_comm, add-mul, mul-pos, mul-lt-mul_of_pos_right, lt_of_mul-lt-mul_right, pow-suc, arith, T_not, lt→ltb, ltb→lt, eqb→eq, pow-add, pow_pos}
use Rattle.std.specs.Bool.{beq}
use Rattle.std.proofs.Math.Nat.{eq_of_mul-eq-mul_right, pow-succ', mul-sub}
use Rattle.std.specs.Float.{nan, inf, fin, Format}
use Rattle.std.specs.Float.Ieee.{prec, emax, low, up, down, round, neg, sum, add, sub, below, level, lt, eq, le, fits}
use Rattle.std.specs.Float.Ieee.Fits.{up_pos, down_pos, and_l, and_i, eq→eqb}
use Rattle.std.specs.Float.Ieee.Exact.{HasValue}
use Rattle.std.specs.Float.Ieee.Scale.{round_same}

-- ---- a value that fits is written in one way

even_odd : (m t : ℕ) → m % 2 ≡ 1 → m ≢ 2 * t
even_odd m t o h = omega arith

odd_pow : (m n a b : ℕ) → m % 2 ≡ 1 → n % 2 ≡ 1 → m * 2 ^ a ≡ n * 2 ^ b → (m ≡ n) × (a ≡ b)
odd_pow m n zero zero o p h = (sym (mul-one m) ∙ h ∙ mul-one n, refl)
odd_pow m n zero (suc b) o p h = absurd (even_odd m (n * 2 ^ b) o (sym (mul-one m) ∙ h ∙ ap (λ (x : ℕ). n * x) (pow-succ' 2 b) ∙ mul_left_comm n 2 (2 ^ b)))
odd_pow m n (suc a) zero o p h = absurd (even_odd n (m * 2 ^ a) p (sym (mul-one n) ∙ sym h ∙ ap (λ (x : ℕ). m * x) (pow-succ' 2 a) ∙ mul_left_comm m 2 (2 ^ a)))
odd_pow m n (suc a) (suc b) o p h =
    let r = odd_pow m n a b o p (eq_of_mul-eq-mul_right 2 (zero-lt-suc 1) (m * 2 ^ a) (n * 2 ^ b)
    (mul_assoc m (2 ^ a) 2 ∙ ap (λ (x : ℕ). m * x) (sym (pow-suc 2 a)) ∙ h ∙ ap (λ (x : ℕ). n * x) (pow-suc 2 b) ∙ sym (mul_assoc n (2 ^ b) 2))) in
    (r.0, ap suc r.1)

is_odd : (f : Format) (s : Bool) (m : ℕ) (e : ℤ) → T (fits f (fin s (suc m) e)) → suc m % 2 ≡ 1
unfolding fits
is_odd f s m e t =
    eqb→eq (suc m % 2) 1 (and_l (suc m % 2 == 1) (nat_lt (suc m) (2 ^ prec f)) (and_l (suc m % 2 == 1 && nat_lt (suc m) (2 ^ prec f)) (nat_le (down e) (2 ^ low f))
    (and_l (suc m % 2 == 1 && nat_lt (suc m) (2 ^ prec f) && nat_le (down e) (2 ^ low f)) (nat_lt (suc m * up e) (2 ^ suc (emax f) * down e)) t)))

two_up : (p : ℕ) → 0 < p → 2 * p ≢ 1
two_up p h e = omega arith

flat : (e : ℤ) → up e * down e ≡ 1 → e ≡ pos 0
flat (pos zero) h = refl
flat (pos (suc k)) h = absurd (two_up (2 ^ k) (pow_pos k) (sym (pow-succ' 2 k) ∙ sym (mul-one (2 ^ suc k)) ∙ h))
flat (negsuc k) h = absurd (two_up (2 ^ k) (pow_pos k) (sym (pow-succ' 2 k) ∙ sym (one-mul (2 ^ suc k)) ∙ h))

pub zero_exp : (f : Format) (s : Bool) (e : ℤ) → T (fits f (fin s zero e)) → e ≡ pos 0
unfolding fits
zero_exp f s e t = flat e (eqb→eq (up e * down e) 1 t)

-- the exponents of up e and down e
abbrev pub upx : ℤ → ℕ
upx (pos k) = k
upx (negsuc k) = 0

abbrev pub downx : ℤ → ℕ
downx (pos k) = 0
downx (negsuc k) = suc k

pub up_is : (e : ℤ) → up e ≡ 2 ^ upx e
up_is (pos k) = refl
up_is (negsuc k) = refl

pub down_is : (e : ℤ) → down e ≡ 2 ^ downx e
down_is (pos k) = refl
down_is (negsuc k) = refl

same-exp : (e g : ℤ) → upx e + downx g ≡ upx g + downx e → e ≡ g
same-exp (pos a) (pos b) h = let k : a ≡ b = omega arith in ap pos k
same-exp (pos a) (negsuc b) h = let k : ◌≡◌ {A = ℕ} 0 1 = omega arith in absurd (omega arith)
same-exp (negsuc a) (pos b) h = let k : ◌≡◌ {A = ℕ} 0 1 = omega arith in absurd (omega arith)
same-exp (negsuc a) (negsuc b) h = let k : a ≡ b = omega arith in ap negsuc k

pub value→zero : (s : Bool) (e : ℤ) (a c : ℕ) → 0 * up e * c ≡ a * down e → a ≡ 0
value→zero s e zero c h = refl
value→zero s e (suc a) c h =
    absurd (lt_irrefl 0 (subst (λ (x : ℕ). 0 < x) (sym h ∙ ap (λ (y : ℕ). y * c) (zero-mul (up e)) ∙ zero-mul c) (mul-pos (zero-lt-suc a) (down_pos e))))

not-zero : (m : ℕ) (e : ℤ) (c : ℕ) → 0 < c → suc m * up e * c ≢ 0 * down e
not-zero m e c C h = lt_irrefl 0 (subst (λ (x : ℕ). 0 < x) (h ∙ zero-mul (down e)) (mul-pos (mul-pos (zero-lt-suc m) (up_pos e)) C))

pub value-unique : (f : Format) (x y : Float) (s : Bool) (a c : ℕ) → 0 < c → T (fits f x) → T (fits f y) → HasValue x s a c → HasValue y s a c → x ≡ y
value-unique f nan y s a c C p q v w = absurd v
value-unique f (inf t) y s a c C p q v w = absurd v
value-unique f (fin t zero e) nan s a c C p q v w = absurd w
value-unique f (fin t zero e) (inf u) s a c C p q v w = absurd w
value-unique f (fin t zero e) (fin u zero g) s a c C p q v w = λ i. fin ((v.0 ∙ sym w.0) i) zero ((zero_exp f t e p ∙ sym (zero_exp f u g q)) i)
value-unique f (fin t zero e) (fin u (suc n) g) s a c C p q v w =
    absurd (not-zero n g c C (w.1 ∙ ap (λ (z : ℕ). z * down g) (value→zero t e a c v.1)))
value-unique f (fin t (suc m) e) nan s a c C p q v w = absurd w
value-unique f (fin t (suc m) e) (inf u) s a c C p q v w = absurd w
value-unique f (fin t (suc m) e) (fin u zero g) s a c C p q v w =
    absurd (not-zero m e c C (v.1 ∙ ap (λ (z : ℕ). z * down e) (value→zero u g a c w.1)))
value-unique f (fin t (suc m) e) (fin u (suc n) g) s a c C p q v w =
    let x : suc m * up e * down g ≡ suc n * up g * down e =
    eq_of_mul-eq-mul_right c C (suc m * up e * down g) (suc n * up g * down e)
    (mul_right_comm (suc m * up e) (down g) c
    ∙ ap (λ (z : ℕ). z * down g) v.1
    ∙ mul_right_comm a (down e) (down g)
    ∙ ap (λ (z : ℕ). z * down e) (sym w.1)
    ∙ mul_right_comm (suc n * up g) c (down e)) in
    let y : suc m * 2 ^ (upx e + downx g) ≡ suc n * 2 ^ (upx g + downx e) =
    ap (λ (z : ℕ). suc m * z) (pow-add 2 (upx e) (downx g))
    ∙ sym (mul_assoc (suc m) (2 ^ upx e) (2 ^ downx g))
    ∙ ap (λ (z : ℕ). suc m * z * 2 ^ downx g) (sym (up_is e))
    ∙ ap (λ (z : ℕ). suc m * up e * z) (sym (down_is g))
    ∙ x
    ∙ ap (λ (z : ℕ). suc n * z * down e) (up_is g)
    ∙ ap (λ (z : ℕ). suc n * 2 ^ upx g * z) (down_is e)
    ∙ mul_assoc (suc n) (2 ^ upx g) (2 ^ downx e)
    ∙ ap (λ (z : ℕ). suc n * z) (sym (pow-add 2 (upx g) (downx e))) in
    let r = odd_pow (suc m) (suc n) (upx e + downx g) (upx g + downx e) (is_odd f t m e p) (is_odd f u n g q) y in
    λ i. fin ((v.0 ∙ sym w.0) i) (r.0 i) (same-exp e g r.1 i)

-- ---- from one fraction to another of the same size

pub value-rescale : (x : Float) (s : Bool) (a c b d : ℕ) → 0 < c → a * d ≡ b * c → HasValue x s a c → HasValue x s b d
value-rescale nan s a c b d C h v = v
value-rescale (inf t) s a c b d C h v = v
value-rescale (fin t m e) s a c b d C h v = (
  v.0,
  eq_of_mul-eq-mul_right c C (m * up e * d) (b * down e)
      (mul_right_comm (m * up e) d c
      ∙ ap (λ (z : ℕ). z * d) v.1
      ∙ mul_right_comm a (down e) d
      ∙ ap (λ (z : ℕ). z * down e) h
      ∙ mul_right_comm b c (down e)),
)

pub value-scale : (x : Float) (s : Bool) (a c k : ℕ) → HasValue x s a c → HasValue x s (a * k) (c * k)
value-scale nan s a c k v = v
value-scale (inf t) s a c k v = v
value-scale (fin t m e) s a c k v = (v.0, sym (mul_assoc (m * up e) c k) ∙ ap (λ (z : ℕ). z * k) v.1 ∙ mul_right_comm a (down e) k)

-- ---- tests of fractions with a common denominator

pub bool_iff : (p q : Bool) → (T p → T q) → (T q → T p) → p ≡ q
bool_iff true true h k = refl
bool_iff true false h k = absurd (h tt)
bool_iff false true h k = absurd (k tt)
bool_iff false false h k = refl

lt-across : (A B C a b c : ℕ) → 0 < c → A * c ≡ a * C → B * c ≡ b * C → A < B → a < b
lt-across A B C a b c D p q h = lt_of_mul-lt-mul_right C (subst (λ (z : ℕ). z < b * C) p (subst (λ (z : ℕ). A * c < z) q (mul-lt-mul_of_pos_right h D)))

eq-across : (A B C a b c : ℕ) → 0 < C → A * c ≡ a * C → B * c ≡ b * C → A ≡ B → a ≡ b
eq-across A B C a b c D p q h = eq_of_mul-eq-mul_right C D a b (sym p ∙ ap (λ (z : ℕ). z * c) h ∙ q)

same-ltb : (A B C a b c : ℕ) → 0 < C → 0 < c → A * c ≡ a * C → B * c ≡ b * C → nat_lt A B ≡ nat_lt a b
same-ltb A B C a b c D d p q =
    bool_iff (nat_lt A B) (nat_lt a b) (λ t. lt→ltb a b (lt-across A B C a b c d p q (ltb→lt A B t)))
    (λ t. lt→ltb A B (lt-across a b c A B C D (sym p) (sym q) (ltb→lt a b t)))

same-eqb : (A B C a b c : ℕ) → 0 < C → 0 < c → A * c ≡ a * C → B * c ≡ b * C → (A == B) ≡ (a == b)
same-eqb A B C a b c D d p q =
    bool_iff (A == B) (a == b) (λ t. eq→eqb (eq-across A B C a b c D p q (eqb→eq A B t)))
    (λ t. eq→eqb (eq-across a b c A B C d (sym p) (sym q) (eqb→eq a b t)))

sub-mul : (a b c : ℕ) → (a - b) * c ≡ a * c - b * c
sub-mul a b c = mul_comm (a - b) c ∙ mul-sub c a b ∙ ap (λ (z : ℕ). z - c * b) (mul_comm c a) ∙ ap (λ (z : ℕ). a * c - z) (mul_comm c b)

sub-across : (A B C a b c : ℕ) → A * c ≡ a * C → B * c ≡ b * C → (A - B) * c ≡ (a - b) * C
sub-across A B C a b c p q = sub-mul A B c ∙ ap (λ (z : ℕ). z - B * c) p ∙ ap (λ (z : ℕ). a * C - z) q ∙ sym (sub-mul a b C)

add-across : (A B C a b c : ℕ) → A * c ≡ a * C → B * c ≡ b * C → (A + B) * c ≡ (a + b) * C
add-across A B C a b c p q = add-mul A B c ∙ ap (λ (z : ℕ). z + B * c) p ∙ ap (λ (z : ℕ). a * C + z) q ∙ sym (add-mul a b C)

-- ---- a sum sees only the fractions

pub same_sum : (f : Format) (s : Bool) (A : ℕ) (t : Bool) (B C a b c : ℕ) → 0 < C → 0 < c → A * c ≡ a * C → B * c ≡ b * C → sum f s A t B C ≡ sum f s a t b c
unfolding sum
same_sum f s A t B C a b c D d p q =
    ap (λ (z : Float). cond (beq s t) z (cond (nat_lt A B) (round f t (B - A) C) (round f (s && nat_lt B A) (A - B) C)))
    (round_same f s (A + B) C (a + b) c D d (add-across A B C a b c p q))
    ∙ ap (λ (z : Float). cond (beq s t) (round f s (a + b) c) (cond (nat_lt A B) z (round f (s && nat_lt B A) (A - B) C)))
    (round_same f t (B - A) C (b - a) c D d (sub-across B A C b a c q p))
    ∙ ap (λ (z : Float). cond (beq s t) (round f s (a + b) c) (cond (nat_lt A B) (round f t (b - a) c) z))
    (round_same f (s && nat_lt B A) (A - B) C (a - b) c D d (sub-across A B C a b c p q))
    ∙ ap (λ (z : Bool). cond (beq s t) (round f s (a + b) c) (cond z (round f t (b - a) c) (round f (s && nat_lt B A) (a - b) c)))
    (same-ltb A B C a b c D d p q)
    ∙ ap (λ (z : Bool). cond (beq s t) (round f s (a + b) c) (cond (nat_lt a b) (round f t (b - a) c) (round f (s && z) (a - b) c)))
    (same-ltb B A C b a c D d q p)

-- M / E is a / c, so M * D / (E * D) is a / c
left-of : (M D E a c : ℕ) → M * c ≡ a * E → M * D * c ≡ a * (E * D)
left-of M D E a c h = mul_right_comm M D c ∙ ap (λ (z : ℕ). z * D) h ∙ mul_assoc a E D

right_of : (N E D b c : ℕ) → N * c ≡ b * D → N * E * c ≡ b * (E * D)
right_of N E D b c h = mul_right_comm N E c ∙ ap (λ (z : ℕ). z * E) h ∙ mul_assoc b D E ∙ ap (λ (z : ℕ). b * z) (mul_comm D E)

pub add_at : (f : Format) (x y : Float) (s t : Bool) (a b c : ℕ) → 0 < c → HasValue x s a c → HasValue y t b c → add f x y ≡ sum f s a t b c
unfolding add
add_at f nan y s t a b c C h k = absurd h
add_at f (inf u) y s t a b c C h k = absurd h
add_at f (fin u m e) nan s t a b c C h k = absurd k
add_at f (fin u m e) (inf v) s t a b c C h k = absurd k
add_at f (fin u m e) (fin v n d) s t a b c C h k =
    ap (λ (z : Bool). sum f z (m * up e * down d) v (n * up d * down e) (down e * down d)) h.0
    ∙ ap (λ (z : Bool). sum f s (m * up e * down d) z (n * up d * down e) (down e * down d)) k.0
    ∙ same_sum f s (m * up e * down d) t (n * up d * down e) (down e * down d) a b c (mul-pos (down_pos e) (down_pos d)) C
    (left-of (m * up e) (down d) (down e) a c h.1) (right_of (n * up d) (down e) (down d) b c k.1)

-- ---- a negation, a difference, a product and a quotient

pub neg_value : (x : Float) (s : Bool) (a c : ℕ) → HasValue x s a c → HasValue (neg x) (not s) a c
unfolding neg
neg_value nan s a c h = h
neg_value (inf u) s a c h = h
neg_value (fin u m e) s a c h = (ap not h.0, h.1)

pub sub_at : (f : Format) (x y : Float) (s t : Bool) (a b c : ℕ) → 0 < c → HasValue x s a c → HasValue y t b c → sub f x y ≡ sum f s a (not t) b c
unfolding sub
sub_at f x y s t a b c C h k = add_at f x (neg y) s (not t) a b c C h (neg_value y t b c k)

-- ---- comparisons

same-below : (s : Bool) (A : ℕ) (t : Bool) (B C a b c : ℕ) → 0 < C → 0 < c → A * c ≡ a * C → B * c ≡ b * C → below s A t B ≡ below s a t b
same-below false A false B C a b c D d p q = same-ltb A B C a b c D d p q
same-below false A true B C a b c D d p q = refl
same-below true A false B C a b c D d p q = same-ltb 0 (A + B) C 0 (a + b) c D d (zero-mul c ∙ sym (zero-mul C)) (add-across A B C a b c p q)
same-below true A true B C a b c D d p q = same-ltb B A C b a c D d q p

pub lt_at : (x y : Float) (s t : Bool) (a b c : ℕ) → 0 < c → HasValue x s a c → HasValue y t b c → lt x y ≡ below s a t b
unfolding lt
lt_at nan y s t a b c C h k = absurd h
lt_at (inf u) y s t a b c C h k = absurd h
lt_at (fin u m e) nan s t a b c C h k = absurd k
lt_at (fin u m e) (inf v) s t a b c C h k = absurd k
lt_at (fin u m e) (fin v n d) s t a b c C h k =
    ap (λ (z : Bool). below z (m * up e * down d) v (n * up d * down e)) h.0
    ∙ ap (λ (z : Bool). below s (m * up e * down d) z (n * up d * down e)) k.0
    ∙ same-below s (m * up e * down d) t (n * up d * down e) (down e * down d) a b c (mul-pos (down_pos e) (down_pos d)) C
    (left-of (m * up e) (down d) (down e) a c h.1) (right_of (n * up d) (down e) (down d) b c k.1)

eq-at : (x y : Float) (s t : Bool) (a b c : ℕ) → 0 < c → HasValue x s a c → HasValue y t b c → eq x y ≡ level s a t b
unfolding eq
eq-at nan y s t a b c C h k = absurd h
eq-at (inf u) y s t a b c C h k = absurd h
eq-at (fin u m e) nan s t a b c C h k = absurd k
eq-at (fin u m e) (inf v) s t a b c C h k = absurd k
eq-at (fin u m e) (fin v n d) s t a b c C h k =
    let A = m * up e * down d in
    let B = n * up d * down e in
    let E = down e * down d in
    let P : 0 < E = mul-pos (down_pos e) (down_pos d) in
    let p : A * c ≡ a * E = left-of (m * up e) (down d) (down e) a c h.1 in
    let q : B * c ≡ b * E = right_of (n * up d) (down e) (down d) b c k.1 in
    ap (λ (z : Bool). level z A v B) h.0
    ∙ ap (λ (z : Bool). level s A z B) k.0
    ∙ ap (λ (z : Bool). z && (beq s t || A == 0)) (same-eqb A B E a b c P C p q)
    ∙ ap (λ (z : Bool). (a == b) && (beq s t || z)) (same-eqb A 0 E a 0 c P C p (zero-mul c ∙ sym (zero-mul E)))

pub le-at : (x y : Float) (s t : Bool) (a b c : ℕ) → 0 < c → HasValue x s a c → HasValue y t b c → le x y ≡ below s a t b || level s a t b
unfolding le
le-at x y s t a b c C h k = ap (λ (z : Bool). z || eq x y) (lt_at x y s t a b c C h k) ∙ ap (λ (z : Bool). below s a t b || z) (eq-at x y s t a b c C h k)

-- ---- the same, of values that are not negative, as an order of whole numbers

pub or_split : (p q : Bool) → T (p || q) → T p ⊎ T q
or_split true q t = inl tt
or_split false q t = inr t

pub or_l : (p q : Bool) → T p → T (p || q)
or_l true q t = tt
or_l false q t = absurd t

pub or_r : (p q : Bool) → T q → T (p || q)
or_r true q t = tt
or_r false q t = t

test-le : (a b : ℕ) → T (below false a false b || level false a false b) → a ≤ b
test-le a b t = elim (or_split (nat_lt a b) (level false a false b) t) [ inl u ↦ le_of_lt (ltb→lt a b u) | inr u ↦ le_of_eq (eqb→eq a b (and_l (a == b) true u)) ]

le_test : (a b : ℕ) → a ≤ b → T (below false a false b || level false a false b)
le_test a b h = elim (eq-or-lt_of_le h)
    [ inl e ↦ or_r (nat_lt a b) (level false a false b) (and_i (a == b) true (eq→eqb e) tt) | inr l ↦ or_l (nat_lt a b) (level false a false b) (lt→ltb a b l) ]

pub at_most : (x y : Float) (a b c : ℕ) → 0 < c → HasValue x false a c → HasValue y false b c → T (le x y) → a ≤ b
at_most x y a b c C h k t = test-le a b (subst T (le-at x y false false a b c C h k) t)

pub not-at-most : (x y : Float) (a b c : ℕ) → 0 < c → HasValue x false a c → HasValue y false b c → T (not (le x y)) → b < a
not-at-most x y a b c C h k t =
    lt_of_not-le (λ (l : a ≤ b). T_not (below false a false b || level false a false b)
    (subst (λ (z : Bool). T (not z)) (le-at x y false false a b c C h k) t) (le_test a b l))
