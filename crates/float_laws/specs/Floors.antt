-- The floor and the ceiling of a value as integers: not beyond a bound on the value, not above it and not below it.
-- Generic over the integer's width and the float's format.
use Rattle.std.specs.Prelude.{◌≡◌, refl, Bool, true, false, not, cond, ℕ, zero, suc, ◌+◌, ◌-◌, ◌*◌, ◌/◌, ◌^◌, ◌≤◌, ◌<◌, min, ℤ, pos, neg_ℤ, nat_abs, ◌*ℤ◌, ◌≤ℤ◌, T, Float}
use Rattle.std.proofs.Common.{sym, ap, ◌∙◌, subst, le_trans, le_of_eq, lt_of_le_of_lt, mul-one, one-mul, zero-mul, mul-div_cancel, div-lt_iff_lt-mul, div-mul-le_self, le_of_mul-le-mul_right, mul-le-mul_right, mul_right_comm, add-mul, arith, le→leb}
use Rattle.std.proofs.Math.Nat.{lt-div-mul-add}
use Rattle.std.specs.Int.Signed.{≤ℤ_refl, le_z_yes}
use Rattle.std.specs.Float.{nan, inf, fin, Format}
use Rattle.std.specs.Float.Ieee.{up, down, neg, fits, to_signed}
use Rattle.std.specs.Float.Ieee.Fits.{down_pos, neg-fits}
use Rattle.std.specs.Float.Ieee.Exact.{HasValue}
use Rattle.float.specs.Fraction.{neg_value}
use Rattle.float_laws.specs.Values.{Is, signed, Within}
use Rattle.float_laws.specs.Exact.{abs-signed}
use Rattle.float.specs.Calls.{floor, ceil, downward}
use Rattle.float.specs.Whole.{floor-value}

-- ---- a float that is a whole number, as an integer

under_top : (n h : ℕ) → n < 2 ^ h → (min n (2 ^ h) ≡ n) × (min n (2 ^ h - 1) ≡ n)
under_top n h l = (omega arith, omega arith)

int-value : (h : ℕ) (y : Float) (s : Bool) (n : ℕ) → HasValue y s n 1 → n < 2 ^ h → to_signed h y ≡ signed s n
unfolding to_signed
int-value h nan s n v l = absurd v
int-value h (inf t) s n v l = absurd v
int-value h (fin t m e) s n v l =
    let q : m * up e / down e ≡ n = ap (λ (z : ℕ). z / down e) (sym (mul-one (m * up e)) ∙ v.1) ∙ mul-div_cancel n (down_pos e) in
    let u = under_top n h l in
    ap (λ (z : Bool). cond z (neg_ℤ (pos (min (m * up e / down e) (2 ^ h)))) (pos (min (m * up e / down e) (2 ^ h - 1)))) v.0
    ∙ ap (λ (z : ℕ). cond s (neg_ℤ (pos (min z (2 ^ h)))) (pos (min z (2 ^ h - 1)))) q
    ∙ ap (λ (z : ℕ). cond s (neg_ℤ (pos z)) (pos (min n (2 ^ h - 1)))) u.0
    ∙ ap (λ (z : ℕ). cond s (neg_ℤ (pos n)) (pos z)) u.1

-- ---- the floor and the ceiling as integers

down_le : (s : Bool) (a c k : ℕ) → 0 < c → a * 1 ≤ k * c → downward s a c ≤ k
down_le false a c k C h = let l : a / c < k + 1 =
    (div-lt_iff_lt-mul C).1 (let e : (k + 1) * c ≡ k * c + c = add-mul k 1 c ∙ ap (λ (z : ℕ). k * c + z) (one-mul c) in omega arith) in omega arith
down_le true a c k C h = let l : (a + (c - 1)) / c < k + 1 =
    (div-lt_iff_lt-mul C).1 (let e : (k + 1) * c ≡ k * c + c = add-mul k 1 c ∙ ap (λ (z : ℕ). k * c + z) (one-mul c) in omega arith) in omega arith

floor-int : (f : Format) (h : ℕ) (s : Bool) (m : ℕ) (e : ℤ) → T (fits f (fin s m e)) → downward s (m * up e) (down e) < 2 ^ h
    → to_signed h (floor f (fin s m e)) ≡ signed s (downward s (m * up e) (down e))
floor-int f h s m e t l = int-value h (floor f (fin s m e)) s (downward s (m * up e) (down e)) (floor-value f s m e t) l

pub floor-bound : (f : Format) (h : ℕ) (x : Float) (k : ℕ) → T (fits f x) → Within x k 1 → k < 2 ^ h → nat_abs (to_signed h (floor f x)) ≤ k
floor-bound f h nan k t w l = absurd w
floor-bound f h (inf s) k t w l = absurd w
floor-bound f h (fin s m e) k t w l =
    let n = downward s (m * up e) (down e) in
    let b : n ≤ k = down_le s (m * up e) (down e) k (down_pos e) w in
    subst (λ (z : ℕ). z ≤ k) (sym (ap nat_abs (floor-int f h s m e t (lt_of_le_of_lt b l)) ∙ abs-signed s n)) b

ceil-int : (f : Format) (h : ℕ) (s : Bool) (m : ℕ) (e : ℤ) → T (fits f (fin s m e)) → downward (not s) (m * up e) (down e) < 2 ^ h
    → to_signed h (ceil f (fin s m e)) ≡ signed (not (not s)) (downward (not s) (m * up e) (down e))
unfolding ceil neg
ceil-int f h s m e t l =
    let n = downward (not s) (m * up e) (down e) in
    int-value h (neg (floor f (fin (not s) m e))) (not (not s)) n
    (neg_value (floor f (fin (not s) m e)) (not s) n 1 (floor-value f (not s) m e (neg-fits f (fin s m e) t))) l

pub ceil-bound : (f : Format) (h : ℕ) (x : Float) (k : ℕ) → T (fits f x) → Within x k 1 → k < 2 ^ h → nat_abs (to_signed h (ceil f x)) ≤ k
ceil-bound f h nan k t w l = absurd w
ceil-bound f h (inf s) k t w l = absurd w
ceil-bound f h (fin s m e) k t w l =
    let n = downward (not s) (m * up e) (down e) in
    let b : n ≤ k = down_le (not s) (m * up e) (down e) k (down_pos e) w in
    subst (λ (z : ℕ). z ≤ k) (sym (ap nat_abs (ceil-int f h s m e t (lt_of_le_of_lt b l)) ∙ abs-signed (not (not s)) n)) b

-- ---- in units of 1 / c the floor of a value is not above it, and its ceiling not below

-- n * D ≤ A and A * c ≡ g * D, so n * c ≤ g; and the other way
units_under : (n A D g c : ℕ) → 0 < D → n * D ≤ A → A * c ≡ g * D → n * c ≤ g
units_under n A D g c P h e = le_of_mul-le-mul_right (le_trans (le_of_eq (mul_right_comm n c D)) (le_trans (mul-le-mul_right c h) (le_of_eq e))) P

units-over : (n A D g c : ℕ) → 0 < D → A ≤ n * D → A * c ≡ g * D → g ≤ n * c
units-over n A D g c P h e = le_of_mul-le-mul_right (le_trans (le_of_eq (sym e)) (le_trans (mul-le-mul_right c h) (le_of_eq (mul_right_comm n D c)))) P

cut-under : (A D : ℕ) → A / D * D ≤ A
cut-under A D = div-mul-le_self A D

cut-over : (A D : ℕ) → 0 < D → A ≤ (A + (D - 1)) / D * D
cut-over A D P = let l : A + (D - 1) < (A + (D - 1)) / D * D + D = lt-div-mul-add P in omega arith

turned : (a b : ℕ) → a ≤ b → neg_ℤ (pos b) ≤ℤ neg_ℤ (pos a)
turned zero zero h = ≤ℤ_refl (pos 0)
turned zero (suc b) h = le_z_yes tt
turned (suc a) zero h = absurd (omega arith)
turned (suc a) (suc b) h = le_z_yes (le→leb a b (omega arith))

signed-times : (s : Bool) (n c : ℕ) → signed s n *ℤ pos c ≡ signed s (n * c)
signed-times false n c = refl
signed-times true zero c = ap pos (zero-mul c) ∙ sym (ap (λ (z : ℕ). neg_ℤ (pos z)) (zero-mul c))
signed-times true (suc n) c = refl

below-own : (s : Bool) (A D g c : ℕ) → 0 < D → A * c ≡ g * D → signed s (downward s A D * c) ≤ℤ signed s g
below-own false A D g c P e = le_z_yes (le→leb (A / D * c) g (units_under (A / D) A D g c P (cut-under A D) e))
below-own true A D g c P e = turned g ((A + (D - 1)) / D * c) (units-over ((A + (D - 1)) / D) A D g c P (cut-over A D P) e)

above-own : (s : Bool) (A D g c : ℕ) → 0 < D → A * c ≡ g * D → signed s g ≤ℤ signed (not (not s)) (downward (not s) A D * c)
above-own false A D g c P e = le_z_yes (le→leb g ((A + (D - 1)) / D * c) (units-over ((A + (D - 1)) / D) A D g c P (cut-over A D P) e))
above-own true A D g c P e = turned (A / D * c) g (units_under (A / D) A D g c P (cut-under A D) e)

pub floor-below : (f : Format) (h : ℕ) (x : Float) (k c : ℕ) (z : ℤ) → T (fits f x) → Within x k 1 → k < 2 ^ h → Is c x z
    → (to_signed h (floor f x) *ℤ pos c) ≤ℤ z
floor-below f h nan k c z t w l i = absurd w
floor-below f h (inf s) k c z t w l i = absurd w
floor-below f h (fin s m e) k c z t w l i =
    let n = downward s (m * up e) (down e) in
    let b : n ≤ k = down_le s (m * up e) (down e) k (down_pos e) w in
    let to : to_signed h (floor f (fin s m e)) *ℤ pos c ≡ signed s (n * c) =
    ap (λ (v : ℤ). v *ℤ pos c) (floor-int f h s m e t (lt_of_le_of_lt b l)) ∙ signed-times s n c in
    let is : signed s i.size ≡ z = ap (λ (v : Bool). signed v i.size) i.value.0 ∙ i.whole in
    subst (λ (v : ℤ). v ≤ℤ z) (sym to) (subst (λ (v : ℤ). signed s (n * c) ≤ℤ v) is (below-own s (m * up e) (down e) i.size c (down_pos e) i.value.1))

pub ceil-above : (f : Format) (h : ℕ) (x : Float) (k c : ℕ) (z : ℤ) → T (fits f x) → Within x k 1 → k < 2 ^ h → Is c x z → z ≤ℤ (to_signed h (ceil f x) *ℤ pos c)
ceil-above f h nan k c z t w l i = absurd w
ceil-above f h (inf s) k c z t w l i = absurd w
ceil-above f h (fin s m e) k c z t w l i =
    let n = downward (not s) (m * up e) (down e) in
    let b : n ≤ k = down_le (not s) (m * up e) (down e) k (down_pos e) w in
    let to : to_signed h (ceil f (fin s m e)) *ℤ pos c ≡ signed (not (not s)) (n * c) =
    ap (λ (v : ℤ). v *ℤ pos c) (ceil-int f h s m e t (lt_of_le_of_lt b l)) ∙ signed-times (not (not s)) n c in
    let is : signed s i.size ≡ z = ap (λ (v : Bool). signed v i.size) i.value.0 ∙ i.whole in
    subst (λ (v : ℤ). z ≤ℤ v) (sym to)
    (subst (λ (v : ℤ). v ≤ℤ signed (not (not s)) (n * c)) is (above-own s (m * up e) (down e) i.size c (down_pos e) i.value.1))
