-- The weights of a window's taps are finite, with the sign clear, and at most 1. A positive tent is at least 2 ^ -53, since a
-- float below 1 leaves that much; a sum of tents is at least each of them, and narrowing keeps the order,
-- so the narrowed sum isn't zero, and a weight is one rounding of a fraction that is at most 1.
use Rattle.std.specs.Prelude.{Some, None, ◌≡◌, refl, Bool, true, false, not, cond, ℕ, zero, suc, ◌+◌, ◌-◌, ◌*◌, ◌^◌, ◌≤◌, ◌<◌, ℤ, pos, negsuc, ◌+ℤ◌, length, get_or, T, ltb, leb, Float}
use Rattle.std.proofs.Common.{sym, ap, ◌∙◌, subst, inl, inr, zero-le, le_of_suc-le-suc, not-suc-le-zero, add-le-add, add-mul, le_refl, le_trans, le_of_eq, le_of_lt, lt_of_lt_of_le, zero-lt-suc, mul-one, one-mul, zero-mul, mul_comm, mul-pos, mul-le-mul, mul-le-mul_right, pow-suc, eq-or-lt_of_le, add-one, arith, ltb→lt, nltb→le, leb→le, lit≤, pow_pos, pow_mono}
use Rattle.std.proofs.Math.Nat.{le-suc}
use Rattle.std.proofs.Math.Dec.{T_prop, nleb→lt}
use Rattle.std.specs.Float.{nan, inf, fin, Format, binary32, binary64}
use Rattle.std.specs.Float.Ieee.{prec, low, up, down, round, of_int, neg, sum, add, sub, div, lt, le, fits}
use Rattle.std.specs.Float.Ieee.Exact.{HasValue}
use Rattle.std.specs.Float.Ieee.Fits.{two, down_pos, add-fits, sub-fits, div-fits}
use Rattle.std.specs.Float.Ieee.Order.{round_mono}
use Rattle.std.specs.Float.Ieee.Positive.{first_pos}
use Rattle.std.specs.Float.Ieee.Scale.{grid, round_same}
use Rattle.float.specs.Base.{zero+}
use Rattle.float.specs.Known.{known}
use Rattle.float.specs.Calls.{absolute, narrow}
use Rattle.float.specs.Fraction.{value-scale, add_at, sub_at, at_most}
use Rattle.float_laws.specs.Product.{div-value-at}
use Rattle.float.specs.Step.{minus-at-most}
use Rattle.float.specs.Rounding.{Held, held, round-to, round-shape}
use Rattle.float_laws.specs.AddError.{size-within}
use Rattle.float_laws.specs.Values.{Within, Holds}
use Rattle.float_laws.specs.Bounds.{holds-whole, holds-scaled, round-within}
use Rattle.resample_window.specs.declared.Window.{Window}
use Rattle.resample_window.specs.declared.Tap.{Tap}
use Rattle.resample_window.specs.Window.{tent_of, weight_of, tent_sum, numbers, center_of, support_of, unsummed, with_sum, empty, clamp_of, tap_of, taps_to, taps_of, taps}
use Rattle.resample_window_laws.specs.Support.{one-is, window-numbers-small}
use Rattle.resample_window.specs.Range.{window-cases}
use Rattle.resample_window_laws.specs.Reach.{float_one, at-most-sum, is_reached}
use Rattle.resample_window.specs.Steps.{each_append}

-- ---- a rounded fraction that is at most the whole number b, in units of the format's smallest value

record Sized (f : Format) (x : Float) (b : ℕ) : Type 0 where
  pub size : ℕ
  pub value : HasValue x false size (2 ^ low f)
  pub greatest : size ≤ b * 2 ^ low f

within-sized : (f : Format) (x : Float) (g b : ℕ) → HasValue x false g (2 ^ low f) → Within x b 1 → Sized f x b
within-sized f x g b v w = record { size = g; value = v; greatest = size-within f x (pos g) b (record { sign = false; size = g; value = v; whole = refl }) w }

rounded-sized : (f : Format) (a c b : ℕ) → 0 < c → Holds f b 1 → a ≤ b * c → Sized f (round f false a c) b
rounded-sized f a c b C H h =
    let w : Within (round f false a c) b 1 = round-within f false a c b 1 C (zero-lt-suc 0) H (le_trans (le_of_eq (mul-one a)) h) in
    elim (round-shape f false a c) [ inl e ↦ absurd (subst (λ (z : Float). Within z b 1) e w) | inr v ↦ within-sized f (round f false a c) (grid f a c) b v w ]

-- the larger fraction rounds to the larger value
keeps : (f : Format) (a c d e x y : ℕ) → 0 < c → 0 < e → a * e ≤ d * c → HasValue (round f false a c) false x (2 ^ low f)
    → HasValue (round f false d e) false y (2 ^ low f) → x ≤ y
keeps f a c d e x y C E h v w = at_most (round f false a c) (round f false d e) x y (2 ^ low f) (pow_pos (low f)) v w (round_mono f a c d e C E h)

-- 2 ^ -k rounds to itself
power-least : (f : Format) (k a c x : ℕ) → k ≤ low f → 0 < c → c ≤ a * 2 ^ k → HasValue (round f false a c) false x (2 ^ low f) → 2 ^ low f ≤ x * 2 ^ k
power-least f k a c x K C h v =
    let U = 2 ^ low f in
    let H : Holds f 1 (2 ^ k) = holds-scaled f 1 k K (pow_pos (prec f)) in
    let m : T (le (round f false 1 (2 ^ k)) (round f false a c)) = round_mono f 1 (2 ^ k) a c (pow_pos k) C (le_trans (le_of_eq (one-mul c)) h) in
    at_most (round f false 1 (2 ^ k)) (round f false a c) U (x * 2 ^ k) (U * 2 ^ k) (mul-pos (pow_pos (low f)) (pow_pos k))
    (subst (λ (z : ℕ). HasValue (round f false 1 (2 ^ k)) false z (U * 2 ^ k)) (one-mul U)
    (subst (λ (z : ℕ). HasValue (round f false 1 (2 ^ k)) false (1 * U) z) (mul_comm (2 ^ k) U)
    (value-scale (round f false 1 (2 ^ k)) false 1 (2 ^ k) U H)))
    (value-scale (round f false a c) false x U (2 ^ k) v) m

-- ---- a positive tent

pub record Tent (f : Format) (t : Float) : Type 0 where
  pub size : ℕ
  pub value : HasValue t false size (2 ^ low f)
  pub least : 2 ^ low f ≤ size * 2 ^ prec f
  pub greatest : size ≤ 1 * 2 ^ low f

-- what m / 2 ^ d leaves of 1
least-gap : (p m d : ℕ) → 1 ≤ p → m < 2 ^ p → m < 2 ^ d → 2 ^ d ≤ (2 ^ d - m) * 2 ^ p
least-gap p m d P h k = go (leb d p) (leb→le d p) (nleb→lt d p)
  where
    go : (b : Bool) → (T b → d ≤ p) → (T (not b) → p < d) → 2 ^ d ≤ (2 ^ d - m) * 2 ^ p
    go true x y = le_trans (pow_mono (x tt)) (le_trans (le_of_eq (sym (one-mul (2 ^ p)))) (mul-le-mul_right (2 ^ p) (let l : 1 ≤ 2 ^ d - m = omega arith in l)))
    go false x y =
        let q : 2 ^ suc p ≤ 2 ^ d = pow_mono (y tt) in
        let e : 2 ^ suc p ≡ 2 ^ p * 2 = pow-suc 2 p in
        let l : 2 ^ d ≤ (2 ^ d - m) * 2 = omega arith in
        le_trans l (mul-le-mul (le_refl (2 ^ d - m)) (pow_mono P))

gap : (f : Format) (m : ℕ) (e : ℤ) → Held f m e → m * up e < down e → down e ≤ (down e - m * up e) * 2 ^ prec f
gap f m (pos k) h l =
    let z : 1 ≤ 1 - m * 2 ^ k = omega arith in
    le_trans (pow_pos (prec f)) (le_trans (le_of_eq (sym (one-mul (2 ^ prec f)))) (mul-le-mul_right (2 ^ prec f) z))
gap f m (negsuc k) h l =
    subst (λ (n : ℕ). 2 ^ suc k ≤ (2 ^ suc k - n) * 2 ^ prec f) (sym (mul-one m))
    (least-gap (prec f) m (suc k) (le_trans (lit≤ tt) (two f)) h.digits (subst (λ (n : ℕ). n < 2 ^ suc k) (mul-one m) l))

prec-low : (f : Format) → prec f ≤ low f
prec-low binary32 = lit≤ tt
prec-low binary64 = lit≤ tt

rounded-tent : (f : Format) (a c : ℕ) → 0 < c → a ≤ c → c ≤ a * 2 ^ prec f → Tent f (round f false a c)
rounded-tent f a c C h k =
    let s = rounded-sized f a c 1 C (holds-whole f 1 (pow_pos (prec f))) (le_trans h (le_of_eq (sym (one-mul c)))) in
    record { size = s.size; value = s.value; least = power-least f (prec f) a c s.size (prec-low f) C k s.value; greatest = s.greatest }

tent-of : (f : Format) (q : Float) → T (fits f q) → T (lt zero+ (sub f float_one (absolute q))) → Tent f (sub f float_one (absolute q))
unfolding absolute sub add neg lt
tent-of f nan t p = absurd p
tent-of f (inf s) t p = absurd p
tent-of f (fin s m e) t p = fold (sub_at f float_one (fin false m e) false false (down e) (m * up e) (down e) (down_pos e) (one-is (down e)) (refl, refl))
  where
    go : (b : Bool) → (T b → m * up e < down e) → (T (not b) → down e ≤ m * up e) → T (lt zero+ (sum f false (down e) true (m * up e) (down e)))
        → Tent f (sum f false (down e) true (m * up e) (down e))
    go true l n q =
        let a = down e - m * up e in
        let x : m * up e < down e = l tt in
        subst (λ (z : Float). Tent f z) (sym (minus-at-most f (down e) (m * up e) (down e) (le_of_lt x)))
        (rounded-tent f a (down e) (down_pos e) (omega arith) (gap f m e (held f s m e t) x))
    go false l n q = absurd (subst T (at-most-sum f (down e) (m * up e) (down_pos e) (n tt)) q)

    fold : sub f float_one (fin false m e) ≡ sum f false (down e) true (m * up e) (down e) → Tent f (sub f float_one (fin false m e))
    fold x = subst (λ (z : Float). Tent f z) (sym x)
        (go (ltb (m * up e) (down e)) (ltb→lt (m * up e) (down e)) (nltb→le (m * up e) (down e)) (subst (λ (z : Float). T (lt zero+ z)) x p))

pub tent-size : (w : Window) (j : ℤ) → T (lt zero+ (tent_of w j)) → Tent binary64 (tent_of w j)
unfolding tent_of
tent-size w j t = tent-of binary64 (div binary64 (sub binary64 (of_int binary64 j) w.center) w.support)
    (div-fits binary64 (sub binary64 (of_int binary64 j) w.center) w.support) t

tent-fits : (w : Window) (j : ℤ) → T (fits binary64 (tent_of w j))
unfolding tent_of
tent-fits w j = sub-fits binary64 float_one (absolute (div binary64 (sub binary64 (of_int binary64 j) w.center) w.support))

-- ---- the sum of the positive tents is at least each of them

-- one more
record More (f : Format) (x : Float) (n G g : ℕ) : Type 0 where
  pub sized : Sized f x n
  pub old : G ≤ sized.size
  pub new : g ≤ sized.size

both-plus : (f : Format) (a b c : ℕ) → sum f false a false b c ≡ round f false (a + b) c
unfolding sum
both-plus f a b c = refl

add-more : (f : Format) (x t : Float) (n G g : ℕ) → T (fits f x) → T (fits f t) → HasValue x false G (2 ^ low f) → HasValue t false g (2 ^ low f)
    → G ≤ n * 2 ^ low f → g ≤ 1 * 2 ^ low f → Holds f (n + 1) 1 → More f (add f x t) (n + 1) G g
add-more f x t n G g X Y v w h k H =
    let U = 2 ^ low f in
    let P : 0 < U = pow_pos (low f) in
    let e : add f x t ≡ round f false (G + g) U = add_at f x t false false G g U P v w ∙ both-plus f G g U in
    let s = rounded-sized f (G + g) U (n + 1) P H (le_trans (add-le-add h k) (le_of_eq (sym (add-mul n 1 U)))) in
    let at : (y : Float) (a : ℕ) → T (fits f y) → HasValue y false a U → a ≤ G + g → a ≤ s.size =
    (λ y a Q p l. keeps f a U (G + g) U a s.size P P (mul-le-mul_right U l)
    (subst (λ (z : Float). HasValue z false a U) (sym (round-to f y false a U P Q p)) p) s.value) in
    subst (λ (z : Float). More f z (n + 1) G g) (sym e) (record { sized = s; old = at x G X v (omega arith); new = at t g Y w (omega arith) })

-- x is the sum of the first n
record Total (w : Window) (n : ℕ) (x : Float) : Type 0 where
  pub sized : Sized binary64 x n
  pub holds : T (fits binary64 x)
  pub each : (k : ℕ) (t : T (is_reached w k)) → k < n → (tent-size w (w.first +ℤ pos k) t).size ≤ sized.size

-- the size of a tent, whatever the proof that it is positive
same_size : (w : Window) (k : ℕ) (t u : T (is_reached w k)) → (tent-size w (w.first +ℤ pos k) t).size ≡ (tent-size w (w.first +ℤ pos k) u).size
same_size w k t u = ap (λ (q : T (is_reached w k)). (tent-size w (w.first +ℤ pos k) q).size) (T_prop (is_reached w k) t u)

zero-fits : T (fits binary64 zero+)
unfolding fits
zero-fits = tt

zero-sized : (f : Format) → Sized f zero+ 0
zero-sized f = record { size = 0; value = (refl, zero-mul (2 ^ low f)); greatest = zero-le }

abbrev next_sized : (f : Format) (x : Float) (n : ℕ) → Sized f x n → Sized f x (suc n)
next_sized f x n s = record {
  size = s.size;
  value = s.value;
  greatest =
      le_trans s.greatest (mul-le-mul_right (2 ^ low f) (let l : n ≤ suc n = omega arith in l));
}

module _ (w : Window) (n : ℕ) (x : Float) (s : Total w n x) (l : suc n ≤ 2 ^ 31) where
  -- a number with no weight
  passed : is_reached w n ≡ false → Total w (suc n) x
  passed e =
      record {
        sized = next_sized binary64 x n s.sized;
        holds = s.holds;
        each = λ k t h.
            elim (eq-or-lt_of_le (le_of_suc-le-suc h)) [
              | inl q ↦ absurd (subst T (ap (is_reached w) q ∙ e) t)
              | inr q ↦ s.each k t q
            ];
      }

  -- a number with one
  taken : T (is_reached w n) → Total w (suc n) (add binary64 x (tent_of w (w.first +ℤ pos n)))
  taken p =
      let j = w.first +ℤ pos n in
      let t = tent-size w j p in
      let m : More binary64 (add binary64 x (tent_of w j)) (suc n) s.sized.size t.size =
      subst (λ (z : ℕ). More binary64 (add binary64 x (tent_of w j)) z s.sized.size t.size) (add-one n)
      (add-more binary64 x (tent_of w j) n s.sized.size t.size s.holds (tent-fits w j) s.sized.value t.value s.sized.greatest t.greatest
      (holds-whole binary64 (n + 1) (le_trans (le_of_eq (add-one n)) (le_trans l (lit≤ tt))))) in
      record {
        sized = m.sized;
        holds = add-fits binary64 x (tent_of w j);
        each = λ k u h.
            elim (eq-or-lt_of_le (le_of_suc-le-suc h)) [
              | inl q ↦ subst (λ (i : ℕ). (v : T (is_reached w i)) → (tent-size w (w.first +ℤ pos i) v).size ≤ m.sized.size) (sym q)
                  (λ v. le_trans (le_of_eq (same_size w n v p)) m.new) u
              | inr q ↦ le_trans (s.each k u q) m.old
            ];
      }

total : (w : Window) (n : ℕ) → n ≤ 2 ^ 31 → Total w n (tent_sum w n)
unfolding tent_sum
total w zero h = record { sized = zero-sized binary64; holds = zero-fits; each = λ k t l. absurd (not-suc-le-zero l) }
total w (suc n) h = go (is_reached w n) refl (total w n (le_trans (le-suc n) h))
  where
    go : (b : Bool) → is_reached w n ≡ b → Total w n (tent_sum w n)
        → Total w (suc n) (cond b (add binary64 (tent_sum w n) (tent_of w (w.first +ℤ pos n))) (tent_sum w n))
    go true e s = taken w n (tent_sum w n) s h (known e)
    go false e s = passed w n (tent_sum w n) s h e

-- ---- the quotient of two narrowed values, the first the smaller

-- finite, with the sign clear, and at most 1
abbrev pub Share : Float → Type 0
Share nan = ⊥
Share (inf s) = ⊥
Share (fin s m e) = (s ≡ false) × (m * up e * 1 ≤ 1 * down e)

pub share-within : (x : Float) → Share x → Within x 1 1
share-within nan h = h
share-within (inf s) h = h
share-within (fin s m e) h = h.1

share-of : (x : Float) (g l : ℕ) → HasValue x false g l → Within x 1 1 → Share x
share-of nan g l h k = h
share-of (inf s) g l h k = h
share-of (fin s m e) g l h k = (h.0, k)

rounded-share : (f : Format) (a c : ℕ) → 0 < c → a ≤ c → Share (round f false a c)
rounded-share f a c C h =
    let w : Within (round f false a c) 1 1 =
    round-within f false a c 1 1 C (zero-lt-suc 0) (holds-whole f 1 (pow_pos (prec f)))
    (le_trans (le_of_eq (mul-one a)) (le_trans h (le_of_eq (sym (one-mul c))))) in
    elim (round-shape f false a c)
    [ inl e ↦ absurd (subst (λ (z : Float). Within z 1 1) e w) | inr v ↦ share-of (round f false a c) (grid f a c) (2 ^ low f) v w ]

not_none : (q k U : ℕ) → 0 < U → U ≤ q * k → 0 < q
not_none q k U P h = first_pos q k (lt_of_lt_of_le P h)

-- g / U is at least 2 ^ -k and at most 1, and G / U at most b
quotient : (f : Format) (k b g G U : ℕ) → k ≤ low f → Holds f b 1 → 0 < U → U ≤ g * 2 ^ k → g ≤ U → g ≤ G → G ≤ b * U
    → Share (div f (round f false g U) (round f false G U))
quotient f k b g G U K H P l h m n =
    let L = 2 ^ low f in
    let Q : 0 < L = pow_pos (low f) in
    let x = rounded-sized f g U 1 P (holds-whole f 1 (pow_pos (prec f))) (le_trans h (le_of_eq (sym (one-mul U)))) in
    let y = rounded-sized f G U b P H n in
    let p = x.size in
    let q = y.size in
    let pq : p ≤ q = keeps f g U G U p q P P (mul-le-mul_right U m) x.value y.value in
    let q-pos : 0 < q = not_none q (2 ^ k) L Q (power-least f k G U q K P (le_trans l (mul-le-mul_right (2 ^ k) m)) y.value) in
    subst (λ (z : Float). Share z) (sym (div-value-at f (round f false g U) (round f false G U) false false p L q L Q q-pos Q x.value y.value))
    (rounded-share f (p * L) (L * q) (mul-pos Q q-pos) (le_trans (mul-le-mul_right L pq) (le_of_eq (mul_comm q L))))

narrow-is : (x : Float) (g c : ℕ) → 0 < c → HasValue x false g c → narrow x ≡ round binary32 false g c
unfolding narrow
narrow-is nan g c C v = absurd v
narrow-is (inf s) g c C v = absurd v
narrow-is (fin s m e) g c C v =
    ap (λ (b : Bool). round binary32 b (m * up e) (down e)) v.0 ∙ round_same binary32 false (m * up e) (down e) g c (down_pos e) C v.1

power-holds : Holds binary32 (2 ^ 31) 1
unfolding round
power-holds = (refl, refl)

-- U stands for the units of binary64: 2 ^ 1074 as a variable
narrowed-share : (t x : Float) (g G n U : ℕ) → 0 < U → HasValue t false g U → HasValue x false G U → U ≤ g * 2 ^ 53 → g ≤ 1 * U → g ≤ G → G ≤ n * U
    → n ≤ 2 ^ 31 → Share (div binary32 (narrow t) (narrow x))
narrowed-share t x g G n U P v w l h m k N =
    subst (λ (z : Float). Share (div binary32 z (narrow x))) (sym (narrow-is t g U P v))
    (subst (λ (z : Float). Share (div binary32 (round binary32 false g U) z)) (sym (narrow-is x G U P w))
    (quotient binary32 53 (2 ^ 31) g G U (lit≤ tt) power-holds P l (le_trans h (le_of_eq (one-mul U))) m (le_trans k (mul-le-mul_right U N))))

pub weight-share : (w : Window) (n k : ℕ) → n ≤ 2 ^ 31 → k < n → T (is_reached w k)
    → Share (div binary32 (narrow (tent_of w (w.first +ℤ pos k))) (narrow (tent_sum w n)))
weight-share w n k N h t =
    let u = tent-size w (w.first +ℤ pos k) t in
    let s = total w n N in
    narrowed-share (tent_of w (w.first +ℤ pos k)) (tent_sum w n) u.size s.sized.size n (2 ^ low binary64) (pow_pos (low binary64)) u.value
    s.sized.value u.least u.greatest (s.each k t h) s.sized.greatest N

-- ---- of every tap

tap-share : (b : Bool) (q : Float) (k : ℕ) (z : Tap) → (T b → Share q) → (m : ℕ) → m < length (tap_of (cond b (Some q) None) k)
    → Share (get_or (tap_of (cond b (Some q) None) k) m z).weight
tap-share true q k z h zero l = h tt
tap-share true q k z h (suc m) l = absurd (let x : suc m < 1 = l in omega arith)
tap-share false q k z h m l = absurd (let x : m < 0 = l in omega arith)

taps_to-share : (w : Window) (src N : ℕ) (z : Tap)
    → ((k : ℕ) → k < N → T (is_reached w k) → Share (div binary32 (narrow (tent_of w (w.first +ℤ pos k))) (narrow w.sum)))
    → (n : ℕ) → n ≤ N → (m : ℕ) → m < length (taps_to w src n) → Share (get_or (taps_to w src n) m z).weight
unfolding taps_to weight_of
taps_to-share w src N z h zero l m x = absurd (let y : m < 0 = x in omega arith)
taps_to-share w src N z h (suc n) l m x =
    let j = w.first +ℤ pos n in
    each_append (λ (t : Tap). Share t.weight) (taps_to w src n) (tap_of (weight_of w j) (clamp_of src j)) z (taps_to-share w src N z h n (le_of_lt l))
    (tap-share (is_reached w n) (div binary32 (narrow (tent_of w j)) (narrow w.sum)) (clamp_of src j) z (h n l)) m x

summed-share : (c s : Float) (k : ℕ) → numbers (unsummed c s).first (unsummed c s).last ≤ 2 ^ 31 → k < numbers (unsummed c s).first (unsummed c s).last
    → T (is_reached (with_sum (unsummed c s)) k)
    → Share (div binary32 (narrow (tent_of (with_sum (unsummed c s)) ((with_sum (unsummed c s)).first +ℤ pos k))) (narrow (with_sum (unsummed c s)).sum))
unfolding tent_of
summed-share c s k N h t = weight-share (unsummed c s) (numbers (unsummed c s).first (unsummed c s).last) k N h t

no-share : (src : ℕ) (z : Tap) (m : ℕ) → m < length (taps_of empty src) → Share (get_or (taps_of empty src) m z).weight
unfolding numbers taps_to
no-share src z m l = absurd (let x : m < 0 = l in omega arith)

pub taps-share : (src dst i : ℕ) (z : Tap) (n : ℕ) → n < length (taps src dst i) → Share (get_or (taps src dst i) n z).weight
unfolding taps
taps-share src dst i z =
    window-cases (λ (w : Window). numbers w.first w.last ≤ 2 ^ 31 → (n : ℕ) → n < length (taps_of w src)
    → Share (get_or (taps_of w src) n z).weight) src dst i
    (λ N. no-share src z)
    (λ A B C D I N.
    let w = with_sum (unsummed (center_of src dst i) (support_of src dst)) in
    taps_to-share w src (numbers w.first w.last) z (λ k l t. summed-share (center_of src dst i) (support_of src dst) k N l t)
    (numbers w.first w.last) (le_refl (numbers w.first w.last)))
    (window-numbers-small src dst i)

pub weights-within : (src dst i : ℕ) (z : Tap) (n : ℕ) → n < length (taps src dst i) → Within (get_or (taps src dst i) n z).weight 1 1
weights-within src dst i z n l = share-within (get_or (taps src dst i) n z).weight (taps-share src dst i z n l)
