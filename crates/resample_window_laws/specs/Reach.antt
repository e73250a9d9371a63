-- How many taps a window has: a number with a positive tent lies less than `reach`, the least whole number that is at least src
-- / dst, from the centre, so there are at most 2 * reach of them.
-- In units of the smallest float the distance is exact, and every step after it is a rounding, which keeps the order. A tap reads inside the source.
use Rattle.std.specs.Prelude.{Some, None, ◌≡◌, refl, ◌⊎◌, Bool, true, false, not, cond, ℕ, zero, suc, ◌+◌, ◌-◌, ◌*◌, ◌/◌, ◌^◌, ◌≤◌, ◌<◌, ℤ, pos, negsuc, neg_ℤ, nat_abs, ◌+ℤ◌, ◌-ℤ◌, ◌*ℤ◌, length, T, ltb, eqb, Float}
use Rattle.std.proofs.Common.{sym, ap, ◌∙◌, subst, inl, inr, true≢false, zero-le, le_refl, le_trans, le_of_eq, lt_of_lt_of_le, lt_of_not-le, zero-lt-suc, mul-one, one-mul, zero-mul, mul_comm, mul_assoc, mul-pos, mul-le-mul, mul-le-mul_right, add-mul, suc-mul, lt_of_mul-lt-mul_right, div-lt_iff_lt-mul, le-div_iff_mul-le, arith, length-append, ltb→lt, nltb→le, eqb→eq, lit≤, pow_pos}
use Rattle.std.proofs.Math.Nat.{lt-div-mul-add}
use Rattle.std.proofs.Math.IntN.{suc_ℤ-*ℤ, +ℤ-suc_ℤ, +ℤ_assoc, +ℤ_comm, +ℤ_idr}
use Rattle.std.proofs.Math.Arith.{le→nltb}
use Rattle.std.specs.Float.{nan, inf, fin, Format, binary32, binary64}
use Rattle.std.specs.Float.Ieee.{prec, low, unlike, up, down, round, of_int, neg, sum, add, sub, div, lt, le}
use Rattle.std.specs.Float.Ieee.Bits.{is_true, is_false}
use Rattle.std.specs.Float.Ieee.Back.{round_whole}
use Rattle.std.specs.Float.Ieee.Exact.{HasValue}
use Rattle.std.specs.Float.Ieee.Fits.{and_r, down_pos}
use Rattle.std.specs.Float.Ieee.Order.{round_mono}
use Rattle.std.specs.Float.Ieee.Scale.{grid}
use Rattle.float.specs.Base.{zero+, two_to}
use Rattle.float.specs.Known.{known}
use Rattle.float.specs.Calls.{absolute}
use Rattle.float.specs.Fraction.{value-scale, neg_value, sub_at, at_most}
use Rattle.float_laws.specs.Product.{div-value-at}
use Rattle.float.specs.Rounding.{neg-round, round-shape}
use Rattle.float_laws.specs.Values.{Is, Within, Holds}
use Rattle.float_laws.specs.Exact.{abs-signed, is-neg, every-finite}
use Rattle.float_laws.specs.AddError.{add_once}
use Rattle.float_laws.specs.Bounds.{holds-whole, round-within, within-finite}
use Rattle.resample_window.specs.declared.Window.{Window}
use Rattle.resample_window.specs.Window.{tent_of, weight_of, numbers, center_of, support_of, unsummed, with_sum, empty, clamp_of, tap_of, taps_to, taps_of, taps}
use Rattle.picture.specs.Sizes.{longest_side}
use Rattle.resample_window_laws.specs.Support.{one-is, Between, support-between, center-fits, nat_abs-add, window-numbers-small}
use Rattle.resample_window.specs.Range.{center-within, window-cases, first-within, span}

-- ---- the least whole number that is at least src / dst

unfoldable pub reach : ℕ → ℕ → ℕ
reach src dst = (src + dst - 1) / dst

pub reach-covers : (src dst : ℕ) → 0 < dst → src ≤ reach src dst * dst
unfolding reach
reach-covers src dst D = let l : src + dst - 1 < (src + dst - 1) / dst * dst + dst = lt-div-mul-add D in omega arith

pub reach-pos : (src dst : ℕ) → 0 < src → 0 < dst → 1 ≤ reach src dst
unfolding reach
reach-pos src dst S D = (le-div_iff_mul-le D).1 (let e : 1 * dst ≡ dst = one-mul dst in omega arith)

pub reach-top : (src dst : ℕ) → 0 < dst → reach src dst ≤ src
unfolding reach
reach-top src dst D =
    let e : (src + 1) * dst ≡ src * dst + dst = add-mul src 1 dst ∙ ap (λ (z : ℕ). src * dst + z) (one-mul dst) in
    let g : src ≤ src * dst = le_trans (le_of_eq (sym (mul-one src))) (mul-le-mul (le_refl src) D) in
    let l : (src + dst - 1) / dst < src + 1 = (div-lt_iff_lt-mul D).1 (omega arith) in
    omega arith

-- ---- a float that is at least 1, taken from 1, is not above zero

abbrev pub float_one : Float
float_one = two_to 0

not-above-of-sign : (x : Float) (a c : ℕ) → HasValue x true a c → lt zero+ x ≡ false
unfolding lt
not-above-of-sign nan a c h = absurd h
not-above-of-sign (inf s) a c h = absurd h
not-above-of-sign (fin true m e) a c h = refl
not-above-of-sign (fin false m e) a c h = absurd (true≢false (sym h.0))

negative-round : (f : Format) (a c : ℕ) → lt zero+ (round f true a c) ≡ false
unfolding lt
negative-round f a c =
    elim (round-shape f true a c) [
      | inl e ↦ ap (λ (z : Float). lt zero+ z) e
      | inr v ↦ not-above-of-sign (round f true a c) (grid f a c) (2 ^ low f) v
    ]

no_more : (x : Float) → Within x 0 1 → lt zero+ x ≡ false
unfolding lt
no_more nan h = absurd h
no_more (inf s) h = absurd h
no_more (fin true m e) h = refl
no_more (fin false m e) h = is_false (ltb (0 * 1 * down e) (m * up e * 1)) (le→nltb (0 * 1 * down e) (m * up e * 1) h)

zero-round : (f : Format) (c : ℕ) → 0 < c → lt zero+ (round f false 0 c) ≡ false
zero-round f c C = no_more (round f false 0 c)
    (round-within f false 0 c 0 1 C (zero-lt-suc 0) (holds-whole f 0 zero-le) (le_of_eq (zero-mul 1 ∙ sym (zero-mul c))))

pub at-most-sum : (f : Format) (c a : ℕ) → 0 < c → c ≤ a → lt zero+ (sum f false c true a c) ≡ false
unfolding sum
at-most-sum f c a C h = go (ltb c a) (nltb→le c a)
  where
    go : (b : Bool) → (T (not b) → a ≤ c) → lt zero+ (cond b (round f true (a - c) c) (round f false (c - a) c)) ≡ false
    go true k = negative-round f (a - c) c
    go false k = ap (λ (z : ℕ). lt zero+ (round f false z c)) (let z : c - a ≡ 0 = omega arith in z) ∙ zero-round f c C

less_one : (f : Format) (q : Float) → T (le float_one q) → lt zero+ (sub f float_one q) ≡ false
unfolding le lt sub add neg
less_one f nan t = absurd t
less_one f (inf true) t = absurd t
less_one f (inf false) t = refl
less_one f (fin true m e) t =
    let z : 1 * 1 * down e ≡ 0 = eqb→eq (1 * 1 * down e) 0 (and_r (eqb (1 * 1 * down e) (m * up e * 1)) (eqb (1 * 1 * down e) 0) t) in
    let d : 1 * 1 * down e ≡ down e = one-mul (down e) in
    let p = down_pos e in
    absurd (omega arith)
less_one f (fin false m e) t =
    ap (λ (z : Float). lt zero+ z) (sub_at f float_one (fin false m e) false false (down e) (m * up e) (down e) (down_pos e) (one-is (down e)) (refl, refl))
    ∙ at-most-sum f (down e) (m * up e) (down_pos e)
    (at_most float_one (fin false m e) (down e) (m * up e) (down e) (down_pos e) (one-is (down e)) (refl, refl) t)

-- ---- the size of a rounded fraction is the rounded size

absolute-of : (x : Float) (a c : ℕ) → HasValue x false a c → absolute x ≡ x
unfolding absolute
absolute-of nan a c h = absurd h
absolute-of (inf s) a c h = absurd h
absolute-of (fin true m e) a c h = absurd (true≢false h.0)
absolute-of (fin false m e) a c h = refl

absolute-neg : (x : Float) → absolute (neg x) ≡ absolute x
unfolding absolute neg
absolute-neg nan = refl
absolute-neg (inf s) = refl
absolute-neg (fin s m e) = refl

absolute-inf : (s : Bool) → absolute (inf s) ≡ inf false
unfolding absolute
absolute-inf s = refl

absolute-false : (f : Format) (a c : ℕ) → absolute (round f false a c) ≡ round f false a c
absolute-false f a c =
    elim (round-shape f false a c) [
      | inl e ↦ ap absolute e ∙ absolute-inf false ∙ sym e
      | inr v ↦ absolute-of (round f false a c) (grid f a c) (2 ^ low f) v
    ]

absolute-round : (f : Format) (s : Bool) (a c : ℕ) → absolute (round f s a c) ≡ round f false a c
absolute-round f false a c = absolute-false f a c
absolute-round f true a c = ap absolute (sym (neg-round f false a c)) ∙ absolute-neg (round f false a c) ∙ absolute-false f a c

-- ---- a tent, in any format: where the difference is at least r in size and the support at most r, it is not above zero

abbrev tent_at : Format → Float → Float → Float
tent_at f d s = sub f float_one (absolute (div f d s))

round-one : (f : Format) → round f false 1 1 ≡ float_one
unfolding round
round-one binary32 = refl
round-one binary64 = refl

-- the quotient of two values, the first the larger
wide-quotient : (f : Format) (d s : Float) (t : Bool) (g S U : ℕ) → 0 < U → 0 < S → S ≤ g → HasValue d t g U → HasValue s false S U
    → T (le float_one (absolute (div f d s)))
wide-quotient f d s t g S U P Q h v w =
    let e : absolute (div f d s) ≡ round f false (g * U) (U * S) =
    ap absolute (div-value-at f d s t false g U S U P Q P v w) ∙ absolute-round f (unlike t false) (g * U) (U * S) in
    let k : 1 * (U * S) ≤ g * U * 1 =
    le_trans (le_of_eq (one-mul (U * S) ∙ mul_comm U S)) (le_trans (mul-le-mul_right U h) (le_of_eq (sym (mul-one (g * U))))) in
    let m : T (le (round f false 1 1) (round f false (g * U) (U * S))) = round_mono f 1 1 (g * U) (U * S) (zero-lt-suc 0) (mul-pos P Q) k in
    subst (λ (z : Float). T (le float_one z)) (sym e) (subst (λ (z : Float). T (le z (round f false (g * U) (U * S)))) (round-one f) m)

inf-quotient : (f : Format) (t : Bool) (s : Float) (S U : ℕ) → HasValue s false S U → lt zero+ (tent_at f (inf t) s) ≡ false
unfolding div absolute sub add neg lt
inf-quotient f t nan S U w = absurd w
inf-quotient f t (inf u) S U w = absurd w
inf-quotient f t (fin u m e) S U w = refl

-- a fraction of at least r rounds to at least r
holds-below : (f : Format) (t : Bool) (n r : ℕ) → Holds f r 1 → r * 2 ^ low f ≤ n → HasValue (round f t n (2 ^ low f)) t (grid f n (2 ^ low f)) (2 ^ low f)
    → r * 2 ^ low f ≤ grid f n (2 ^ low f)
holds-below f t n r H h v =
    let U = 2 ^ low f in
    let P : 0 < U = pow_pos (low f) in
    let m : T (le (round f false r 1) (round f false n U)) = round_mono f r 1 n U (zero-lt-suc 0) P (le_trans h (le_of_eq (sym (mul-one n)))) in
    at_most (round f false r 1) (round f false n U) (r * U) (grid f n U) U P
    (subst (λ (z : ℕ). HasValue (round f false r 1) false (r * U) z) (one-mul U) (value-scale (round f false r 1) false r 1 U H))
    (same t v) m
  where
    same : (t : Bool) → HasValue (round f t n (2 ^ low f)) t (grid f n (2 ^ low f)) (2 ^ low f)
        → HasValue (round f false n (2 ^ low f)) false (grid f n (2 ^ low f)) (2 ^ low f)
    same false k = k
    same true k = subst (λ (z : Float). HasValue z false (grid f n (2 ^ low f)) (2 ^ low f)) (neg-round f true n (2 ^ low f))
        (neg_value (round f true n (2 ^ low f)) true (grid f n (2 ^ low f)) (2 ^ low f) k)

far-round : (f : Format) (t : Bool) (n r : ℕ) (s : Float) → Holds f r 1 → Between f s r → r * 2 ^ low f ≤ n
    → lt zero+ (tent_at f (round f t n (2 ^ low f)) s) ≡ false
far-round f t n r s H w h =
    elim (round-shape f t n (2 ^ low f)) [
      | inl e ↦ ap (λ (z : Float). lt zero+ (tent_at f z s)) e ∙ inf-quotient f t s w.size (2 ^ low f) w.value
      | inr v ↦
          less_one f (absolute (div f (round f t n (2 ^ low f)) s))
          (wide-quotient f (round f t n (2 ^ low f)) s t (grid f n (2 ^ low f)) w.size (2 ^ low f) (pow_pos (low f))
          (lt_of_lt_of_le (pow_pos (low f)) w.least) (le_trans w.greatest (holds-below f t n r H h v)) v w.value)
    ]

-- a whole number in units
whole_is : (f : Format) (j : ℤ) (U : ℕ) → nat_abs j ≤ 2 ^ prec f → Is U (of_int f j) (j *ℤ pos U)
unfolding of_int
whole_is f (pos n) U h =
    record {
      sign = false;
      size = n * U;
      value =
          subst (λ (z : ℕ). HasValue (round f false n 1) false (n * U) z) (one-mul U)
          (value-scale (round f false n 1) false n 1 U (round_whole f false n h));
      whole = refl;
    }
whole_is f (negsuc n) U h =
    record {
      sign = true;
      size = suc n * U;
      value =
          subst (λ (z : ℕ). HasValue (round f true (suc n) 1) true (suc n * U) z) (one-mul U)
          (value-scale (round f true (suc n) 1) true (suc n) 1 U (round_whole f true (suc n) h));
      whole = refl;
    }

-- how far the number j is from the centre z, in units
far : (f : Format) (c s : Float) (j z : ℤ) (r : ℕ) → nat_abs j ≤ 2 ^ prec f → Is (2 ^ low f) c z → Holds f r 1 → Between f s r
    → r * 2 ^ low f ≤ nat_abs (j *ℤ pos (2 ^ low f) -ℤ z) → lt zero+ (tent_at f (sub f (of_int f j) c) s) ≡ false
unfolding sub
far f c s j z r J h H w l =
    let o = add_once f (2 ^ low f) (pow_pos (low f)) (whole_is f j (2 ^ low f) J) (is-neg h) in
    let n : nat_abs (j *ℤ pos (2 ^ low f) -ℤ z) ≡ o.size = ap nat_abs (sym o.whole) ∙ abs-signed o.sign o.size in
    ap (λ (v : Float). lt zero+ (tent_at f v s)) o.is ∙ far-round f o.sign o.size r s H w (le_trans l (le_of_eq n))

-- ---- two numbers that both have a weight

times_more : (j : ℤ) (k U : ℕ) → (j +ℤ pos k) *ℤ pos U ≡ j *ℤ pos U +ℤ pos (k * U)
times_more j zero U = ap (λ (z : ℤ). z *ℤ pos U) (+ℤ_idr j) ∙ sym (ap (λ (z : ℕ). j *ℤ pos U +ℤ pos z) (zero-mul U) ∙ +ℤ_idr (j *ℤ pos U))
times_more j (suc k) U =
    ap (λ (z : ℤ). z *ℤ pos U) (+ℤ-suc_ℤ j (pos k))
    ∙ suc_ℤ-*ℤ (j +ℤ pos k) (pos U)
    ∙ ap (λ (z : ℤ). z +ℤ pos U) (times_more j k U)
    ∙ +ℤ_assoc (j *ℤ pos U) (pos (k * U)) (pos U)
    ∙ ap (λ (z : ℕ). j *ℤ pos U +ℤ pos z) (sym (suc-mul k U))

apart : (x : ℤ) (d R : ℕ) → nat_abs x < R → nat_abs (x +ℤ pos d) < R → d < 2 * R
apart (pos n) d R h k = omega arith
apart (negsuc n) d R h k = go (ltb d (suc n)) (ltb→lt d (suc n)) k
  where
    go : (t : Bool) → (T t → d < suc n) → nat_abs (cond t (negsuc (suc n - suc d)) (pos (d - suc n))) < R → d < 2 * R
    go true m l = let x : d < suc n = m tt in omega arith
    go false m l = omega arith

-- both less than r from the centre, so less than 2 * r from each other
close : (j z : ℤ) (d r U : ℕ) → nat_abs (j *ℤ pos U -ℤ z) < r * U → nat_abs ((j +ℤ pos d) *ℤ pos U -ℤ z) < r * U → d < 2 * r
close j z d r U h k =
    let x = j *ℤ pos U in
    let e : (j +ℤ pos d) *ℤ pos U -ℤ z ≡ (x -ℤ z) +ℤ pos (d * U) =
    ap (λ (v : ℤ). v -ℤ z) (times_more j d U)
    ∙ +ℤ_assoc x (pos (d * U)) (neg_ℤ z)
    ∙ ap (λ (v : ℤ). x +ℤ v) (+ℤ_comm (pos (d * U)) (neg_ℤ z))
    ∙ sym (+ℤ_assoc x (neg_ℤ z) (pos (d * U))) in
    lt_of_mul-lt-mul_right U (subst (λ (v : ℕ). d * U < v) (sym (mul_assoc 2 r U)) (apart (x -ℤ z) (d * U) (r * U) h (subst (λ (v : ℤ). nat_abs v < r * U) e k)))

-- ---- counting: where those that pass lie less than N from each other, at most N pass

abbrev count : (ℕ → Bool) → ℕ → ℕ
count P zero = 0
count P (suc n) = count P n + cond (P n) 1 0

-- those below n that pass stand from `at` on
record Seen (P : ℕ → Bool) (N n : ℕ) : Type 0 where
  pub at : ℕ
  pub before : at < n
  pub passes : T (P at)
  pub room : count P n ≤ n - at
  pub few : count P n ≤ N

abbrev Spread : (ℕ → Bool) → ℕ → ℕ → Type 0
Spread P N n = (a b : ℕ) → a < b → b < n → T (P a) → T (P b) → b - a < N

seen : (P : ℕ → Bool) (N n : ℕ) → 0 < N → Spread P N n → (count P n ≡ 0) ⊎ Seen P N n
seen P N zero Q h = inl refl
seen P N (suc n) Q h = go (P n) refl (seen P N n Q (λ a b l m p q. h a b l (let k : b < suc n = omega arith in k) p q))
  where
    go : (t : Bool) → P n ≡ t → (count P n ≡ 0) ⊎ Seen P N n → (count P n + cond (P n) 1 0 ≡ 0) ⊎ Seen P N (suc n)
    go false e (inl z) = inl (ap (λ (b : Bool). count P n + cond b 1 0) e ∙ (let k : count P n + 0 ≡ 0 = omega arith in k))
    go true e (inl z) =
        let c : count P n + cond (P n) 1 0 ≡ count P n + 1 = ap (λ (b : Bool). count P n + cond b 1 0) e in
        inr (record { at = n; before = le_refl (suc n); passes = known e; room = omega arith; few = omega arith })
    go false e (inr s) =
        let c : count P n + cond (P n) 1 0 ≡ count P n + 0 = ap (λ (b : Bool). count P n + cond b 1 0) e in
        let l = s.before in
        let r = s.room in
        let f = s.few in
        inr (record { at = s.at; before = omega arith; passes = s.passes; room = omega arith; few = omega arith })
    go true e (inr s) =
        let c : count P n + cond (P n) 1 0 ≡ count P n + 1 = ap (λ (b : Bool). count P n + cond b 1 0) e in
        let l = s.before in
        let r = s.room in
        let g : n - s.at < N = h s.at n l (le_refl (suc n)) s.passes (known e) in
        inr (record { at = s.at; before = omega arith; passes = s.passes; room = omega arith; few = omega arith })

count-few : (P : ℕ → Bool) (N n : ℕ) → 0 < N → Spread P N n → count P n ≤ N
count-few P N n Q h = elim (seen P N n Q h) [ inl z ↦ le_trans (le_of_eq z) zero-le | inr s ↦ s.few ]

-- ---- a window's taps

-- whether the number at place k of the window has a weight
abbrev pub is_reached : Window → ℕ → Bool
is_reached w k = lt zero+ (tent_of w (w.first +ℤ pos k))

tap-count : (w : Window) (j : ℤ) (k : ℕ) → length (tap_of (weight_of w j) k) ≡ cond (lt zero+ (tent_of w j)) 1 0
unfolding weight_of
tap-count w j k = go (lt zero+ (tent_of w j)) _
  where
    go : (b : Bool) (q : Float) → length (tap_of (cond b (Some q) None) k) ≡ cond b 1 0
    go true q = refl
    go false q = refl

taps-count : (w : Window) (src n : ℕ) → length (taps_to w src n) ≡ count (is_reached w) n
unfolding taps_to
taps-count w src zero = refl
taps-count w src (suc n) =
    length-append (taps_to w src n) (tap_of (weight_of w (w.first +ℤ pos n)) (clamp_of src (w.first +ℤ pos n)))
    ∙ ap (λ (z : ℕ). z + length (tap_of (weight_of w (w.first +ℤ pos n)) (clamp_of src (w.first +ℤ pos n)))) (taps-count w src n)
    ∙ ap (λ (z : ℕ). count (is_reached w) n + z) (tap-count w (w.first +ℤ pos n) (clamp_of src (w.first +ℤ pos n)))

-- a positive tent at j: j is less than r from the centre z, in units
pub tent-near : (w : Window) (z j : ℤ) (r : ℕ) → Is (2 ^ low binary64) w.center z → Between binary64 w.support r → r ≤ longest_side
    → nat_abs j ≤ 2 ^ prec binary64 → T (lt zero+ (tent_of w j))
    → nat_abs (j *ℤ pos (2 ^ low binary64) -ℤ z) < r * 2 ^ low binary64
unfolding tent_of
tent-near w z j r h b R J t =
    lt_of_not-le (λ (l : r * 2 ^ low binary64 ≤ nat_abs (j *ℤ pos (2 ^ low binary64) -ℤ z)).
    true≢false (sym (is_true (lt zero+ (tent_of w j)) t) ∙ far binary64 w.center w.support j z r J h (holds-whole binary64 r (le_trans R (lit≤ tt))) b l))

place-small : (j : ℤ) (k : ℕ) → nat_abs j ≤ span → k < 2 ^ 31 → nat_abs (j +ℤ pos k) ≤ 2 ^ prec binary64
place-small j k h l = le_trans (nat_abs-add j (pos k)) (omega arith)

place-more : (j : ℤ) (a b : ℕ) → a < b → j +ℤ pos b ≡ j +ℤ pos a +ℤ pos (b - a)
place-more j a b h = ap (λ (z : ℕ). j +ℤ pos z) (let e : b ≡ a + (b - a) = omega arith in e) ∙ sym (+ℤ_assoc j (pos a) (pos (b - a)))

pub window-few : (w : Window) (src r n : ℕ) (z : ℤ) → Is (2 ^ low binary64) w.center z → Between binary64 w.support r → 1 ≤ r → r ≤ longest_side
    → nat_abs w.first ≤ span → n ≤ 2 ^ 31 → length (taps_to w src n) ≤ 2 * r
window-few w src r n z h b P R F N =
    le_trans (le_of_eq (taps-count w src n)) (count-few (is_reached w) (2 * r) n (omega arith) spread)
  where
    near : (k : ℕ) → k < n → T (is_reached w k) → nat_abs ((w.first +ℤ pos k) *ℤ pos (2 ^ low binary64) -ℤ z) < r * 2 ^ low binary64
    near k l t = tent-near w z (w.first +ℤ pos k) r h b R (place-small w.first k F (lt_of_lt_of_le l N)) t

    spread : (a c : ℕ) → a < c → c < n → T (is_reached w a) → T (is_reached w c) → c - a < 2 * r
    spread a c l m p q =
        close (w.first +ℤ pos a) z (c - a) r (2 ^ low binary64) (near a (let k : a < n = omega arith in k) p)
        (subst (λ (v : ℤ). nat_abs (v *ℤ pos (2 ^ low binary64) -ℤ z) < r * 2 ^ low binary64) (place-more w.first a c l) (near c m q))

pub support-reach : (src dst : ℕ) → 0 < src → src ≤ longest_side → 0 < dst → dst ≤ longest_side → Between binary64 (support_of src dst) (reach src dst)
support-reach src dst A B C D =
    support-between src dst (reach src dst) B C D (reach-pos src dst A C) (le_trans (reach-top src dst C) B) (reach-covers src dst C)

no-taps : (src : ℕ) → length (taps_of empty src) ≡ 0
unfolding numbers taps_to
no-taps src = refl

pub taps-few : (src dst i : ℕ) → length (taps src dst i) ≤ 2 * reach src dst
unfolding taps
taps-few src dst i =
    window-cases (λ (w : Window). nat_abs w.first ≤ span → numbers w.first w.last ≤ 2 ^ 31 → length (taps_of w src) ≤ 2 * reach src dst) src dst i
    (λ F N. le_trans (le_of_eq (no-taps src)) zero-le)
    (λ A B C D I F N.
    let z = every-finite binary64 (center_of src dst i) (center-fits src dst i)
    (within-finite (center_of src dst i) (2 ^ 14 + 1) 1 (center-within src dst i B C D I)) in
    let w = with_sum (unsummed (center_of src dst i) (support_of src dst)) in
    window-few w src (reach src dst) (numbers w.first w.last) z.0 z.1 (support-reach src dst A B C D) (reach-pos src dst A C)
    (le_trans (reach-top src dst C) B) F N)
    (first-within src dst i) (window-numbers-small src dst i)

-- ---- room for the taps of 256 samples, and of 256 samples' enlargement

pub taps-room-down : (src : ℕ) → src ≤ longest_side → 256 * (2 * reach src 256) ≤ 16384
unfolding reach
taps-room-down src h = let l : (src + 256 - 1) / 256 ≤ 32 = omega arith in omega arith

pub taps-room-up : (dst : ℕ) → 256 ≤ dst → dst ≤ longest_side → dst * (2 * reach 256 dst) ≤ 16384
unfolding reach
taps-room-up dst h k =
    let e : 2 * dst ≡ dst + dst = omega arith in
    let p : 0 < dst = omega arith in
    let l : (256 + dst - 1) / dst < 2 = (div-lt_iff_lt-mul p).1 (omega arith) in
    le_trans (mul-le-mul k (let m : 2 * ((256 + dst - 1) / dst) ≤ 2 = omega arith in m)) (lit≤ tt)
