-- A whole number beside a value: below 2 ^ (prec - 1), adding that power and taking it off again leaves one at most a half away
-- (Step), and one comparison then says which whole number `floor` or `round_away` asks for. Generic over the format.
use Rattle.std.specs.Prelude.{◌≡◌, ℕ, zero, suc, ◌+◌, ◌-◌, ◌*◌, ◌/◌, ◌^◌, ◌<◌, ◌≤◌, Bool, true, false, not, T, ℤ, nat_le, nat_lt, refl, Float}
use Rattle.std.proofs.Common.{sym, ap, ◌∙◌, subst, true≢false, le_trans, le_of_eq, zero-lt-suc, mul-one, one-mul, zero-mul, mul_comm, mul_assoc, mul_right_comm, mul_left_comm, mul-pos, mul-le-mul_right, mul-lt-mul_of_pos_right, le_of_mul-le-mul_right, lt_of_mul-lt-mul_right, add-mul, arith, ltb→lt, nltb→le, leb→le, lit≤, lit<, pow-add, pow_pos}
use Rattle.std.proofs.Math.Nat.{div-eq_of_lt-le}
use Rattle.std.proofs.Math.Dec.{nleb→lt}
use Rattle.std.specs.Float.{nan, inf, fin, Format, binary32, binary64}
use Rattle.std.specs.Float.Ieee.{prec, emax, low, up, down, round, neg, sum, add, sub, lt, le, fits}
use Rattle.std.specs.Float.Ieee.Fits.{down_pos, sub-fits}
use Rattle.std.specs.Float.Ieee.Exact.{HasValue}
use Rattle.std.specs.Float.Ieee.Nearest.{closest}
use Rattle.float.specs.Fraction.{add_at, sub_at, lt_at, value-scale, value-rescale, at_most, not-at-most}
use Rattle.float.specs.Rounding.{held, round-to, neg-round, exact-at}
use Rattle.float.specs.Units.{in_units, units_of}
use Rattle.float.specs.Step.{on-and-off, minus-at-most, closest-le}
use Rattle.float.specs.Calls.{floor, round_away, half_away, Under}
use Rattle.float.specs.Whole.{next_multiple, not-below-zero, top_digit}
use Rattle.float.specs.Nearest.{Half, closest-error}
use Rattle.float.specs.Base.{zero+, two_to, minus_two_to, half}
use Rattle.float.specs.Known.{known, known-not}

-- ---- the tests that say so of a value or of its negation

lt-under : (m : ℕ) (e : ℤ) (k : ℕ) → T (nat_lt (m * up e * 1) (1 * 2 ^ k * down e)) → m * up e < 2 ^ k * down e
lt-under m e k q =
    subst (λ (z : ℕ). z < 2 ^ k * down e) (mul-one (m * up e))
    (subst (λ (z : ℕ). m * up e * 1 < z * down e) (one-mul (2 ^ k)) (ltb→lt (m * up e * 1) (1 * 2 ^ k * down e) q))

pub under-above : (k : ℕ) (x : Float) → T (lt zero+ x) → T (lt x (two_to k)) → Under k x
unfolding lt
under-above k nan p q = absurd p
under-above k (inf true) p q = absurd p
under-above k (inf false) p q = absurd q
under-above k (fin true m e) p q = absurd p
under-above k (fin false m e) p q = (refl, lt-under m e k q)

pub under-below : (k : ℕ) (x : Float) → T (lt x zero+) → T (lt (minus_two_to k) x) → Under k (neg x)
unfolding lt neg
under-below k nan p q = absurd p
under-below k (inf true) p q = absurd q
under-below k (inf false) p q = absurd p
under-below k (fin false m e) p q = absurd (not-below-zero m e p)
under-below k (fin true m e) p q = (refl, lt-under m e k q)

-- ---- a whole number q beside a / c, at most a half away

abbrev pub near_whole : Format → Float → Float
near_whole f y = sub f (add f y (two_to (prec f - 1))) (two_to (prec f - 1))

record Beside (f : Format) (y : Float) (a c : ℕ) : Type 0 where
  pub q : ℕ
  pub value : HasValue (near_whole f y) false q 1
  pub top : q ≤ 2 ^ (prec f - 1)
  pub not_more : q * c * 2 ≤ a * 2 + c
  pub not_less : a * 2 ≤ q * c * 2 + c

power-value : (f : Format) → HasValue (two_to (prec f - 1)) false (2 ^ (prec f - 1 + low f)) (2 ^ low f)
power-value f = (
  refl,
  ap (λ (z : ℕ). z * 2 ^ low f) (one-mul (2 ^ (prec f - 1))) ∙ sym (pow-add 2 (prec f - 1) (low f))
      ∙ sym (mul-one (2 ^ (prec f - 1 + low f))),
)

has_room : (f : Format) → prec f + low f < low f + suc (emax f)
has_room binary32 = lit< tt
has_room binary64 = lit< tt

le-across : (X Y x y b c : ℕ) → 0 < b → X * c ≡ x * b → Y * c ≡ y * b → X ≤ Y → x ≤ y
le-across X Y x y b c B p q h = le_of_mul-le-mul_right (le_trans (le_of_eq (sym p)) (le_trans (mul-le-mul_right c h) (le_of_eq q))) B

beside : (f : Format) (m : ℕ) (e : ℤ) → T (fits f (fin false m e)) → Under (prec f - 1) (fin false m e) → Beside f (fin false m e) (m * up e) (down e)
beside f m e t h =
    let a = m * up e in
    let c = down e in
    let b = 2 ^ low f in
    let n = in_units f (fin false m e) in
    let B : 0 < b = pow_pos (low f) in
    let v : HasValue (fin false m e) false n b = units_of f false m e (held f false m e t) in
    let E : a * b ≡ n * c = v.1 in
    let small : n < 2 ^ (prec f - 1 + low f) =
    lt_of_mul-lt-mul_right c
    (subst (λ (z : ℕ). z < 2 ^ (prec f - 1 + low f) * c) E
    (subst (λ (z : ℕ). a * b < z) (mul_right_comm (2 ^ (prec f - 1)) c b ∙ ap (λ (z : ℕ). z * c) (sym (pow-add 2 (prec f - 1) (low f))))
    (mul-lt-mul_of_pos_right h.1 B))) in
    let q = closest n b in
    let w : HasValue (near_whole f (fin false m e)) false (q * b) b =
    on-and-off f n (low f) small (has_room f) (fin false m e) (two_to (prec f - 1)) v (power-value f) in
    let half : Half q n b = closest-error n b B in
    let qs : q * b * 2 * c ≡ q * c * 2 * b = simp (mul_assoc, mul_comm, mul_left_comm) in
    let ns : n * 2 * c ≡ a * 2 * b = mul_right_comm n 2 c ∙ ap (λ (z : ℕ). z * 2) (sym E) ∙ mul_right_comm a b 2 in
    let more : (x y : ℕ) → x * c ≡ y * b → (x + b) * c ≡ (y + c) * b =
    (λ x y p. add-mul x b c ∙ ap (λ (z : ℕ). z + b * c) p ∙ ap (λ (z : ℕ). y * b + z) (mul_comm b c) ∙ sym (add-mul y c b)) in
    record {
      q = q;
      value = value-rescale (near_whole f (fin false m e)) false (q * b) b q 1 B (mul-one (q * b)) w;
      top = closest-le n (low f) (prec f - 1) small;
      not_more = le-across (q * b * 2) (n * 2 + b) (q * c * 2) (a * 2 + c) b c B qs (more (n * 2) (a * 2) ns) half.0;
      not_less = le-across (n * 2) (q * b * 2 + b) (a * 2) (q * c * 2 + c) b c B ns (more (q * b * 2) (q * c * 2) qs) half.1;
    }

-- the whole number itself, one more and one less, as results of the format
near-is : (f : Format) (y : Float) (q : ℕ) → HasValue (near_whole f y) false q 1 → near_whole f y ≡ round f false q 1
near-is f y q v = sym (round-to f (near_whole f y) false q 1 (zero-lt-suc 0) (sub-fits f (add f y (two_to (prec f - 1))) (two_to (prec f - 1))) v)

near-more : (f : Format) (y : Float) (q : ℕ) → HasValue (near_whole f y) false q 1 → add f (near_whole f y) (two_to 0) ≡ round f false (q + 1) 1
near-more f y q v = add_at f (near_whole f y) (two_to 0) false false q 1 1 (zero-lt-suc 0) v (refl, refl) ∙ (unfold sum in refl)

near-less : (f : Format) (y : Float) (q : ℕ) → 1 ≤ q → HasValue (near_whole f y) false q 1 → sub f (near_whole f y) (two_to 0) ≡ round f false (q - 1) 1
near-less f y q h v = sub_at f (near_whole f y) (two_to 0) false false q 1 1 (zero-lt-suc 0) v (refl, refl) ∙ minus-at-most f q 1 1 h

-- ---- down: one less where the whole number is above; of a negative value, one more in size where it is below

near-over : (f : Format) (y : Float) (q c : ℕ) → HasValue (near_whole f y) false q 1 → HasValue (near_whole f y) false (q * c) c
near-over f y q c v = subst (λ (z : ℕ). HasValue (near_whole f y) false (q * c) z) (one-mul c) (value-scale (near_whole f y) false q 1 c v)

not_none : (q c a : ℕ) → a < q * c → 1 ≤ q
not_none zero c a h = absurd (let z : 0 * c ≡ 0 = zero-mul c in omega arith)
not_none (suc q) c a h = omega arith

under-near : (a c q : ℕ) → a < q * c → q * c * 2 ≤ a * 2 + c → a / c ≡ q - 1
under-near a c q h k =
    let o : 1 ≤ q = not_none q c a h in
    let e : (q - 1 + 1) * c ≡ (q - 1) * c + c = next_multiple (q - 1) c in
    let r : (q - 1 + 1) * c ≡ q * c = ap (λ (z : ℕ). z * c) (let z : q - 1 + 1 ≡ q = omega arith in z) in
    div-eq_of_lt-le c (omega arith) (omega arith)

at-near : (a c q : ℕ) → 0 < c → q * c ≤ a → a * 2 ≤ q * c * 2 + c → a / c ≡ q
at-near a c q C h k = let e = next_multiple q c in div-eq_of_lt-le c (omega arith) (omega arith)

over-near : (a c q : ℕ) → 0 < c → q * c < a → a * 2 ≤ q * c * 2 + c → (a + (c - 1)) / c ≡ q + 1
over-near a c q C h k = let e = next_multiple q c in let e2 = next_multiple (q + 1) c in div-eq_of_lt-le c (omega arith) (omega arith)

up-near : (a c q : ℕ) → 0 < c → a ≤ q * c → q * c * 2 ≤ a * 2 + c → (a + (c - 1)) / c ≡ q
up-near a c q C h k = let e = next_multiple q c in div-eq_of_lt-le c (omega arith) (omega arith)

module _ (f : Format) (m : ℕ) (e : ℤ) (t : T (fits f (fin false m e))) (h : Under (prec f - 1) (fin false m e)) where
  above : (b : Bool) → lt (fin false m e) (near_whole f (fin false m e)) ≡ b → nat_lt (m * up e) ((beside f m e t h).q * down e) ≡ b
  above b p =
      let r = beside f m e t h in
      sym (lt_at (fin false m e) (near_whole f (fin false m e)) false false (m * up e) (r.q * down e) (down e) (down_pos e) (refl, refl)
      (near-over f (fin false m e) r.q (down e) r.value)) ∙ p

  beneath : (b : Bool) → lt (near_whole f (fin false m e)) (fin false m e) ≡ b → nat_lt ((beside f m e t h).q * down e) (m * up e) ≡ b
  beneath b p =
      let r = beside f m e t h in
      sym (lt_at (near_whole f (fin false m e)) (fin false m e) false false (r.q * down e) (m * up e) (down e) (down_pos e)
      (near-over f (fin false m e) r.q (down e) r.value) (refl, refl)) ∙ p

-- y has the sign clear and is below 2 ^ (prec - 1)
pub floor-less : (f : Format) (y : Float) → T (fits f y) → Under (prec f - 1) y → lt y (near_whole f y) ≡ true → sub f (near_whole f y) (two_to 0) ≡ floor f y
unfolding floor
floor-less f nan t h p = absurd h
floor-less f (inf s) t h p = absurd h
floor-less f (fin true m e) t h p = absurd (true≢false h.0)
floor-less f (fin false m e) t h p =
    let r = beside f m e t h in
    let l : m * up e < r.q * down e = ltb→lt (m * up e) (r.q * down e) (known (above f m e t h true p)) in
    near-less f (fin false m e) r.q (not_none r.q (down e) (m * up e) l) r.value
    ∙ ap (λ (z : ℕ). round f false z 1) (sym (under-near (m * up e) (down e) r.q l r.not_more))

pub floor-near : (f : Format) (y : Float) → T (fits f y) → Under (prec f - 1) y → lt y (near_whole f y) ≡ false → near_whole f y ≡ floor f y
unfolding floor
floor-near f nan t h p = absurd h
floor-near f (inf s) t h p = absurd h
floor-near f (fin true m e) t h p = absurd (true≢false h.0)
floor-near f (fin false m e) t h p =
    let r = beside f m e t h in
    let l : r.q * down e ≤ m * up e = nltb→le (m * up e) (r.q * down e) (known-not (above f m e t h false p)) in
    near-is f (fin false m e) r.q r.value ∙ ap (λ (z : ℕ). round f false z 1) (sym (at-near (m * up e) (down e) r.q (down_pos e) l r.not_less))

pub floor-neg-more : (f : Format) (y : Float) → T (fits f y) → Under (prec f - 1) y → lt (near_whole f y) y ≡ true
    → neg (add f (near_whole f y) (two_to 0)) ≡ floor f (neg y)
unfolding floor neg
floor-neg-more f nan t h p = absurd h
floor-neg-more f (inf s) t h p = absurd h
floor-neg-more f (fin true m e) t h p = absurd (true≢false h.0)
floor-neg-more f (fin false m e) t h p =
    let r = beside f m e t h in
    let l : r.q * down e < m * up e = ltb→lt (r.q * down e) (m * up e) (known (beneath f m e t h true p)) in
    ap neg (near-more f (fin false m e) r.q r.value)
    ∙ neg-round f false (r.q + 1) 1
    ∙ ap (λ (z : ℕ). round f true z 1) (sym (over-near (m * up e) (down e) r.q (down_pos e) l r.not_less))

pub floor-neg-near : (f : Format) (y : Float) → T (fits f y) → Under (prec f - 1) y → lt (near_whole f y) y ≡ false → neg (near_whole f y) ≡ floor f (neg y)
unfolding floor neg
floor-neg-near f nan t h p = absurd h
floor-neg-near f (inf s) t h p = absurd h
floor-neg-near f (fin true m e) t h p = absurd (true≢false h.0)
floor-neg-near f (fin false m e) t h p =
    let r = beside f m e t h in
    let l : m * up e ≤ r.q * down e = nltb→le (r.q * down e) (m * up e) (known-not (beneath f m e t h false p)) in
    ap neg (near-is f (fin false m e) r.q r.value)
    ∙ neg-round f false r.q 1
    ∙ ap (λ (z : ℕ). round f true z 1) (sym (up-near (m * up e) (down e) r.q (down_pos e) l r.not_more))

-- ---- to the nearest, a half up: one more where y is a half above the whole number

has-half : (f : Format) → 1 ≤ low f
has-half binary32 = lit≤ tt
has-half binary64 = lit≤ tt

-- at 2 ^ (prec - 1) the format has no halves, and the tie goes to the even number
top-half : (f : Format) → round f false (2 ^ prec f + 1) 2 ≡ two_to (prec f - 1)
unfolding round
top-half binary32 = refl
top-half binary64 = refl

twice-top : (f : Format) → 2 ^ (prec f - 1) * 2 ≡ 2 ^ prec f
twice-top f = sym (top_digit f)

half-sum : (f : Format) (y : Float) (q : ℕ) → HasValue (near_whole f y) false q 1 → add f (near_whole f y) half ≡ round f false (q * 2 + 1) 2
half-sum f y q v = add_at f (near_whole f y) half false false (q * 2) 1 2 (zero-lt-suc 1) (near-over f y q 2 v) (refl, refl) ∙ (unfold sum in refl)

module _ (f : Format) (m : ℕ) (e : ℤ) (q : ℕ) (u : m * up e < 2 ^ (prec f - 1) * down e) (top : q ≤ 2 ^ (prec f - 1)) where
  sum-value : q * 2 + 1 ≤ 2 ^ prec f → HasValue (round f false (q * 2 + 1) 2) false ((q * 2 + 1) * down e) (2 * down e)
  sum-value l = value-scale (round f false (q * 2 + 1) 2) false (q * 2 + 1) 2 (down e) (exact-at f false (q * 2 + 1) 1 (has-half f) l)

  own_value : HasValue (fin false m e) false (m * up e * 2) (2 * down e)
  own_value = subst (λ (z : ℕ). HasValue (fin false m e) false (m * up e * 2) z) (mul_comm (down e) 2)
      (value-scale (fin false m e) false (m * up e) (down e) 2 (refl, refl))

  both-pos : 0 < 2 * down e
  both-pos = mul-pos (zero-lt-suc 1) (down_pos e)

  -- beyond the halves of the format q is the power itself, and so is the sum
  at_top : 2 ^ prec f < q * 2 + 1 → q ≡ 2 ^ (prec f - 1)
  at_top l = let d = twice-top f in omega arith

  top-sum : q ≡ 2 ^ (prec f - 1) → round f false (q * 2 + 1) 2 ≡ two_to (prec f - 1)
  top-sum p = ap (λ (z : ℕ). round f false (z * 2 + 1) 2) p ∙ ap (λ (z : ℕ). round f false (z + 1) 2) (twice-top f) ∙ top-half f

  power-over : HasValue (two_to (prec f - 1)) false (2 ^ (prec f - 1) * down e) (down e)
  power-over = (refl, ap (λ (z : ℕ). z * down e) (one-mul (2 ^ (prec f - 1))) ∙ sym (mul-one (2 ^ (prec f - 1) * down e)))

  half-below : T (le (round f false (q * 2 + 1) 2) (fin false m e)) → (q * 2 + 1) * down e ≤ m * up e * 2
  half-below p = go (nat_le (q * 2 + 1) (2 ^ prec f)) (leb→le (q * 2 + 1) (2 ^ prec f)) (nleb→lt (q * 2 + 1) (2 ^ prec f))
    where
      go : (b : Bool) → (T b → q * 2 + 1 ≤ 2 ^ prec f) → (T (not b) → 2 ^ prec f < q * 2 + 1) → (q * 2 + 1) * down e ≤ m * up e * 2
      go true l r = at_most (round f false (q * 2 + 1) 2) (fin false m e) ((q * 2 + 1) * down e) (m * up e * 2) (2 * down e) both-pos
          (sum-value (l tt)) own_value p
      go false l r =
          let k : 2 ^ (prec f - 1) * down e ≤ m * up e =
          at_most (two_to (prec f - 1)) (fin false m e) (2 ^ (prec f - 1) * down e) (m * up e) (down e) (down_pos e) power-over (refl, refl)
          (subst (λ (z : Float). T (le z (fin false m e))) (top-sum (at_top (r tt))) p) in
          absurd (omega arith)

  half-above : T (not (le (round f false (q * 2 + 1) 2) (fin false m e))) → m * up e * 2 < (q * 2 + 1) * down e
  half-above p = go (nat_le (q * 2 + 1) (2 ^ prec f)) (leb→le (q * 2 + 1) (2 ^ prec f)) (nleb→lt (q * 2 + 1) (2 ^ prec f))
    where
      go : (b : Bool) → (T b → q * 2 + 1 ≤ 2 ^ prec f) → (T (not b) → 2 ^ prec f < q * 2 + 1) → m * up e * 2 < (q * 2 + 1) * down e
      go true l r = not-at-most (round f false (q * 2 + 1) 2) (fin false m e) ((q * 2 + 1) * down e) (m * up e * 2) (2 * down e) both-pos
          (sum-value (l tt)) own_value p
      go false l r =
          let k : q * down e ≡ 2 ^ (prec f - 1) * down e = ap (λ (z : ℕ). z * down e) (at_top (r tt)) in
          let d : (q * 2 + 1) * down e ≡ q * down e * 2 + down e =
          add-mul (q * 2) 1 (down e) ∙ ap (λ (z : ℕ). z + 1 * down e) (mul_right_comm q 2 (down e))
          ∙ ap (λ (z : ℕ). q * down e * 2 + z) (one-mul (down e)) in
          omega arith

twice-one : (q c : ℕ) → (q * 2 + 1) * c ≡ q * c * 2 + c
twice-one q c = add-mul (q * 2) 1 c ∙ ap (λ (z : ℕ). z + 1 * c) (mul_right_comm q 2 c) ∙ ap (λ (z : ℕ). q * c * 2 + z) (one-mul c)

half_up : (a c q : ℕ) → 0 < c → (q * 2 + 1) * c ≤ a * 2 → a * 2 ≤ q * c * 2 + c → half_away a c ≡ q + 1
half_up a c q C h k =
    let d = twice-one q c in
    let e : (q + 1) * (c * 2) ≡ q * c * 2 + c * 2 = next_multiple q (c * 2) ∙ ap (λ (z : ℕ). z + c * 2) (sym (mul_assoc q c 2)) in
    let e2 : (q + 1 + 1) * (c * 2) ≡ (q + 1) * (c * 2) + c * 2 = next_multiple (q + 1) (c * 2) in
    div-eq_of_lt-le (c * 2) (omega arith) (omega arith)

half-stays : (a c q : ℕ) → 0 < c → a * 2 < (q * 2 + 1) * c → q * c * 2 ≤ a * 2 + c → half_away a c ≡ q
half-stays a c q C h k =
    let d = twice-one q c in
    let e : (q + 1) * (c * 2) ≡ q * c * 2 + c * 2 = next_multiple q (c * 2) ∙ ap (λ (z : ℕ). z + c * 2) (sym (mul_assoc q c 2)) in
    let e2 : q * (c * 2) ≡ q * c * 2 = sym (mul_assoc q c 2) in
    div-eq_of_lt-le (c * 2) (omega arith) (omega arith)

pub half-more : (f : Format) (y : Float) → T (fits f y) → Under (prec f - 1) y → le (add f (near_whole f y) half) y ≡ true
    → add f (near_whole f y) (two_to 0) ≡ round_away f y
unfolding round_away
half-more f nan t h p = absurd h
half-more f (inf s) t h p = absurd h
half-more f (fin true m e) t h p = absurd (true≢false h.0)
half-more f (fin false m e) t h p =
    let r = beside f m e t h in
    let l = half-below f m e r.q h.1 r.top
    (known (ap (λ (z : Float). le z (fin false m e)) (sym (half-sum f (fin false m e) r.q r.value)) ∙ p)) in
    near-more f (fin false m e) r.q r.value ∙ ap (λ (z : ℕ). round f false z 1) (sym (half_up (m * up e) (down e) r.q (down_pos e) l r.not_less))

pub half-near : (f : Format) (y : Float) → T (fits f y) → Under (prec f - 1) y → le (add f (near_whole f y) half) y ≡ false → near_whole f y ≡ round_away f y
unfolding round_away
half-near f nan t h p = absurd h
half-near f (inf s) t h p = absurd h
half-near f (fin true m e) t h p = absurd (true≢false h.0)
half-near f (fin false m e) t h p =
    let r = beside f m e t h in
    let l = half-above f m e r.q h.1 r.top
    (known-not (ap (λ (z : Float). le z (fin false m e)) (sym (half-sum f (fin false m e) r.q r.value)) ∙ p)) in
    near-is f (fin false m e) r.q r.value ∙ ap (λ (z : ℕ). round f false z 1) (sym (half-stays (m * up e) (down e) r.q (down_pos e) l r.not_more))
