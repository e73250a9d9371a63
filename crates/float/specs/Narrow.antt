-- An f64 `as` an f32. In units of binary64's smallest value, 2 ^ -1074, an f32 of x's size is a multiple of 2 ^ k of them for
-- some k, and `narrow` rounds x to the nearest such multiple, as adding 2 ^ (52 + k) units and taking them off does (Step).
-- The exponent's field of x's bit pattern gives k, or 897 the least k, that of the subnormals.
use Rattle.std.specs.Prelude.{◌≡◌, ℕ, zero, suc, ◌+◌, ◌-◌, ◌*◌, ◌/◌, ◌%◌, ◌^◌, ◌<◌, ◌≤◌, max, Bool, true, false, not, ◌&&◌, T, ltb, leb, ℤ, ◌==◌, nat_le, nat_lt, refl, Float}
use Rattle.std.proofs.Common.{sym, ap, ◌∙◌, subst, zero-add, lt_of_mul-lt-mul_right, le_of_mul-le-mul_right, le_trans, le_of_eq, lt_of_lt_of_le, lt_of_le_of_lt, le_antisymm, zero-lt-suc, zero-mul, mul-one, mul_comm, mul_assoc, mul_right_comm, mul-pos, mul-lt-mul_of_pos_right, mul-div_cancel, div-one, mod-eq_of_lt, le-div_iff_mul-le, arith, ltb→lt, lt→ltb, nltb→le, eqb→eq, lit<, T_not, pow-add, pow_pos, pow_mono, shr_lt}
use Rattle.std.proofs.Math.Logic.{inl, inr}
use Rattle.std.proofs.Math.Nat.{div-eq_of_lt, mul-mod_left, mul-add-div_right, mul-div-mul_right}
use Rattle.std.proofs.Math.Dec.{not_T}
use Rattle.std.proofs.Math.Arith.{lt→nleb, le→nltb}
use Rattle.std.specs.Float.Ieee.{le, eq, binary32, up, down, size, odd, units, round, neg, add, sub, lt, fits, is_nan, of_fields, of_bits, to_bits, nan_bits}
use Rattle.std.specs.Float.{nan, inf, fin, binary64}
use Rattle.std.specs.Float.Ieee.Digits.{size-lt, size-le, size_reaches}
use Rattle.std.specs.Float.Ieee.Fits.{and_i, and_l, eq→eqb, up_pos, down_pos, round_is, round-fits, sub-fits, fits_widens, core}
use Rattle.std.specs.Float.Ieee.Exact.{HasValue, odd_sign, units_val}
use Rattle.std.specs.Float.Ieee.Nearest.{closest, closest_same}
use Rattle.std.specs.Float.Ieee.Order.{round_mono}
use Rattle.std.specs.Float.Ieee.Scale.{round_same, grid}
use Rattle.std.specs.Float.Ieee.Bits.{cond_no, is_false, nan_bits_is}
use Rattle.float.specs.Fraction.{value-unique, value-rescale, lt_at}
use Rattle.float.specs.Rounding.{Held, held, neg-round, round-own, round-shape, inf-not-le}
use Rattle.float.specs.Units.{in_units, units_of}
use Rattle.float.specs.Step.{on-and-off, size-gt}
use Rattle.float.specs.Calls.{narrow}
use Rattle.float.specs.Base.{zero+, two_to}
use Rattle.float.specs.Known.{known, known-not}

pub narrow-neg : (x : Float) → narrow (neg x) ≡ neg (narrow x)
unfolding narrow neg
narrow-neg nan = refl
narrow-neg (inf s) = refl
narrow-neg (fin s m e) = sym (neg-round binary32 s (m * up e) (down e))

-- ---- digits

size-shift : (n d : ℕ) → size (n / 2 ^ d) ≡ size n - d
size-shift n d = le_antisymm upper (go (nat_lt d (size n)) (ltb→lt d (size n)) (nltb→le d (size n)))
  where
    cover : (z k : ℕ) → z ≤ z - k + k
    cover z k = omega arith

    upper : size (n / 2 ^ d) ≤ size n - d
    upper = size-le (n / 2 ^ d) (size n - d) (shr_lt (size n - d) d (lt_of_lt_of_le (size-lt n) (pow_mono (cover (size n) d))))

    zero-off : (z k : ℕ) → z ≤ k → z - k ≤ 0
    zero-off z k h = omega arith

    pred_lt : (z k : ℕ) → k < z → z - k - 1 + k < z
    pred_lt z k h = omega arith

    past : (z k x : ℕ) → k < z → z - k - 1 < x → z - k ≤ x
    past z k x h g = omega arith

    go : (b : Bool) → (T b → d < size n) → (T (not b) → size n ≤ d) → size n - d ≤ size (n / 2 ^ d)
    go true p q =
        past (size n) d (size (n / 2 ^ d)) (p tt)
        (size-gt (n / 2 ^ d) (size n - d - 1)
        ((le-div_iff_mul-le (pow_pos d)).1
        (le_trans (le_of_eq (sym (pow-add 2 (size n - d - 1) d))) (size_reaches n (size n - d - 1 + d) (pred_lt (size n) d (p tt))))))
    go false p q = le_trans (zero-off (size n) d (q tt)) Prim.Native.Nat.zero-le

-- ---- binary32's rounding of n units

narrow-units : (s : Bool) (n : ℕ) → round binary32 s n (2 ^ 1074) ≡ units binary32 s (closest n (2 ^ (925 + (size n - 925 - 24)))) (size n - 925 - 24)
narrow-units s n =
    let a : n * 2 ^ 149 / 2 ^ 1074 ≡ n / 2 ^ 925 = mul-div-mul_right n (2 ^ 925) (pow_pos 149) in
    let k : size (n * 2 ^ 149 / 2 ^ 1074) - 24 ≡ size n - 925 - 24 = ap (λ (z : ℕ). size z - 24) a ∙ ap (λ (z : ℕ). z - 24) (size-shift n 925) in
    let j = size n - 925 - 24 in
    round_is binary32 s n (2 ^ 1074)
    ∙ ap (λ (z : ℕ). core binary32 s (n * 2 ^ 149) (2 ^ 1074) z) k
    ∙ ap (λ (z : ℕ). units binary32 s z j)
    (closest_same (n * 2 ^ 149) (2 ^ 1074 * 2 ^ j) n (2 ^ (925 + j)) (mul-pos (pow_pos 1074) (pow_pos j)) (pow_pos (925 + j))
    (ap (λ (z : ℕ). n * 2 ^ 149 * z) (pow-add 2 925 j) ∙ mul_assoc n (2 ^ 149) (2 ^ 925 * 2 ^ j)
    ∙ ap (λ (z : ℕ). n * z) (sym (mul_assoc (2 ^ 149) (2 ^ 925) (2 ^ j)))))

-- ---- the value so rounded is the f32, or is too large

module _ (n j : ℕ) (J : j ≡ size n - 925 - 24) where
  units-are : round binary32 false n (2 ^ 1074) ≡ units binary32 false (closest n (2 ^ (925 + j))) j
  units-are = narrow-units false n ∙ ap (λ (z : ℕ). units binary32 false (closest n (2 ^ (925 + z))) z) (sym J)

  split_off : (q : ℕ) → q * 2 ^ (925 + j) ≡ q * 2 ^ j * 2 ^ 925
  split_off q = ap (λ (z : ℕ). q * z) (pow-add 2 925 j ∙ mul_comm (2 ^ 925) (2 ^ j)) ∙ sym (mul_assoc q (2 ^ j) (2 ^ 925))

  under_top : closest n (2 ^ (925 + j)) * 2 ^ (925 + j) < 2 ^ 1202 → closest n (2 ^ (925 + j)) * 2 ^ j < 2 ^ 277
  under_top h = lt_of_mul-lt-mul_right (2 ^ 925) (subst (λ (z : ℕ). z < 2 ^ 1202) (split_off (closest n (2 ^ (925 + j)))) h)

  over-top : 2 ^ 1202 ≤ closest n (2 ^ (925 + j)) * 2 ^ (925 + j) → 2 ^ 277 ≤ closest n (2 ^ (925 + j)) * 2 ^ j
  over-top h = le_of_mul-le-mul_right (subst (λ (z : ℕ). 2 ^ 1202 ≤ z) (split_off (closest n (2 ^ (925 + j)))) h) (pow_pos 925)

  pub is-narrow : (y : Float) → T (fits binary64 y) → HasValue y false (closest n (2 ^ (925 + j)) * 2 ^ (925 + j)) (2 ^ 1074)
      → closest n (2 ^ (925 + j)) * 2 ^ (925 + j) < 2 ^ 1202 → y ≡ round binary32 false n (2 ^ 1074)
  is-narrow y t v h =
      let q = closest n (2 ^ (925 + j)) in
      let z = round binary32 false n (2 ^ 1074) in
      let w : HasValue z false (q * 2 ^ j) (2 ^ 149) =
      subst (λ (x : Float). HasValue x false (q * 2 ^ j) (2 ^ 149)) (sym units-are) (units_val binary32 false q j (under_top h)) in
      let u : HasValue z false (q * 2 ^ (925 + j)) (2 ^ 1074) =
      value-rescale z false (q * 2 ^ j) (2 ^ 149) (q * 2 ^ (925 + j)) (2 ^ 1074) (pow_pos 149)
      (sym (ap (λ (x : ℕ). x * 2 ^ 149) (split_off q) ∙ mul_assoc (q * 2 ^ j) (2 ^ 925) (2 ^ 149))) w in
      value-unique binary64 y z false (q * 2 ^ (925 + j)) (2 ^ 1074) (pow_pos 1074) t (fits_widens z (round-fits binary32 false n (2 ^ 1074))) v u

  pub is-inf : 2 ^ 1202 ≤ closest n (2 ^ (925 + j)) * 2 ^ (925 + j) → round binary32 false n (2 ^ 1074) ≡ inf false
  unfolding units
  is-inf h = units-are ∙ cond_no (nat_lt (closest n (2 ^ (925 + j)) * 2 ^ j) (2 ^ 277)) _ _ (le→nltb (closest n (2 ^ (925 + j)) * 2 ^ j) (2 ^ 277) (over-top h))

-- ---- the exponent's field of a pattern, and the power of two with a given field

field_of : (n : ℕ) → (0 + (size n - 53) * 2 ^ 52 + n / 2 ^ (size n - 53)) / 2 ^ 52 ≡ size n - 52
field_of n = go (nat_lt (size n) 53) (ltb→lt (size n) 53) (nltb→le (size n) 53)
  where
    low-case : (z : ℕ) → z < 53 → (z - 53 ≡ 0) × (z - 52 ≡ 0) × (z ≤ 52)
    low-case z h = (omega arith, omega arith, omega arith)

    high-case : (z : ℕ) → 53 ≤ z → (52 + (z - 53) < z) × (53 + (z - 53) ≡ z) × (z - 53 + 1 ≡ z - 52)
    high-case z h = (omega arith, omega arith, omega arith)

    go : (b : Bool) → (T b → size n < 53) → (T (not b) → 53 ≤ size n) → (0 + (size n - 53) * 2 ^ 52 + n / 2 ^ (size n - 53)) / 2 ^ 52 ≡ size n - 52
    go true p q =
        let c = low-case (size n) (p tt) in
        ap (λ (z : ℕ). (0 + z * 2 ^ 52 + n / 2 ^ z) / 2 ^ 52) c.0
        ∙ ap (λ (z : ℕ). (0 + z) / 2 ^ 52) (div-one n)
        ∙ ap (λ (z : ℕ). z / 2 ^ 52) (zero-add n)
        ∙ div-eq_of_lt (lt_of_lt_of_le (size-lt n) (pow_mono c.2))
        ∙ sym c.1
    go false p q =
        let c = high-case (size n) (q tt) in
        let k = size n - 53 in
        let v = n / 2 ^ k in
        let lo : 2 ^ 52 ≤ v = (le-div_iff_mul-le (pow_pos k)).1 (le_trans (le_of_eq (sym (pow-add 2 52 k))) (size_reaches n (52 + k) c.0)) in
        let hi : v < 2 ^ 53 = shr_lt 53 k (subst (λ (z : ℕ). n < 2 ^ z) (sym c.1) (size-lt n)) in
        ap (λ (z : ℕ). (z + v) / 2 ^ 52) (zero-add (k * 2 ^ 52))
        ∙ mul-add-div_right (pow_pos 52) k v
        ∙ ap (λ (z : ℕ). k + z) (let one : v / 2 ^ 52 ≡ 1 = omega arith in one)
        ∙ c.2

field_is : (m : ℕ) (e : ℤ) → to_bits binary64 (fin false m e) / 2 ^ 52 ≡ size (in_units binary64 (fin false m e)) - 52
unfolding to_bits
field_is m e = field_of (in_units binary64 (fin false m e))

of_field : (k : ℕ) → k < 2046 → HasValue (of_bits binary64 (suc k * 2 ^ 52)) false (2 ^ (52 + k)) (2 ^ 1074)
unfolding of_bits
of_field k K =
    let b = suc k * 2 ^ 52 in
    let small : b < 2 ^ 63 = (let z : suc k * 2 ^ 52 < 2 ^ 63 = omega arith in z) in
    let s : leb (2 ^ 63) b ≡ false = is_false (nat_le (2 ^ 63) b) (lt→nleb (2 ^ 63) b small) in
    let f : b % 2 ^ 63 / 2 ^ 52 ≡ suc k = ap (λ (z : ℕ). z / 2 ^ 52) (mod-eq_of_lt small) ∙ mul-div_cancel (suc k) (pow_pos 52) in
    let t : b % 2 ^ 52 ≡ 0 = mul-mod_left (suc k) (2 ^ 52) in
    let is : of_fields binary64 (nat_le (2 ^ 63) b) (b % 2 ^ 63 / 2 ^ 52) (b % 2 ^ 52) ≡ odd 53 false (2 ^ 52 + 0) k 1074 =
    ap (λ (z : Bool). of_fields binary64 z (b % 2 ^ 63 / 2 ^ 52) (b % 2 ^ 52)) s
    ∙ ap (λ (z : ℕ). of_fields binary64 false z (b % 2 ^ 52)) f
    ∙ ap (λ (z : ℕ). of_fields binary64 false (suc k) z) t
    ∙ cond_no (suc k == 2047) _ _ (not_T (suc k == 2047) (λ u. let z : suc k ≡ 2047 = eqb→eq (suc k) 2047 u in omega arith)) in
    subst (λ (z : Float). HasValue z false (2 ^ (52 + k)) (2 ^ 1074)) (sym is)
    (subst (λ (z : ℕ). HasValue (odd 53 false (2 ^ 52 + 0) k 1074) false z (2 ^ 1074)) (sym (pow-add 2 52 k)) (odd_sign 53 false (2 ^ 52 + 0) k 1074))

-- ---- the whole: for 0 < x < 2 ^ 128, with e the exponent's field, or 897 if that is less

value-no-nan : (x : Float) (s : Bool) (a c : ℕ) → HasValue x s a c → T (not (is_nan x))
unfolding is_nan
value-no-nan nan s a c h = absurd h
value-no-nan (inf t) s a c h = absurd h
value-no-nan (fin t m e) s a c h = tt

abbrev pub step_of : ℕ → Float
step_of e = of_bits binary64 ((e + 29) * 2 ^ 52)

abbrev pub stepped : Float → ℕ → Float
stepped x e = sub binary64 (add binary64 x (step_of e)) (step_of e)

pub record Narrowed (x : Float) (e : ℕ) : Type 0 where
  pub e_small : e ≤ 1150
  pub no_nan : T (not (nan_bits binary64 ((e + 29) * 2 ^ 52)))
  pub under_fits : lt (stepped x e) (two_to 128) ≡ true → T (fits binary32 (stepped x e) && not (is_nan (stepped x e)))
  pub under_is : lt (stepped x e) (two_to 128) ≡ true → stepped x e ≡ narrow x
  pub over_is : lt (stepped x e) (two_to 128) ≡ false → narrow x ≡ inf false

k-is : (z e : ℕ) → e ≡ max (z - 52) 897 → e + 28 ≡ 925 + (z - 925 - 24)
k-is z e h = omega arith

covers : (z e : ℕ) → e ≡ max (z - 52) 897 → z ≤ 24 + (e + 28)
covers z e h = omega arith

bounded : (z e : ℕ) → z ≤ 1202 → e ≡ max (z - 52) 897 → e ≤ 1150
bounded z e l h = omega arith

narrow-is : (m : ℕ) (e : ℤ) → Held binary64 m e → narrow (fin false m e) ≡ round binary32 false (in_units binary64 (fin false m e)) (2 ^ 1074)
unfolding narrow
narrow-is m e h = round_same binary32 false (m * up e) (down e) (in_units binary64 (fin false m e)) (2 ^ 1074) (down_pos e) (pow_pos 1074)
    (units_of binary64 false m e h).1

top-units : (m : ℕ) (e : ℤ) → Held binary64 m e → m * up e * 1 < 1 * 2 ^ 128 * down e → in_units binary64 (fin false m e) < 2 ^ 1202
top-units m e h l =
    let v : m * up e * 2 ^ 1074 ≡ in_units binary64 (fin false m e) * down e = (units_of binary64 false m e h).1 in
    lt_of_mul-lt-mul_right (down e)
    (subst (λ (z : ℕ). z < 2 ^ 1202 * down e) v
    (subst (λ (z : ℕ). m * up e * 2 ^ 1074 < z) (mul_right_comm (2 ^ 128) (down e) (2 ^ 1074))
    (mul-lt-mul_of_pos_right (subst (λ (z : ℕ). z < 2 ^ 128 * down e) (mul-one (m * up e)) l) (pow_pos 1074))))

fits_and : (y z : Float) → T (fits binary32 z) → T (not (is_nan y)) → y ≡ z → T (fits binary32 y && not (is_nan y))
fits_and y z t n e = and_i (fits binary32 y) (not (is_nan y)) (subst (λ (w : Float). T (fits binary32 w)) (sym e) t) n

wider : (k : ℕ) → 24 + k ≤ 52 + k
wider k = omega arith

far : (k : ℕ) → k ≤ 1178 → 53 + k < 1074 + 1024
far k h = omega arith

in-range : (m : ℕ) (g : ℤ) (e : ℕ) → Held binary64 m g → m * up g * 1 < 1 * 2 ^ 128 * down g → e ≡ max (to_bits binary64 (fin false m g) / 2 ^ 52) 897
    → Narrowed (fin false m g) e
in-range m g e h l E =
    let x = fin false m g in
    let n = in_units binary64 x in
    let U = 2 ^ 1074 in
    let v : HasValue x false n U = units_of binary64 false m g h in
    let Z : size n ≤ 1202 = size-le n 1202 (top-units m g h l) in
    let E2 : e ≡ max (size n - 52) 897 = E ∙ ap (λ (z : ℕ). max z 897) (field_is m g) in
    let B : e ≤ 1150 = bounded (size n) e Z E2 in
    let j = size n - 925 - 24 in
    let ke : e + 28 ≡ 925 + j = k-is (size n) e E2 in
    let nl : n < 2 ^ (24 + (925 + j)) = subst (λ (z : ℕ). n < 2 ^ (24 + z)) ke (lt_of_lt_of_le (size-lt n) (pow_mono (covers (size n) e E2))) in
    let K : 925 + j ≤ 1178 = subst (λ (z : ℕ). z ≤ 1178) ke (let z : e + 28 ≤ 1178 = omega arith in z) in
    let sk : suc (925 + j) ≡ e + 29 = ap suc (sym ke) ∙ (let z : suc (e + 28) ≡ e + 29 = omega arith in z) in
    let mv : HasValue (step_of e) false (2 ^ (52 + (925 + j))) U =
    subst (λ (z : ℕ). HasValue (of_bits binary64 (z * 2 ^ 52)) false (2 ^ (52 + (925 + j))) U) sk (of_field (925 + j) (lt_of_le_of_lt K (lit< tt))) in
    let q = closest n (2 ^ (925 + j)) in
    let yv : HasValue (stepped x e) false (q * 2 ^ (925 + j)) U =
    on-and-off binary64 n (925 + j) (lt_of_lt_of_le nl (pow_mono (wider (925 + j)))) (far (925 + j) K) x (step_of e) v mv in
    let cmp : lt (stepped x e) (two_to 128) ≡ ltb (q * 2 ^ (925 + j)) (2 ^ 1202) =
    lt_at (stepped x e) (two_to 128) false false (q * 2 ^ (925 + j)) (2 ^ 1202) U (pow_pos 1074) yv (refl, refl) in
    let is : lt (stepped x e) (two_to 128) ≡ true → stepped x e ≡ round binary32 false n U =
    (λ t. is-narrow n j refl (stepped x e) (sub-fits binary64 (add binary64 x (step_of e)) (step_of e)) yv
    (ltb→lt (q * 2 ^ (925 + j)) (2 ^ 1202) (known (sym cmp ∙ t)))) in
    record {
      e_small = B;
      no_nan = subst (λ (z : Bool). T (not z)) (sym (nan_bits_is binary64 ((e + 29) * 2 ^ 52))) (value-no-nan (step_of e) false (2 ^ (52 + (925 + j))) U mv);
      under_fits = λ t. fits_and (stepped x e) (round binary32 false n U) (round-fits binary32 false n U)
          (value-no-nan (stepped x e) false (q * 2 ^ (925 + j)) U yv) (is t);
      under_is = λ t. is t ∙ sym (narrow-is m g h);
      over_is = λ t. narrow-is m g h ∙ is-inf n j refl (nltb→le (q * 2 ^ (925 + j)) (2 ^ 1202) (known-not (sym cmp ∙ t)));
    }

pub narrowed : (x : Float) (e : ℕ) → T (fits binary64 x) → T (lt zero+ x) → T (lt x (two_to 128)) → e ≡ max (to_bits binary64 x / 2 ^ 52) 897 → Narrowed x e
unfolding lt
narrowed nan e t p q E = absurd p
narrowed (inf true) e t p q E = absurd p
narrowed (inf false) e t p q E = absurd q
narrowed (fin true m g) e t p q E = absurd p
narrowed (fin false m g) e t p q E = in-range m g e (held binary64 false m g t) (ltb→lt (m * up g * 1) (1 * 2 ^ 128 * down g) q) E

-- ---- from 2 ^ 128 on, and at a zero

pub narrow-large : (x : Float) → T (lt zero+ x) → T (not (lt x (two_to 128))) → narrow x ≡ inf false
unfolding lt narrow
narrow-large nan p q = absurd p
narrow-large (inf true) p q = absurd p
narrow-large (inf false) p q = refl
narrow-large (fin true m e) p q = absurd p
narrow-large (fin false m e) p q =
    let l : 1 * 2 ^ 128 * down e ≤ m * up e * 1 = nltb→le (m * up e * 1) (1 * 2 ^ 128 * down e) q in
    let t : T (le (round binary32 false (2 ^ 128) 1) (round binary32 false (m * up e) (down e))) =
    round_mono binary32 (2 ^ 128) 1 (m * up e) (down e) (zero-lt-suc 0) (down_pos e) l in
    let i : round binary32 false (2 ^ 128) 1 ≡ inf false = (unfold round in refl) in
    elim (round-shape binary32 false (m * up e) (down e)) [
      | inl z ↦ z
      | inr v ↦ absurd (inf-not-le (round binary32 false (m * up e) (down e)) (grid binary32 (m * up e) (down e)) (2 ^ 149) v
          (subst (λ (z : Float). T (le z (round binary32 false (m * up e) (down e)))) i t))
    ]

zero-narrow : (s : Bool) (e : ℤ) → T (fits binary64 (fin s zero e)) → fin s zero e ≡ narrow (fin s zero e)
unfolding narrow fits
zero-narrow s e t = sym (round-own binary32 s zero e t)

zero-fits : (s : Bool) (e : ℤ) → T (fits binary64 (fin s zero e)) → T (fits binary32 (fin s zero e) && not (is_nan (fin s zero e)))
unfolding fits is_nan
zero-fits s e t = and_i (up e * down e == 1) true t tt

pub narrow-zero : (x : Float) → T (fits binary64 x) → eq x zero+ ≡ true → T (fits binary32 x && not (is_nan x)) × (x ≡ narrow x)
unfolding eq
narrow-zero nan t h = absurd (known h)
narrow-zero (inf s) t h = absurd (known h)
narrow-zero (fin s zero e) t h = (zero-fits s e t, zero-narrow s e t)
narrow-zero (fin s (suc m) e) t h =
    let z : suc m * up e * 1 ≡ 0 * 1 * down e = eqb→eq (suc m * up e * 1) (0 * 1 * down e) (and_l (suc m * up e * 1 == 0 * 1 * down e) _ (known h)) in
    let w : 0 * 1 * down e ≡ 0 = zero-mul (down e) in
    let p : 0 < suc m * up e = mul-pos (zero-lt-suc m) (up_pos e) in
    absurd (omega arith)

pub narrow-nan : (x : Float) → lt zero+ x ≡ false → lt x zero+ ≡ false → eq x zero+ ≡ false → nan ≡ narrow x
unfolding lt eq narrow
narrow-nan nan p q r = refl
narrow-nan (inf true) p q r = absurd (known-not q)
narrow-nan (inf false) p q r = absurd (known-not p)
narrow-nan (fin s m e) p q r = absurd (none s m e (known-not p) (known-not q) (known-not r))
  where
    none : (s : Bool) (m : ℕ) (e : ℤ) → T (not (lt zero+ (fin s m e))) → T (not (lt (fin s m e) zero+)) → T (not (eq (fin s m e) zero+)) → ⊥
    none false m e a b c =
        let z : m * up e * 1 ≤ 0 * 1 * down e = nltb→le (0 * 1 * down e) (m * up e * 1) a in
        let w : 0 * 1 * down e ≡ 0 = zero-mul (down e) in
        T_not (m * up e * 1 == 0 * 1 * down e && true) c
        (and_i (m * up e * 1 == 0 * 1 * down e) true (eq→eqb (let r : m * up e * 1 ≡ 0 * 1 * down e = omega arith in r)) tt)
    none true m e a b c =
        let z : m * up e * 1 + 0 * 1 * down e ≤ 0 = nltb→le 0 (m * up e * 1 + 0 * 1 * down e) b in
        let w : 0 * 1 * down e ≡ 0 = zero-mul (down e) in
        T_not (m * up e * 1 == 0 * 1 * down e && m * up e * 1 == 0) c
        (and_i (m * up e * 1 == 0 * 1 * down e) (m * up e * 1 == 0) (eq→eqb (let r : m * up e * 1 ≡ 0 * 1 * down e = omega arith in r))
        (eq→eqb (let r : m * up e * 1 ≡ 0 = omega arith in r)))

pub above-turned : (x : Float) → T (lt x zero+) → T (lt zero+ (neg x))
unfolding lt neg
above-turned nan p = absurd p
above-turned (inf true) p = tt
above-turned (inf false) p = absurd p
above-turned (fin false m e) p =
    let z : m * up e * 1 < 0 * 1 * down e = ltb→lt (m * up e * 1) (0 * 1 * down e) p in
    let w : 0 * 1 * down e ≡ 0 = zero-mul (down e) in
    absurd (omega arith)
above-turned (fin true m e) p =
    let z : 0 < m * up e * 1 + 0 * 1 * down e = ltb→lt 0 (m * up e * 1 + 0 * 1 * down e) p in
    let w : 0 * 1 * down e ≡ 0 = zero-mul (down e) in
    lt→ltb (0 * 1 * down e) (m * up e * 1) (omega arith)

pub positive-no-nan : (x : Float) → T (lt zero+ x) → T (not (is_nan x))
unfolding lt is_nan
positive-no-nan nan p = absurd p
positive-no-nan (inf s) p = tt
positive-no-nan (fin s m e) p = tt
