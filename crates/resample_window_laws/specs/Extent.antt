-- Where a window lies, and how many numbers it has: it starts at -reach or after, ends at src - 1 + reach or before, and has at
-- most 2 * reach + 1 numbers, for reach the least whole number that is at least src / dst.
-- In units of the smallest float the centre is one rounding of a number from -1/2 to src - 1/2, and an end is one rounding of
-- centre and support together; each rounding is off by far less than a quarter.
use Rattle.std.specs.Prelude.{◌≡◌, refl, Bool, true, false, not, cond, ℕ, zero, suc, ◌+◌, ◌-◌, ◌*◌, ◌/◌, ◌^◌, ◌≤◌, ◌<◌, ℤ, pos, negsuc, neg_ℤ, nat_abs, ◌+ℤ◌, ◌-ℤ◌, ◌*ℤ◌, ◌≤ℤ◌, T, ltb, Float}
use Rattle.std.proofs.Common.{sym, ap, ◌∙◌, subst, inl, inr, zero-le, le_refl, le_trans, le_of_eq, lt_of_le_of_lt, zero-lt-suc, mul-one, one-mul, zero-mul, mul_comm, mul_assoc, mul-le-mul, mul-le-mul_right, add-mul, lt_of_mul-lt-mul_right, mul-lt-mul_of_pos_right, div-mul-le_self, le-div_iff_mul-le, arith, ltb→lt, nltb→le, leb→le, le→leb, lit≤, lit<, pow_pos}
use Rattle.std.proofs.Math.Nat.{lt-div-mul-add}
use Rattle.std.specs.Int.Signed.{lt_z, le_z_yes, non_neg}
use Rattle.std.specs.Float.{binary64}
use Rattle.std.specs.Float.Ieee.{prec, low, round, of_int, neg, sum, add, sub, mul}
use Rattle.std.specs.Float.Ieee.Exact.{HasValue}
use Rattle.std.specs.Float.Ieee.Fits.{add-fits, sub-fits}
use Rattle.std.specs.Float.Ieee.Scale.{grid}
use Rattle.float.specs.Base.{half}
use Rattle.float.specs.Fraction.{value-scale, add_at}
use Rattle.float_laws.specs.Product.{mul-value-at}
use Rattle.float_laws.specs.Values.{Is, Within}
use Rattle.float_laws.specs.Exact.{is-neg, abs_neg}
use Rattle.float.specs.Rounding.{exact-at, round-shape}
use Rattle.float_laws.specs.AddError.{dist, Near, add-near, size-within}
use Rattle.float_laws.specs.Bounds.{holds-scaled, holds-whole, round-within, within_more, add-within, sub_within, mul-within}
use Rattle.float_laws.specs.Floors.{floor-below, ceil-above}
use Rattle.resample_window.specs.declared.Window.{Window}
use Rattle.resample_window.specs.Window.{scale_of, center_of, support_of, unsummed, window_of, numbers}
use Rattle.picture.specs.Sizes.{longest_side}
use Rattle.resample_window.specs.Signed.{diff-sign}
use Rattle.resample_window.specs.Range.{whole-value, scale-is, scale-within, longest-times, center-within, support-within, window-cases, span}
use Rattle.resample_window_laws.specs.Support.{nat_abs-add}
use Rattle.resample_window_laws.specs.Reach.{reach, reach-top, support-reach}

-- ---- an integer as a difference of two numbers, of which one is 0

abbrev over : ℤ → ℕ
over (pos n) = n
over (negsuc n) = 0

abbrev under : ℤ → ℕ
under (pos n) = 0
under (negsuc n) = suc n

abs-parts : (a : ℤ) → nat_abs a ≡ over a + under a
abs-parts (pos n) = omega arith
abs-parts (negsuc n) = omega arith

parts-sub : (x y : ℕ) (t : Bool) → (T t → x < y) → (T (not t) → y ≤ x)
    → over (cond t (negsuc (y - suc x)) (pos (x - y))) + y ≡ x + under (cond t (negsuc (y - suc x)) (pos (x - y)))
parts-sub x y true h k = let l : x < y = h tt in omega arith
parts-sub x y false h k = let l : y ≤ x = k tt in omega arith

parts_add : (a b : ℤ) → over (a +ℤ b) + (under a + under b) ≡ over a + over b + under (a +ℤ b)
parts_add (pos a) (pos b) = omega arith
parts_add (pos a) (negsuc b) = omega (arith, parts-sub a (suc b) (ltb a (suc b)) (ltb→lt a (suc b)) (nltb→le a (suc b)))
parts_add (negsuc a) (pos b) = omega (arith, parts-sub b (suc a) (ltb b (suc a)) (ltb→lt b (suc a)) (nltb→le b (suc a)))
parts_add (negsuc a) (negsuc b) = omega arith

parts-neg : (a : ℤ) → (over (neg_ℤ a) ≡ under a) × (under (neg_ℤ a) ≡ over a)
parts-neg (pos zero) = (refl, refl)
parts-neg (pos (suc n)) = (refl, refl)
parts-neg (negsuc n) = (refl, refl)

parts-times : (n : ℤ) (c : ℕ) → (over (n *ℤ pos c) ≡ over n * c) × (under (n *ℤ pos c) ≡ under n * c)
parts-times (pos n) c = (refl, sym (zero-mul c))
parts-times (negsuc n) c = ((parts-neg (pos (suc n * c))).0 ∙ sym (zero-mul c), (parts-neg (pos (suc n * c))).1)

le_parts : (a b : ℤ) → a ≤ℤ b → over a + under b ≤ over b + under a
le_parts (pos a) (pos b) h = let l : a ≤ b = leb→le a b h.le in omega arith
le_parts (pos a) (negsuc b) h = absurd h.le
le_parts (negsuc a) (pos b) h = omega arith
le_parts (negsuc a) (negsuc b) h = let l : b ≤ a = leb→le b a h.le in omega arith

parts-le : (a b : ℤ) → over a + under b ≤ over b + under a → a ≤ℤ b
parts-le (pos a) (pos b) h = le_z_yes (le→leb a b (omega arith))
parts-le (pos a) (negsuc b) h = absurd (omega arith)
parts-le (negsuc a) (pos b) h = le_z_yes tt
parts-le (negsuc a) (negsuc b) h = le_z_yes (le→leb b a (omega arith))

-- two integers at most d / 2 from each other
near_parts : (a z : ℤ) (d : ℕ) → dist a z * 2 ≤ d
    → (2 * (over a + under z) ≤ 2 * (over z + under a) + d) × (2 * (over z + under a) ≤ 2 * (over a + under z) + d)
near_parts a z d h =
    let p = parts_add a (neg_ℤ z) in
    let q = parts-neg z in
    let n = abs-parts (a +ℤ neg_ℤ z) in
    (omega (arith, q.0, q.1), omega (arith, q.0, q.1))

-- ---- the centre, one rounding of product - 1/2

-- i + 0.5 is exact
middle-is : (i : ℕ) → i < longest_side → add binary64 (of_int binary64 (pos i)) half ≡ round binary64 false (i * 2 + 1) 2
unfolding sum
middle-is i h = add_at binary64 (of_int binary64 (pos i)) half false false (i * 2) 1 2 (zero-lt-suc 1)
    (value-scale (of_int binary64 (pos i)) false i 1 2 (whole-value i (omega arith))) (refl, refl)

-- the scale is at most n / 2^27, for the least such n
abbrev finer : ℕ
finer = 2 ^ 27

upper : ℕ → ℕ → ℕ
upper src dst = (src * finer + dst - 1) / dst

product-within : (src dst i : ℕ) → 0 < src → src ≤ longest_side → 0 < dst → dst ≤ longest_side → i < dst
    → Within (mul binary64 (add binary64 (of_int binary64 (pos i)) half) (scale_of src dst)) src 1
unfolding upper
product-within src dst i A B C D I =
    let n = upper src dst in
    let q = 2 * dst - 1 in
    let x = add binary64 (of_int binary64 (pos i)) half in
    let above : src * finer ≤ n * dst = (let l : src * finer + dst - 1 < (src * finer + dst - 1) / dst * dst + dst = lt-div-mul-add C in omega arith) in
    let below : n * dst ≤ src * finer + dst - 1 = div-mul-le_self (src * finer + dst - 1) dst in
    let square : 2 * dst * dst ≤ finer = mul-le-mul (let l : 2 * dst ≤ 16384 = omega arith in l) D in
    let wide : 2 * dst ≤ n = (le-div_iff_mul-le C).1 (let l : 2 * dst * dst ≤ src * finer + dst - 1 = omega (arith, square) in l) in
    let own : n ≤ n * dst = le_trans (le_of_eq (sym (mul-one n))) (mul-le-mul (le_refl n) C) in
    let one_more : q * n + n ≡ 2 * (n * dst) =
    sym (add-mul q 1 n ∙ ap (λ (z : ℕ). q * n + z) (one-mul n)) ∙ ap (λ (z : ℕ). z * n) (let e : q + 1 ≡ 2 * dst = omega arith in e) ∙ mul_assoc 2 dst n
    ∙ ap (λ (z : ℕ). 2 * z) (mul_comm dst n) in
    let k : q * n ≤ src * (2 * finer) = omega (arith, one_more, below, wide) in
    let X : Within x q 2 =
    subst (λ (z : Float). Within z q 2) (sym (middle-is i (omega arith)))
    (round-within binary64 false (i * 2 + 1) 2 q 2 (zero-lt-suc 1) (zero-lt-suc 1) (holds-scaled binary64 q 1 (lit≤ tt) (omega arith))
    (mul-le-mul_right 2 (let l : i * 2 + 1 ≤ q = omega arith in l))) in
    let S : Within (scale_of src dst) n finer =
    subst (λ (z : Float). Within z n finer) (sym (scale-is src dst B C D))
    (round-within binary64 false src dst n finer C (pow_pos 27) (holds-scaled binary64 n 27 (lit≤ tt) (omega (arith, own, below))) above) in
    within_more (mul binary64 x (scale_of src dst)) (q * n) (2 * finer) src 1 (zero-lt-suc _)
    (mul-within binary64 x (scale_of src dst) q 2 n finer (zero-lt-suc 1) (pow_pos 27) (holds-scaled binary64 (q * n) 28 (lit≤ tt) (omega (arith, k))) X S)
    (le_trans (le_of_eq (mul-one (q * n))) k)

-- ---- in units of the smallest float

abbrev unit : ℕ
unit = 2 ^ low binary64

-- a float that is not negative, and at most b
record Upto (y : Float) (b : ℕ) : Type 0 where
  pub size : ℕ
  pub value : HasValue y false size unit
  pub most : size ≤ b * unit

upto_is : (y : Float) (b : ℕ) (h : Upto y b) → Is unit y (pos h.size)
upto_is y b h = record { sign = false; size = h.size; value = h.value; whole = refl }

round-upto : (y : Float) (n d b : ℕ) → y ≡ round binary64 false n d → Within y b 1 → Upto y b
round-upto y n d b e w =
    elim (round-shape binary64 false n d) [
      | inl i ↦ absurd (subst (λ (z : Float). Within z b 1) (e ∙ i) w)
      | inr v ↦
          let has = subst (λ (z : Float). HasValue z false (grid binary64 n d) unit) (sym e) v in
          record {
            size = grid binary64 n d;
            value = has;
            most =
                size-within binary64 y (pos (grid binary64 n d)) b (record { sign = false; size = grid binary64 n d; value = has; whole = refl }) w;
          }
    ]

product-upto : (src dst i : ℕ) → 0 < src → src ≤ longest_side → 0 < dst → dst ≤ longest_side → i < dst
    → Upto (mul binary64 (add binary64 (of_int binary64 (pos i)) half) (scale_of src dst)) src
product-upto src dst i A B C D I =
    let x = add binary64 (of_int binary64 (pos i)) half in
    let X : HasValue x false (i * 2 + 1) 2 =
    subst (λ (z : Float). HasValue z false (i * 2 + 1) 2) (sym (middle-is i (omega arith)))
    (exact-at binary64 false (i * 2 + 1) 1 (lit≤ tt) (omega arith)) in
    let s = round-upto (scale_of src dst) src dst longest_side (scale-is src dst B C D)
    (scale-within src dst longest_side B C D (holds-whole binary64 longest_side (lit≤ tt)) (longest-times src dst B C)) in
    round-upto (mul binary64 x (scale_of src dst)) ((i * 2 + 1) * s.size) (2 * unit) src
    (mul-value-at binary64 x (scale_of src dst) false false (i * 2 + 1) 2 s.size unit (zero-lt-suc 1) (pow_pos (low binary64)) X s.value)
    (product-within src dst i A B C D I)

-- ---- sums of two, each off by at most half of `slack`

abbrev top : ℕ
top = low binary64 + 15

abbrev slack : ℕ
slack = 2 ^ (top - prec binary64)

abbrev half_unit : ℕ
half_unit = 2 ^ (low binary64 - 1)

-- a sum below 2^15
sum_near : (x y : Float) (z w : ℤ) (k : ℕ) → Is unit x z → Is unit y w → nat_abs z + nat_abs w ≤ k * unit → k < 2 ^ 15
    → Near binary64 (add binary64 x y) (z +ℤ w) slack
sum_near x y z w k h i l m =
    add-near binary64 x y z w top (lit< tt) h i (lt_of_le_of_lt (le_trans (nat_abs-add z w) l) (mul-lt-mul_of_pos_right m (pow_pos (low binary64))))

half_is : Is unit half (pos half_unit)
half_is = record { sign = false; size = half_unit; value = (refl, refl); whole = refl }

-- ---- the ends and the width, in any units: p is where the centre z was rounded from, and S the support

-- z + w is at most d / 2 from a
near-sum : (a z w : ℤ) (d : ℕ) → dist a (z +ℤ w) * 2 ≤ d
    → (2 * (over z + over w + under a) ≤ 2 * (over a + under z + under w) + d) × (2 * (over a + under z + under w) ≤ 2 * (over z + over w + under a) + d)
near-sum a z w d h =
    let n = near_parts a (z +ℤ w) d h in
    let p = parts_add z w in
    (omega (arith, n.0, n.1), omega (arith, n.0, n.1))

module _ (U H d r : ℕ) (e : H * 2 ≡ U) (small : d < H) where
  le-first : (a first : ℤ) → a ≤ℤ (first *ℤ pos U) → over a + under first * U ≤ over first * U + under a
  le-first a first h = let t = parts-times first U in omega (arith, le_parts a (first *ℤ pos U) h, t.0, t.1)

  last-le : (b last : ℤ) → (last *ℤ pos U) ≤ℤ b → over last * U + under b ≤ over b + under last * U
  last-le b last h = let t = parts-times last U in omega (arith, le_parts (last *ℤ pos U) b h, t.0, t.1)

  first-after : (p S : ℕ) (z a first : ℤ) → S ≤ r * U → dist z (pos p +ℤ neg_ℤ (pos H)) * 2 ≤ d → dist a (z +ℤ neg_ℤ (pos S)) * 2 ≤ d → a ≤ℤ (first *ℤ pos U)
      → under first ≤ over first + r
  first-after p S z a first s c n f =
      let Z = (near-sum z (pos p) (neg_ℤ (pos H)) d c).0 in
      let A = (near-sum a z (neg_ℤ (pos S)) d n).0 in
      let F = le-first a first f in
      let h = parts-neg (pos H) in
      let k = parts-neg (pos S) in
      let m : (over first + r + 1) * U ≡ over first * U + r * U + 1 * U = add-mul (over first + r) 1 U ∙ ap (λ (x : ℕ). x + 1 * U) (add-mul (over first) r U) in
      let l : under first < over first + r + 1 =
      lt_of_mul-lt-mul_right U (let g : under first * U < (over first + r + 1) * U = omega (arith, Z, A, F, m, h.0, h.1, k.0, k.1) in g) in
      omega arith

  last-before : (src p S : ℕ) (z b last : ℤ) → 0 < src → p ≤ src * U → S ≤ r * U → dist z (pos p +ℤ neg_ℤ (pos H)) * 2 ≤ d → dist b (z +ℤ pos S) * 2 ≤ d
      → (last *ℤ pos U) ≤ℤ b → over last ≤ under last + (src - 1 + r)
  last-before src p S z b last P q s c n f =
      let Z = (near-sum z (pos p) (neg_ℤ (pos H)) d c).1 in
      let B = (near-sum b z (pos S) d n).1 in
      let L = last-le b last f in
      let h = parts-neg (pos H) in
      let m : (under last + src + r) * U ≡ under last * U + src * U + r * U =
      add-mul (under last + src) r U ∙ ap (λ (x : ℕ). x + r * U) (add-mul (under last) src U) in
      let l : over last < under last + src + r =
      lt_of_mul-lt-mul_right U (let g : over last * U < (under last + src + r) * U = omega (arith, Z, B, L, m, h.0, h.1) in g) in
      omega arith

  width : (S : ℕ) (z a b first last : ℤ) → S ≤ r * U → dist a (z +ℤ neg_ℤ (pos S)) * 2 ≤ d → a ≤ℤ (first *ℤ pos U) → dist b (z +ℤ pos S) * 2 ≤ d
      → (last *ℤ pos U) ≤ℤ b → over last + under first ≤ over first + under last + 2 * r
  width S z a b first last s na f nb l =
      let A = (near-sum a z (neg_ℤ (pos S)) d na).0 in
      let B = (near-sum b z (pos S) d nb).1 in
      let F = le-first a first f in
      let L = last-le b last l in
      let k = parts-neg (pos S) in
      let left : (over last + under first) * U ≡ over last * U + under first * U = add-mul (over last) (under first) U in
      let right : (over first + under last + (r + r + 1)) * U ≡ over first * U + under last * U + (r * U + r * U + 1 * U) =
      add-mul (over first + under last) (r + r + 1) U ∙ ap (λ (x : ℕ). x + (r + r + 1) * U) (add-mul (over first) (under last) U)
      ∙ ap (λ (x : ℕ). over first * U + under last * U + x) (add-mul (r + r) 1 U ∙ ap (λ (x : ℕ). x + 1 * U) (add-mul r r U)) in
      let g : over last + under first < over first + under last + (r + r + 1) =
      lt_of_mul-lt-mul_right U (let g : (over last + under first) * U < (over first + under last + (r + r + 1)) * U =
      omega (arith, A, B, F, L, left, right, k.0, k.1) in g) in
      omega arith

-- ---- a window

both : (p q a b u : ℕ) → p ≤ a * u → q ≤ b * u → p + q ≤ (a + b) * u
both p q a b u h k = let e : (a + b) * u ≡ a * u + b * u = add-mul a b u in omega arith

record Lies (first last : ℤ) (src r : ℕ) : Type 0 where
  pub after : under first ≤ over first + r
  pub before : over last ≤ under last + (src - 1 + r)
  pub wide : over last + under first ≤ over first + under last + 2 * r

lies : (src dst i : ℕ) → 0 < src → src ≤ longest_side → 0 < dst → dst ≤ longest_side → i < dst
    → Lies (unsummed (center_of src dst i) (support_of src dst)).first (unsummed (center_of src dst i) (support_of src dst)).last src (reach src dst)
unfolding center_of sub
lies src dst i A B C D I =
    let r = reach src dst in
    let c = center_of src dst i in
    let s = support_of src dst in
    let w = unsummed c s in
    let product = product-upto src dst i A B C D I in
    let support = support-reach src dst A B C D in
    let S = support.size in
    let s-is : Is unit s (pos S) = record { sign = false; size = S; value = support.value; whole = refl } in
    let half_room : product.size + half_unit ≤ (src + 1) * unit = both product.size half_unit src 1 unit product.most (lit≤ tt) in
    let centre : Near binary64 c (pos product.size +ℤ neg_ℤ (pos half_unit)) slack =
    sum_near _ (neg half) (pos product.size) (neg_ℤ (pos half_unit)) (src + 1) (upto_is _ src product) (is-neg half_is) half_room (omega arith) in
    let z = centre.at in
    let c-in = center-within src dst i B C D I in
    let s-in = support-within src dst B C D in
    let z-room : nat_abs z + S ≤ span * unit =
    both (nat_abs z) S (2 ^ 14 + 1) longest_side unit (size-within binary64 c z (2 ^ 14 + 1) centre.value c-in)
    (le_trans support.greatest (mul-le-mul_right unit (le_trans (reach-top src dst C) B))) in
    let low_sum : Near binary64 (sub binary64 c s) (z +ℤ neg_ℤ (pos S)) slack =
    sum_near c (neg s) z (neg_ℤ (pos S)) span centre.value (is-neg s-is) (subst (λ (n : ℕ). nat_abs z + n ≤ span * unit) (sym (abs_neg S)) z-room)
    (lit< tt) in
    let high_sum : Near binary64 (add binary64 c s) (z +ℤ pos S) slack = sum_near c s z (pos S) span centre.value s-is z-room (lit< tt) in
    let f = ceil-above binary64 63 (sub binary64 c s) span unit low_sum.at (sub-fits binary64 c s)
    (sub_within binary64 c s (2 ^ 14 + 1) longest_side 1 (zero-lt-suc 0) (holds-whole binary64 span (lit≤ tt)) c-in s-in) (lit< tt) low_sum.value in
    let l = floor-below binary64 63 (add binary64 c s) span unit high_sum.at (add-fits binary64 c s)
    (add-within binary64 c s (2 ^ 14 + 1) longest_side 1 (zero-lt-suc 0) (holds-whole binary64 span (lit≤ tt)) c-in s-in) (lit< tt) high_sum.value in
    record {
      after = first-after unit half_unit slack r refl (lit< tt) product.size S z low_sum.at w.first support.greatest centre.off low_sum.off f;
      before = last-before unit half_unit slack r refl (lit< tt) src product.size S z high_sum.at w.last A product.most support.greatest
          centre.off high_sum.off l;
      wide = width unit half_unit slack r refl (lit< tt) S z low_sum.at high_sum.at w.first w.last support.greatest low_sum.off f
          high_sum.off l;
    }

-- from 0 back at most reach numbers
pub first-from : (src dst i : ℕ) → neg_ℤ (pos (reach src dst)) ≤ℤ (window_of src dst i).first
first-from src dst i =
    window-cases (λ (w : Window). neg_ℤ (pos (reach src dst)) ≤ℤ w.first) src dst i (back (pos 0) zero-le)
    (λ A B C D I. back (unsummed (center_of src dst i) (support_of src dst)).first (lies src dst i A B C D I).after)
  where
    back : (z : ℤ) → under z ≤ over z + reach src dst → neg_ℤ (pos (reach src dst)) ≤ℤ z
    back z h = let n = parts-neg (pos (reach src dst)) in parts-le (neg_ℤ (pos (reach src dst))) z (omega (arith, n.0, n.1))

-- from the last on at most reach numbers
pub last-to : (src dst i : ℕ) → (window_of src dst i).last ≤ℤ pos (src - 1 + reach src dst)
last-to src dst i =
    window-cases (λ (w : Window). w.last ≤ℤ pos (src - 1 + reach src dst)) src dst i (le_z_yes tt)
    (λ A B C D I. let w = unsummed (center_of src dst i) (support_of src dst) in
    parts-le w.last (pos (src - 1 + reach src dst)) (let l = (lies src dst i A B C D I).before in omega arith))

numbers-wide : (a b : ℤ) (n : ℕ) → over b + under a ≤ over a + under b + n → numbers a b ≤ n + 1
unfolding numbers
numbers-wide a b n h = go (lt_z b a) refl
  where
    positive : (z : ℤ) → T (non_neg z) → under z ≡ 0
    positive (pos k) t = refl
    positive (negsuc k) t = absurd t

    go : (t : Bool) → lt_z b a ≡ t → cond t 0 (suc (nat_abs (b -ℤ a))) ≤ n + 1
    go true e = zero-le
    go false e =
        let q = parts-neg a in
        omega (arith, h, abs-parts (b -ℤ a), parts_add b (neg_ℤ a), q.0, q.1, positive (b -ℤ a) (diff-sign a b e))

pub numbers-few : (src dst i : ℕ) → numbers (window_of src dst i).first (window_of src dst i).last ≤ 2 * reach src dst + 1
numbers-few src dst i =
    window-cases (λ (w : Window). numbers w.first w.last ≤ 2 * reach src dst + 1) src dst i (numbers-wide (pos 0) (negsuc 0) (2 * reach src dst) zero-le)
    (λ A B C D I. let w = unsummed (center_of src dst i) (support_of src dst) in
    numbers-wide w.first w.last (2 * reach src dst) (lies src dst i A B C D I).wide)
