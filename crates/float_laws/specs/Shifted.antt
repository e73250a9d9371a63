-- A format holds n * 2 ^ k / 2 ^ l for n up to 2 ^ prec, where the result stays below the overflow: a bound beyond the format's
-- whole numbers is a small one times a power of two. `Room f n a c`: it holds the first n multiples of a / c, as a sum of n
-- terms needs. Generic over the format.
use Rattle.std.specs.Prelude.{◌≡◌, false, ℕ, suc, ◌+◌, ◌-◌, ◌*◌, ◌^◌, ◌≤◌, ◌<◌}
use Rattle.std.proofs.Common.{sym, ap, ◌∙◌, subst, inl, inr, zero-le, lt_of_lt_of_le, le_of_lt, le_trans, mul-le-mul_right, eq-or-lt_of_le, one-mul, mul_assoc, arith, lit<, pow-add, pow_pos, pow_mono, shl_lt}
use Rattle.std.proofs.Math.Pow.{pow-lt}
use Rattle.std.specs.Float.{Format, binary32, binary64}
use Rattle.std.specs.Float.Ieee.{prec, emax, low}
use Rattle.std.specs.Float.Ieee.Digits.{back}
use Rattle.std.specs.Float.Ieee.Exact.{round_exact}
use Rattle.float_laws.specs.Values.{Holds}

one-lt : (f : Format) → 1 < 2 ^ prec f
one-lt binary32 = lit< tt
one-lt binary64 = lit< tt

room : (p k j l w e : ℕ) → j + l ≡ w → p + k ≤ e → p + (k + j) < w + suc e
room p k j l w e h g = omega arith

pub holds-shifted : (f : Format) (n k l : ℕ) → l ≤ low f → prec f + k ≤ emax f → n ≤ 2 ^ prec f → Holds f (n * 2 ^ k) (2 ^ l)
holds-shifted f n k l L K h =
    let j = low f - l in
    let split : 2 ^ k * 2 ^ low f ≡ 2 ^ (k + j) * 2 ^ l =
    ap (λ (z : ℕ). 2 ^ k * z) (sym (ap (λ (z : ℕ). 2 ^ z) (back (low f) l L)) ∙ pow-add 2 j l)
    ∙ sym (mul_assoc (2 ^ k) (2 ^ j) (2 ^ l))
    ∙ ap (λ (z : ℕ). z * 2 ^ l) (sym (pow-add 2 k j)) in
    let whole : n * 2 ^ k * 2 ^ low f ≡ n * 2 ^ (k + j) * 2 ^ l =
    mul_assoc n (2 ^ k) (2 ^ low f) ∙ ap (λ (z : ℕ). n * z) split ∙ sym (mul_assoc n (2 ^ (k + j)) (2 ^ l)) in
    let rm : prec f + (k + j) < low f + suc (emax f) = room (prec f) k j l (low f) (emax f) (back (low f) l L) K in
    elim (eq-or-lt_of_le h) [
      | inl e ↦
          round_exact f false (n * 2 ^ k) (2 ^ l) 1 (prec f + (k + j)) (pow_pos l) (one-lt f)
          (subst (λ (z : ℕ). z < 2 ^ (low f + suc (emax f))) (sym (one-mul (2 ^ (prec f + (k + j))))) (pow-lt rm))
          (whole ∙ ap (λ (z : ℕ). z * 2 ^ l) (ap (λ (z : ℕ). z * 2 ^ (k + j)) e ∙ sym (pow-add 2 (prec f) (k + j)) ∙ sym (one-mul (2 ^ (prec f + (k + j))))))
      | inr g ↦ round_exact f false (n * 2 ^ k) (2 ^ l) n (k + j) (pow_pos l) g (lt_of_lt_of_le (shl_lt (prec f) (k + j) g) (pow_mono (le_of_lt rm))) whole
    ]

pub holds-power : (f : Format) (n k : ℕ) → prec f + k ≤ emax f → n ≤ 2 ^ prec f → Holds f (n * 2 ^ k) 1
holds-power f n k K h = holds-shifted f n k 0 zero-le K h

-- ---- for sums of up to n terms

abbrev pub Room : Format → ℕ → ℕ → ℕ → Type 0
Room f n a c = (i : ℕ) → i ≤ n → Holds f (i * a) c

pub room-shifted : (f : Format) (n m k l : ℕ) → l ≤ low f → prec f + k ≤ emax f → n * m ≤ 2 ^ prec f → Room f n (m * 2 ^ k) (2 ^ l)
room-shifted f n m k l L K N i I =
    subst (λ (z : ℕ). Holds f z (2 ^ l)) (mul_assoc i m (2 ^ k)) (holds-shifted f (i * m) k l L K (le_trans (mul-le-mul_right m I) N))

pub room-power : (f : Format) (n k : ℕ) → prec f + k ≤ emax f → n ≤ 2 ^ prec f → Room f n (2 ^ k) 1
room-power f n k K N i I = holds-power f i k K (le_trans I N)
