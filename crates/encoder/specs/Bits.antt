-- An output is below 2. The bits of bytes, most significant first: how many, that each is below 2, and which stands where.
use Rattle.std.specs.Prelude.{◌≡◌, refl, List, [], ◌∷◌, ℕ, zero, suc, ◌+◌, ◌-◌, ◌*◌, ◌/◌, ◌%◌, ◌^◌, ◌≤◌, ◌<◌, length, get_or, Bool, true, false, not, T, ltb}
use Rattle.std.proofs.Common.{sym, ap, ap₂, ◌∙◌, arith, ltb→lt, nltb→le}
use Rattle.std.proofs.Math.ListN.{get_or-eq_default}
use Rattle.std.proofs.Math.Nat.{zero-div}
use Rattle.encoder.specs.Ccsds131.{parity, record_bits, six_zeros, Bits, none, one}

pub parity-lt : (g r : ℕ) → parity g r < 2
unfolding parity
parity-lt g r = omega arith

pub bits_at : (bs : List ℕ) (i : ℕ) → Bits bs → get_or bs i 0 < 2
bits_at [] i h = omega arith
bits_at (b ∷ bs) zero (one h k) = h
bits_at (b ∷ bs) (suc i) (one h k) = bits_at bs i k

pub record_bits-length : (xs tail : List ℕ) → length (record_bits xs tail) ≡ 8 * length xs + length tail
unfolding record_bits
record_bits-length [] tail = omega arith
record_bits-length (x ∷ xs) tail = let h = record_bits-length xs tail in omega arith

pub half-bit : (x : ℕ) → x % 2 < 2
half-bit x = omega arith

pub record_bits-bits : (xs tail : List ℕ) → Bits tail → Bits (record_bits xs tail)
unfolding record_bits
record_bits-bits [] tail t = t
record_bits-bits (x ∷ xs) tail t =
    one (half-bit (x / 128))
    (one (half-bit (x / 64))
    (one (half-bit (x / 32))
    (one (half-bit (x / 16)) (one (half-bit (x / 8)) (one (half-bit (x / 4)) (one (half-bit (x / 2)) (one (half-bit x) (record_bits-bits xs tail t))))))))

pub six-bits : Bits six_zeros
six-bits = let z : 0 < 2 = omega arith in one z (one z (one z (one z (one z (one z none)))))

-- ---- a byte's bit

pub bit-in : (xs tail : List ℕ) (t : ℕ) → t / 8 < length xs → get_or (record_bits xs tail) t 0 ≡ get_or xs (t / 8) 0 / 2 ^ (7 - t % 8) % 2
unfolding record_bits
bit-in [] tail t h = absurd (omega arith)
bit-in (x ∷ xs) tail zero h = refl
bit-in (x ∷ xs) tail (suc zero) h = refl
bit-in (x ∷ xs) tail (suc (suc zero)) h = refl
bit-in (x ∷ xs) tail (suc (suc (suc zero))) h = refl
bit-in (x ∷ xs) tail (suc (suc (suc (suc zero)))) h = refl
bit-in (x ∷ xs) tail (suc (suc (suc (suc (suc zero))))) h = refl
bit-in (x ∷ xs) tail (suc (suc (suc (suc (suc (suc zero)))))) h = refl
bit-in (x ∷ xs) tail (suc (suc (suc (suc (suc (suc (suc zero))))))) h = ap (λ (y : ℕ). y % 2) (let e : x ≡ x / 1 = omega arith in e)
bit-in (x ∷ xs) tail (suc (suc (suc (suc (suc (suc (suc (suc t)))))))) h =
    let u = suc (suc (suc (suc (suc (suc (suc (suc t))))))) in
    let q : u / 8 ≡ suc (t / 8) = omega arith in
    let r : u % 8 ≡ t % 8 = omega arith in
    bit-in xs tail t (omega arith) ∙ ap₂ (λ (i k : ℕ). get_or (x ∷ xs) i 0 / 2 ^ (7 - k) % 2) (sym q) (sym r)

six-at : (t : ℕ) → get_or six_zeros t 0 ≡ 0
six-at zero = refl
six-at (suc zero) = refl
six-at (suc (suc zero)) = refl
six-at (suc (suc (suc zero))) = refl
six-at (suc (suc (suc (suc zero)))) = refl
six-at (suc (suc (suc (suc (suc zero))))) = refl
six-at (suc (suc (suc (suc (suc (suc t)))))) = refl

pub bit-out : (xs : List ℕ) (t : ℕ) → length xs ≤ t / 8 → get_or (record_bits xs six_zeros) t 0 ≡ 0
unfolding record_bits
bit-out [] t h = six-at t
bit-out (x ∷ xs) zero h = absurd (omega arith)
bit-out (x ∷ xs) (suc zero) h = absurd (omega arith)
bit-out (x ∷ xs) (suc (suc zero)) h = absurd (omega arith)
bit-out (x ∷ xs) (suc (suc (suc zero))) h = absurd (omega arith)
bit-out (x ∷ xs) (suc (suc (suc (suc zero)))) h = absurd (omega arith)
bit-out (x ∷ xs) (suc (suc (suc (suc (suc zero))))) h = absurd (omega arith)
bit-out (x ∷ xs) (suc (suc (suc (suc (suc (suc zero)))))) h = absurd (omega arith)
bit-out (x ∷ xs) (suc (suc (suc (suc (suc (suc (suc zero))))))) h = absurd (omega arith)
bit-out (x ∷ xs) (suc (suc (suc (suc (suc (suc (suc (suc t)))))))) h = bit-out xs t (omega arith)

-- by whether t lies in the record, whose bytes read as 0 behind it
pub bit-there : (xs : List ℕ) (t : ℕ) → get_or xs (t / 8) 0 / 2 ^ (7 - t % 8) % 2 ≡ get_or (record_bits xs six_zeros) t 0
bit-there xs t = go (ltb (t / 8) (length xs)) (ltb→lt (t / 8) (length xs)) (nltb→le (t / 8) (length xs))
  where
    go : (b : Bool) → (T b → t / 8 < length xs) → (T (not b) → length xs ≤ t / 8)
        → get_or xs (t / 8) 0 / 2 ^ (7 - t % 8) % 2 ≡ get_or (record_bits xs six_zeros) t 0
    go true h k = sym (bit-in xs six_zeros t (h tt))
    go false h k =
        let behind : get_or xs (t / 8) 0 ≡ 0 = get_or-eq_default xs 0 (k tt) in
        let nothing : 0 / 2 ^ (7 - t % 8) % 2 ≡ 0 = ap (λ (x : ℕ). x % 2) (zero-div (2 ^ (7 - t % 8))) in
        rw behind (nothing ∙ sym (bit-out xs t (k tt)))
