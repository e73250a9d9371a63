-- CRC-32 as IEEE Std 802.3 defines it in 3.2.9 (Frame Check Sequence field). A list of bits is read as a polynomial over
-- GF(2): the bits are its coefficients, that of the highest power first. Definitions only.
use Rattle.std.specs.Prelude.{Bool, true, false, not, cond, ◌&&◌, ◌||◌, ℕ, zero, suc, ◌+◌, ◌*◌, ◌/◌, ◌%◌, eqb, length, take, drop, replicate}
use mathlib.Core.List.{List, [], ◌∷◌, ◌++◌, map, tail}

-- ---- octets and bits: an octet is sent low bit first (3.3)

-- the k low bits of n, the low bit first
unfoldable pub low_bits : ℕ → ℕ → List Bool
low_bits zero n = []
low_bits (suc k) n = eqb (n % 2) 1 ∷ low_bits k (n / 2)

-- the number that has these bits, the low bit first
unfoldable pub number : List Bool → ℕ
number [] = 0
number (b ∷ p) = number p * 2 + cond b 1 0

-- the octets' bits in the order in which they are sent
unfoldable pub transmitted : List ℕ → List Bool
transmitted [] = []
transmitted (b ∷ bytes) = low_bits 8 b ++ transmitted bytes

-- ---- polynomials

-- coefficients add modulo 2
abbrev pub plus_bit : Bool → Bool → Bool
plus_bit false b = b
plus_bit true b = not b

-- the sum of two polynomials that begin at the same power, and their difference too: where one ends, the other goes on
infixl 40 ◌⊕◌
unfoldable pub ◌⊕◌ : List Bool → List Bool → List Bool
[] ⊕ q = q
(a ∷ p) ⊕ [] = a ∷ p
(a ∷ p) ⊕ (b ∷ q) = plus_bit a b ∷ (p ⊕ q)

-- c times p
unfoldable pub scaled : Bool → List Bool → List Bool
scaled c p = map (λ b. c && b) p

-- the leading coefficient
unfoldable pub leading_bit : List Bool → Bool
leading_bit [] = false
leading_bit (a ∷ p) = a

-- The remainder of p by g, whose leading coefficient is 1, by long division for n coefficients of the quotient. Each is the
-- leading coefficient of what is left of p; that many times g is taken away there, and the leading term, now 0, is dropped.
-- (Division.antt: this is the remainder.)
unfoldable pub remainder : ℕ → List Bool → List Bool → List Bool
remainder zero g p = p
remainder (suc n) g p = remainder n g (tail (p ⊕ scaled (leading_bit p) g))

-- the polynomial that has these powers, from that of x^n down to that of x^0
unfoldable pub among : ℕ → List ℕ → Bool
among n [] = false
among n (e ∷ powers) = eqb n e || among n powers

unfoldable pub polynomial : ℕ → List ℕ → List Bool
polynomial zero powers = among zero powers ∷ []
polynomial (suc n) powers = among (suc n) powers ∷ polynomial n powers

-- ---- 3.2.9

-- G(x) = x^32 + x^26 + x^23 + x^22 + x^16 + x^12 + x^11 + x^10 + x^8 + x^7 + x^5 + x^4 + x^2 + x + 1
unfoldable pub generator : List Bool
generator = polynomial 32 (32 ∷ 26 ∷ 23 ∷ 22 ∷ 16 ∷ 12 ∷ 11 ∷ 10 ∷ 8 ∷ 7 ∷ 5 ∷ 4 ∷ 2 ∷ 1 ∷ 0 ∷ [])

-- the first n bits complemented
unfoldable pub complemented : ℕ → List Bool → List Bool
complemented n p = map not (take n p) ++ drop n p

-- a) The first 32 bits are complemented. No frame is shorter; a shorter message is taken with the zeros of c) behind it.
-- b) The bits are the coefficients of a polynomial M(x), the first that of the highest power.
-- c) M(x) is multiplied by x^32 and divided by G(x). The remainder R(x) has degree 31 at most.
-- d) The coefficients of R(x) are a sequence of 32 bits.
-- e) The sequence is complemented and is the CRC, sent in the order x^31 .. x^0: as a number, the bit of x^31 is the low one.
unfoldable pub crc_of : List ℕ → ℕ
crc_of bytes =
    let m = transmitted bytes in
    number (complemented 32 (remainder (length m) generator (complemented 32 (m ++ replicate 32 false))))
