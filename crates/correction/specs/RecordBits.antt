-- Bits that lead from state 0 to state 0 are the bits of the record that they make, and six zeros.
use Rattle.std.specs.Prelude.{◌≡◌, refl, List, [], ◌∷◌, ℕ, zero, suc, ◌+◌, ◌*◌, ◌/◌, ◌%◌, ◌≤◌, ◌<◌, length, get_or}
use Rattle.std.proofs.Math.Path.{sym}
use Rattle.std.proofs.Common.{ap, ◌∙◌, mul-suc, add_comm, le_of_eq, arith, ext_get_or}
use Rattle.std.proofs.Math.Nat.{add-mul-div_right, div-eq_of_lt}
use Rattle.seq.specs.Tab.{length-tab, get_or-tab, tab-front, tab-same}
use Rattle.seq.specs.Lists.{tab}
use Rattle.encoder.specs.Ccsds131.{next_state, code, run, byte_bits, record_bits, six_zeros, Bits, none, one}
use Rattle.encoder.specs.Bits.{parity-lt, half-bit}
use Rattle.decoder.specs.Decoder.{byte_at, bytes_of}
use Rattle.seq.specs.Bytes.{Bytes}

-- ---- the words of bits

pub code-length : (s : ℕ) (bs : List ℕ) → length (code s bs) ≡ 2 * length bs
unfolding code
code-length s [] = refl
code-length s (b ∷ bs) = let h = code-length (next_state b s) bs in omega arith

pub code-bits : (s : ℕ) (bs : List ℕ) → Bits (code s bs)
unfolding code
code-bits s [] = none
code-bits s (b ∷ bs) = one (parity-lt 0o171 (b * 64 + s)) (one (parity-lt 0o133 (b * 64 + s)) (code-bits (next_state b s) bs))

-- ---- six zeros lead to state 0, and only they do

pub run-lt : (s : ℕ) (bs : List ℕ) → s < 64 → Bits bs → run s bs < 64
unfolding run
run-lt s [] h none = h
run-lt s (b ∷ bs) h (one k t) = run-lt (next_state b s) bs (omega arith) t

six-home : (s : ℕ) → s < 64 → run s six_zeros ≡ 0
unfolding run
six-home s h = omega arith

run-tail : (xs tail : List ℕ) (s : ℕ) → s < 64 → ((t : ℕ) → t < 64 → run t tail ≡ 0) → run s (record_bits xs tail) ≡ 0
unfolding run record_bits
run-tail [] tail s h k = k s h
run-tail (x ∷ xs) tail s h k =
    let step : (b t : ℕ) → b < 2 → t < 64 → next_state b t < 64 = λ b t p q. omega arith in
    run-tail xs tail _
    (step (x % 2) _ (half-bit x) (step (x / 2 % 2) _ (half-bit (x / 2)) (step (x / 4 % 2) _ (half-bit (x / 4)) (step (x / 8 % 2) _ (half-bit (x / 8))
    (step (x / 16 % 2) _ (half-bit (x / 16))
    (step (x / 32 % 2) _ (half-bit (x / 32)) (step (x / 64 % 2) _ (half-bit (x / 64)) (step (x / 128 % 2) s (half-bit (x / 128)) h))))))))
    k

pub record-home : (xs : List ℕ) → run 0 (record_bits xs six_zeros) ≡ 0
record-home xs = run-tail xs six_zeros 0 (omega arith) six-home

-- ---- the record of a record's bits

shift : (i k : ℕ) → 8 * suc i + k ≡ suc (suc (suc (suc (suc (suc (suc (suc (8 * i + k))))))))
shift i k = omega (arith, mul-suc 8 i)

shift' : (i : ℕ) → 8 * suc i ≡ suc (suc (suc (suc (suc (suc (suc (suc (8 * i))))))))
shift' i = omega (arith, mul-suc 8 i)

horner : {x a₁ a₂ a₃ a₄ a₅ a₆ a₇ b₇ : ℕ} (b₀ b₁ b₂ b₃ b₄ b₅ b₆ : ℕ) → x ≡ a₁ * 2 + b₀ → a₁ ≡ a₂ * 2 + b₁ → a₂ ≡ a₃ * 2 + b₂ → a₃ ≡ a₄ * 2 + b₃
    → a₄ ≡ a₅ * 2 + b₄ → a₅ ≡ a₆ * 2 + b₅ → a₆ ≡ a₇ * 2 + b₆ → a₇ ≡ b₇
    → b₇ * 128 + b₆ * 64 + b₅ * 32 + b₄ * 16 + b₃ * 8 + b₂ * 4 + b₁ * 2 + b₀ ≡ x
horner b₀ b₁ b₂ b₃ b₄ b₅ b₆ p₀ p₁ p₂ p₃ p₄ p₅ p₆ p₇ = omega arith

whole : (x : ℕ) → x < 256 → x / 128 % 2 * 128 + x / 64 % 2 * 64 + x / 32 % 2 * 32 + x / 16 % 2 * 16 + x / 8 % 2 * 8 + x / 4 % 2 * 4 + x / 2 % 2 * 2 + x % 2 ≡ x
whole x h =
    horner (x % 2) (x / 2 % 2) (x / 4 % 2) (x / 8 % 2) (x / 16 % 2) (x / 32 % 2) (x / 64 % 2) (let e : x ≡ x / 2 * 2 + x % 2 = omega arith in
    e) (let e : x / 2 ≡ x / 4 * 2 + x / 2 % 2 = omega arith in e) (let e : x / 4 ≡ x / 8 * 2 + x / 4 % 2 = omega arith in e)
    (let e : x / 8 ≡ x / 16 * 2 + x / 8 % 2 = omega arith in e) (let e : x / 16 ≡ x / 32 * 2 + x / 16 % 2 = omega arith in
    e) (let e : x / 32 ≡ x / 64 * 2 + x / 32 % 2 = omega arith in e)
    (let e : x / 64 ≡ x / 128 * 2 + x / 64 % 2 = omega arith in e) (let e : x / 128 ≡ x / 128 % 2 = omega arith in e)

pub byte_at-record_bits : (xs tail : List ℕ) (i : ℕ) → Bytes xs → i < length xs → byte_at (record_bits xs tail) i ≡ get_or xs i 0
unfolding byte_at record_bits
byte_at-record_bits [] tail i o h = absurd (omega arith)
byte_at-record_bits (x ∷ xs) tail zero o h = whole x (o 0)
byte_at-record_bits (x ∷ xs) tail (suc i) o h =
    rw (shift i 1, shift i 2, shift i 3, shift i 4, shift i 5, shift i 6, shift i 7, shift' i) (byte_at-record_bits xs tail i (λ j. o (suc j)) (omega arith))

pub bytes_of-record_bits : (xs tail : List ℕ) → Bytes xs → bytes_of (length xs) (record_bits xs tail) ≡ xs
unfolding bytes_of
bytes_of-record_bits xs tail o =
    ext_get_or 0 (tab (byte_at (record_bits xs tail)) (length xs)) xs (length-tab (byte_at (record_bits xs tail)) (length xs))
    (λ i h. let h' : i < length xs = omega (arith, length-tab (byte_at (record_bits xs tail)) (length xs)) in
    get_or-tab (byte_at (record_bits xs tail)) (length xs) i 0 h' ∙ byte_at-record_bits xs tail i o h')

-- ---- bits that lead home are a record's bits and six zeros

bit-back : {x : ℕ} (a q r m : ℕ) → a < 2 → r < m → x ≡ (q * 2 + a) * m + r → 0 < m → x / m % 2 ≡ a
bit-back {x} a q r m A R e M =
    let d : x / m ≡ q * 2 + a =
    ap (λ (y : ℕ). y / m) (e ∙ add_comm ((q * 2 + a) * m) r) ∙ add-mul-div_right r (q * 2 + a) M ∙ (let z : r / m ≡ 0 = div-eq_of_lt R in omega arith) in
    omega arith

module _ (a b c d e f g h : ℕ) (A : a < 2) (B : b < 2) (C : c < 2) (D : d < 2) (E : e < 2) (F : f < 2) (G : g < 2) (H : h < 2) where
  bits_back : (bs : List ℕ)
      → byte_bits (a * 128 + b * 64 + c * 32 + d * 16 + e * 8 + f * 4 + g * 2 + h) bs ≡ a ∷ b ∷ c ∷ d ∷ e ∷ f ∷ g ∷ h ∷ bs
  bits_back bs =
      let x = a * 128 + b * 64 + c * 32 + d * 16 + e * 8 + f * 4 + g * 2 + h in
      let p₇ : x / 128 % 2 ≡ a = bit-back a 0 (b * 64 + c * 32 + d * 16 + e * 8 + f * 4 + g * 2 + h) 128 A (omega arith) (omega arith) (omega arith) in
      let p₆ : x / 64 % 2 ≡ b = bit-back b a (c * 32 + d * 16 + e * 8 + f * 4 + g * 2 + h) 64 B (omega arith) (omega arith) (omega arith) in
      let p₅ : x / 32 % 2 ≡ c = bit-back c (a * 2 + b) (d * 16 + e * 8 + f * 4 + g * 2 + h) 32 C (omega arith) (omega arith) (omega arith) in
      let p₄ : x / 16 % 2 ≡ d = bit-back d (a * 4 + b * 2 + c) (e * 8 + f * 4 + g * 2 + h) 16 D (omega arith) (omega arith) (omega arith) in
      let p₃ : x / 8 % 2 ≡ e = bit-back e (a * 8 + b * 4 + c * 2 + d) (f * 4 + g * 2 + h) 8 E (omega arith) (omega arith) (omega arith) in
      let p₂ : x / 4 % 2 ≡ f = bit-back f (a * 16 + b * 8 + c * 4 + d * 2 + e) (g * 2 + h) 4 F (omega arith) (omega arith) (omega arith) in
      let p₁ : x / 2 % 2 ≡ g = bit-back g (a * 32 + b * 16 + c * 8 + d * 4 + e * 2 + f) h 2 G (omega arith) (omega arith) (omega arith) in
      let p₀ : x % 2 ≡ h = omega arith in
      cc

home-step : (b x m : ℕ) → b < 2 → m ≤ 32 → (b * 64 + x) / 2 < m → (b ≡ 0) × (x < 2 * m)
home-step b x m B M h = (omega arith, omega arith)

six-tail : (s : ℕ) (bs : List ℕ) → s < 64 → Bits bs → length bs ≡ 6 → run s bs ≡ 0 → bs ≡ six_zeros
unfolding run
six-tail s [] h o l e = absurd (omega arith)
six-tail s (a ∷ []) h o l e = absurd (omega arith)
six-tail s (a ∷ b ∷ []) h o l e = absurd (omega arith)
six-tail s (a ∷ b ∷ c ∷ []) h o l e = absurd (omega arith)
six-tail s (a ∷ b ∷ c ∷ d ∷ []) h o l e = absurd (omega arith)
six-tail s (a ∷ b ∷ c ∷ d ∷ f ∷ []) h o l e = absurd (omega arith)
six-tail s (a ∷ b ∷ c ∷ d ∷ f ∷ g ∷ []) h (one A (one B (one C (one D (one F (one G o)))))) l e =
    let s₁ = next_state a s in
    let s₂ = next_state b s₁ in
    let s₃ = next_state c s₂ in
    let s₄ = next_state d s₃ in
    let s₅ = next_state f s₄ in
    let r₆ = home-step g s₅ 1 G (omega arith) (le_of_eq (ap suc e)) in
    let r₅ = home-step f s₄ 2 F (omega arith) r₆.1 in
    let r₄ = home-step d s₃ 4 D (omega arith) r₅.1 in
    let r₃ = home-step c s₂ 8 C (omega arith) r₄.1 in
    let r₂ = home-step b s₁ 16 B (omega arith) r₃.1 in
    let r₁ = home-step a s 32 A (omega arith) r₂.1 in
    cc (r₁.0, r₂.0, r₃.0, r₄.0, r₅.0, r₆.0)
six-tail s (a ∷ b ∷ c ∷ d ∷ f ∷ g ∷ i ∷ bs) h o l e = absurd (omega arith)

byte_at-next : (a b c d e f g h : ℕ) (bs : List ℕ) (i : ℕ) → byte_at (a ∷ b ∷ c ∷ d ∷ e ∷ f ∷ g ∷ h ∷ bs) (suc i) ≡ byte_at bs i
unfolding byte_at
byte_at-next a b c d e f g h bs i = rw (shift i 1, shift i 2, shift i 3, shift i 4, shift i 5, shift i 6, shift i 7, shift' i) refl

record-front : (n a b c d e f g h : ℕ) (bs : List ℕ)
    → bytes_of (suc n) (a ∷ b ∷ c ∷ d ∷ e ∷ f ∷ g ∷ h ∷ bs) ≡ (a * 128 + b * 64 + c * 32 + d * 16 + e * 8 + f * 4 + g * 2 + h) ∷ bytes_of n bs
unfolding bytes_of byte_at
record-front n a b c d e f g h bs =
    let all = a ∷ b ∷ c ∷ d ∷ e ∷ f ∷ g ∷ h ∷ bs in
    tab-front (byte_at all) n
    ∙ ap (λ (xs : List ℕ). byte_at all 0 ∷ xs) (tab-same (λ i. byte_at all (suc i)) (byte_at bs) n (λ i k. byte_at-next a b c d e f g h bs i))

pub record_bits-bytes_of : (n s : ℕ) (bs : List ℕ) → s < 64 → Bits bs → length bs ≡ 8 * n + 6 → run s bs ≡ 0 → record_bits (bytes_of n bs) six_zeros ≡ bs
unfolding record_bits run
record_bits-bytes_of zero s bs S o l e = unfold bytes_of tab in sym (six-tail s bs S o l e)
record_bits-bytes_of (suc n) s [] S o l e = absurd (omega arith)
record_bits-bytes_of (suc n) s (a ∷ []) S o l e = absurd (omega arith)
record_bits-bytes_of (suc n) s (a ∷ b ∷ []) S o l e = absurd (omega arith)
record_bits-bytes_of (suc n) s (a ∷ b ∷ c ∷ []) S o l e = absurd (omega arith)
record_bits-bytes_of (suc n) s (a ∷ b ∷ c ∷ d ∷ []) S o l e = absurd (omega arith)
record_bits-bytes_of (suc n) s (a ∷ b ∷ c ∷ d ∷ p ∷ []) S o l e = absurd (omega arith)
record_bits-bytes_of (suc n) s (a ∷ b ∷ c ∷ d ∷ p ∷ q ∷ []) S o l e = absurd (omega arith)
record_bits-bytes_of (suc n) s (a ∷ b ∷ c ∷ d ∷ p ∷ q ∷ r ∷ []) S o l e = absurd (omega arith)
record_bits-bytes_of (suc n) s (a ∷ b ∷ c ∷ d ∷ p ∷ q ∷ r ∷ t ∷ bs) S (one A (one B (one C (one D (one P (one Q (one R (one U o)))))))) l e =
    let all = a ∷ b ∷ c ∷ d ∷ p ∷ q ∷ r ∷ t ∷ [] in
    let s₈ = run s all in
    let S₈ : s₈ < 64 = run-lt s all S (one A (one B (one C (one D (one P (one Q (one R (one U none)))))))) in
    ap (λ (xs : List ℕ). record_bits xs six_zeros) (record-front n a b c d p q r t bs)
    ∙ bits_back a b c d p q r t A B C D P Q R U (record_bits (bytes_of n bs) six_zeros)
    ∙ ap (λ (xs : List ℕ). a ∷ b ∷ c ∷ d ∷ p ∷ q ∷ r ∷ t ∷ xs) (record_bits-bytes_of n s₈ bs S₈ o (omega arith) e)
