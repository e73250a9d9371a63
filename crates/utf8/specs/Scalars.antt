-- Section 4's characters are section 3's encodings, each of one scalar value: the value is put together again from the bytes' free bits, and section 4's
-- ranges bound it.
use Rattle.std.specs.Prelude.{◌≡◌, refl, Bool, true, false, ◌⊎◌, ◌↔◌, List, [], ◌∷◌, ℕ, ◌+◌, ◌-◌, ◌*◌, ◌≤◌, ◌<◌, leb}
use Rattle.std.proofs.Common.{sym, ap, subst, ◌∙◌, inl, inr, ⊎_elim, arith, le-leb, leb-true, leb-false}
use Rattle.std.proofs.lemmas.Bool.{lt-leb}
use Rattle.utf8.specs.Abnf.{%◌-◌, ◌·◌, 2⟨◌⟩, Of, byte, joined, first, second}
use Rattle.utf8.specs.Rfc3629.{UTF8-tail, UTF8-3, UTF8-4, UTF8-char, Scalar, low, high, tail, above, encoded_scalar}

-- ---- the table's rows

data Row (v : ℕ) : List ℕ → Type 0 where
  one : v ≤ 0x7F → Row v (v ∷ [])
  two : 0x7F < v → v ≤ 0x7FF → Row v ((0xC0 + above v) ∷ tail v ∷ [])
  three : 0x7FF < v → v ≤ 0xFFFF → Row v ((0xE0 + above (above v)) ∷ tail (above v) ∷ tail v ∷ [])
  four : 0xFFFF < v → Row v ((0xF0 + above (above (above v))) ∷ tail (above (above v)) ∷ tail (above v) ∷ tail v ∷ [])

encodes : {v : ℕ} {c : List ℕ} → Row v c → encoded_scalar v ≡ c
unfolding encoded_scalar
encodes {v} (one h) = rw (le-leb v 0x7F h)
encodes {v} (two l h) = rw (lt-leb v 0x7F l, le-leb v 0x7FF h)
encodes {v} (three l h) = let k : 0x7F < v = omega arith in rw (lt-leb v 0x7F k, lt-leb v 0x7FF l, le-leb v 0xFFFF h)
encodes {v} (four l) = let k : 0x7F < v = omega arith in let j : 0x7FF < v = omega arith in rw (lt-leb v 0x7F k, lt-leb v 0x7FF j, lt-leb v 0xFFFF l)

at_most : (v n : ℕ) → (v ≤ n) ⊎ (n < v)
at_most v n = go (leb v n) refl
  where
    go : (t : Bool) → leb v n ≡ t → (v ≤ n) ⊎ (n < v)
    go true e = inl (leb-true v n e)
    go false e = inr (leb-false v n e)

row : (v : ℕ) → Row v (encoded_scalar v)
row v =
    ⊎_elim (λ h. of (one h)) (λ l.
    ⊎_elim (λ h. of (two l h)) (λ m.
    ⊎_elim (λ h. of (three m h)) (λ n. of (four n))
    (at_most v 0xFFFF)) (at_most v 0x7FF)) (at_most v 0x7F)
  where
    of : {c : List ℕ} → Row v c → Row v (encoded_scalar v)
    of r = rw (encodes r) r

-- ---- from bytes to the value

-- six bits more
infixl 65 ◌⊕◌
◌⊕◌ : ℕ → ℕ → ℕ
x ⊕ b = x * 64 + (b - 0x80)

-- the free bits of a character's bytes
abbrev value_of : List ℕ → ℕ
value_of [] = 0
value_of (a ∷ []) = a
value_of (a ∷ b ∷ []) = a - 0xC0 ⊕ b
value_of (a ∷ b ∷ c ∷ []) = a - 0xE0 ⊕ b ⊕ c
value_of (a ∷ b ∷ c ∷ d ∷ ds) = a - 0xF0 ⊕ b ⊕ c ⊕ d

abbrev Tail : ℕ → Type 0
Tail b = (0x80 ≤ b) × (b ≤ 0xBF)

above_of : (x b : ℕ) → Tail b → above (x ⊕ b) ≡ x
unfolding ◌⊕◌ above
above_of x b h = omega arith

tail_of : (x b : ℕ) → Tail b → tail (x ⊕ b) ≡ b
unfolding ◌⊕◌ tail
tail_of x b h = omega arith

-- bytes that have the form of a row are that row of their value; each `let` puts a tail's bounds where `simp` looks for them
bytes-two : (a b : ℕ) → let v = value_of (a ∷ b ∷ []) in (0xC0 ≤ a) × Tail b × (0x7F < v) × (v ≤ 0x7FF) → encoded_scalar v ≡ a ∷ b ∷ []
bytes-two a b h = let hb = h.1 in encodes (two h.2 h.3) ∙ simp (above_of, tail_of) (ap (λ (x : ℕ). x ∷ b ∷ []) (omega arith))

bytes-three : (a b c : ℕ) → let v = value_of (a ∷ b ∷ c ∷ []) in (0xE0 ≤ a) × Tail b × Tail c × (0x7FF < v) × (v ≤ 0xFFFF) → encoded_scalar v ≡ a ∷ b ∷ c ∷ []
bytes-three a b c h = let hb = h.1 in let hc = h.2 in encodes (three h.3 h.4) ∙ simp (above_of, tail_of) (ap (λ (x : ℕ). x ∷ b ∷ c ∷ []) (omega arith))

bytes-four : (a b c d : ℕ) → let v = value_of (a ∷ b ∷ c ∷ d ∷ []) in (0xF0 ≤ a) × Tail b × Tail c × Tail d × (0xFFFF < v) → encoded_scalar v ≡ a ∷ b ∷ c ∷ d ∷ []
bytes-four a b c d h = let hb = h.1 in let hc = h.2 in let hd = h.3 in
    encodes (four h.4) ∙ simp (above_of, tail_of) (ap (λ (x : ℕ). x ∷ b ∷ c ∷ d ∷ []) (omega arith))

-- c is the encoding of a scalar value, that of its free bits
abbrev Encoded : List ℕ → Type 0
Encoded c = Scalar (value_of c) × (encoded_scalar (value_of c) ≡ c)

encoded-3 : {c : List ℕ} → Of UTF8-3 c → Encoded c
unfolding ◌⊕◌
encoded-3 (first (joined (byte {b = a} l₁ h₁) (joined (byte {b} l₂ h₂) (byte {b = c} l₃ h₃)))) = (low (omega arith), bytes-three a b c (omega arith))
encoded-3 (second (first (joined (byte {b = a} l₁ h₁) (joined (byte {b} l₂ h₂) (byte {b = c} l₃ h₃))))) = (low (omega arith), bytes-three a b c (omega arith))
encoded-3 (second (second (first (joined (byte {b = a} l₁ h₁) (joined (byte {b} l₂ h₂) (byte {b = c} l₃ h₃)))))) =
    (low (omega arith), bytes-three a b c (omega arith))
encoded-3 (second (second (second (joined (byte {b = a} l₁ h₁) (joined (byte {b} l₂ h₂) (byte {b = c} l₃ h₃)))))) =
    (high (omega arith) (omega arith), bytes-three a b c (omega arith))

encoded-4 : {c : List ℕ} → Of UTF8-4 c → Encoded c
unfolding ◌⊕◌
encoded-4 (first (joined (byte {b = a} l₁ h₁) (joined (byte {b} l₂ h₂) (joined (byte {b = c} l₃ h₃) (byte {b = d} l₄ h₄))))) =
    (high (omega arith) (omega arith), bytes-four a b c d (omega arith))
encoded-4 (second (first (joined (byte {b = a} l₁ h₁) (joined (byte {b} l₂ h₂) (joined (byte {b = c} l₃ h₃) (byte {b = d} l₄ h₄)))))) =
    (high (omega arith) (omega arith), bytes-four a b c d (omega arith))
encoded-4 (second (second (joined (byte {b = a} l₁ h₁) (joined (byte {b} l₂ h₂) (joined (byte {b = c} l₃ h₃) (byte {b = d} l₄ h₄)))))) =
    (high (omega arith) (omega arith), bytes-four a b c d (omega arith))

encoded : {c : List ℕ} → Of UTF8-char c → Encoded c
unfolding ◌⊕◌
encoded (first (byte {b = a} l h)) = (low (omega arith), encodes (one h))
encoded (second (first (joined (byte {b = a} l₁ h₁) (byte {b} l₂ h₂)))) = (low (omega arith), bytes-two a b (omega arith))
encoded (second (second (first d))) = encoded-3 d
encoded (second (second (second d))) = encoded-4 d

-- ---- from the value to bytes

value : {v : ℕ} {c : List ℕ} → Row v c → value_of c ≡ v
unfolding ◌⊕◌ above tail
value (one h) = refl
value (two l h) = omega arith
value (three l h) = omega arith
value (four l) = omega arith

in-1 : (b a z : ℕ) → (a ≤ b) × (b ≤ z) → Of (% a - z) (b ∷ [])
in-1 b a z h = byte h.0 h.1

a-tail : (v : ℕ) → Of UTF8-tail (tail v ∷ [])
unfolding tail
a-tail v = in-1 (tail v) 0x80 0xBF (omega arith)

in-3 : (v a z c y : ℕ) → let lead = 0xE0 + above (above v) in let next = tail (above v) in
    (a ≤ lead) × (lead ≤ z) × (c ≤ next) × (next ≤ y) → Of (% a - z · % c - y · UTF8-tail) (lead ∷ next ∷ tail v ∷ [])
in-3 v a z c y h = joined (byte h.0 h.1) (joined (byte h.2 h.3) (a-tail v))

in-4 : (v a z c y : ℕ) → let lead = 0xF0 + above (above (above v)) in let next = tail (above (above v)) in
    (a ≤ lead) × (lead ≤ z) × (c ≤ next) × (next ≤ y) → Of (% a - z · % c - y · 2⟨ UTF8-tail ⟩) (lead ∷ next ∷ tail (above v) ∷ tail v ∷ [])
in-4 v a z c y h = joined (byte h.0 h.1) (joined (byte h.2 h.3) (joined (a-tail (above v)) (a-tail v)))

character : {v : ℕ} {c : List ℕ} → Scalar v → Row v c → Of UTF8-char c
unfolding above tail
character {v} s (one h) = first (in-1 v 0x00 0x7F (omega arith))
character {v} s (two l h) = second (first (joined (in-1 (0xC0 + above v) 0xC2 0xDF (omega arith)) (a-tail v)))
character {v} (low k) (three l h) =
    ⊎_elim (λ m. second (second (first (first (in-3 v 0xE0 0xE0 0xA0 0xBF (omega arith)))))) (λ m.
    ⊎_elim (λ n. second (second (first (second (first (in-3 v 0xE1 0xEC 0x80 0xBF (omega arith)))))))
    (λ n. second (second (first (second (second (first (in-3 v 0xED 0xED 0x80 0x9F (omega arith))))))))
    (at_most v 0xCFFF)) (at_most v 0xFFF)
character {v} (high j k) (three l h) = second (second (first (second (second (second (in-3 v 0xEE 0xEF 0x80 0xBF (omega arith)))))))
character (low k) (four l) = absurd (omega arith)
character {v} (high j k) (four l) =
    ⊎_elim (λ m. second (second (second (first (in-4 v 0xF0 0xF0 0x90 0xBF (omega arith)))))) (λ m.
    ⊎_elim (λ n. second (second (second (second (first (in-4 v 0xF1 0xF3 0x80 0xBF (omega arith)))))))
    (λ n. second (second (second (second (second (in-4 v 0xF4 0xF4 0x80 0x8F (omega arith)))))))
    (at_most v 0xFFFFF)) (at_most v 0x3FFFF)

-- ---- the theorem

-- a character is the encoding of a scalar value
pub scalar-char : (c : List ℕ) → Of UTF8-char c ↔ ((v : ℕ) × Scalar v × (encoded_scalar v ≡ c))
scalar-char c = (λ d. (value_of c, (encoded d).0, (encoded d).1), λ k. subst (Of UTF8-char) k.2 (character k.1 (row k.0)))

-- of one alone
pub one_value : (v w : ℕ) → encoded_scalar v ≡ encoded_scalar w → v ≡ w
one_value v w e = sym (value (row v)) ∙ (ap value_of e ∙ value (row w))
