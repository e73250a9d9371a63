-- RFC 3629, UTF-8: the syntax of section 4 and the encoding of section 3. Definitions only.
use Rattle.std.specs.Prelude.{Bool, cond, List, [], ◌∷◌, ℕ, ◌+◌, ◌/◌, ◌%◌, ◌≤◌, leb}
use Rattle.utf8.specs.Abnf.{Rule, %◌, %◌-◌, ◌·◌, ◌//◌, 2⟨◌⟩, 3⟨◌⟩, *⟨◌⟩}
use Rattle.utf8.specs.Forms.{forms, accepts}

-- Section 4

abbrev pub UTF8-tail : Rule
UTF8-tail = % 0x80 - 0xBF

abbrev pub UTF8-1 : Rule
UTF8-1 = % 0x00 - 0x7F

abbrev pub UTF8-2 : Rule
UTF8-2 = % 0xC2 - 0xDF · UTF8-tail

abbrev pub UTF8-3 : Rule
UTF8-3 =
    % 0xE0 · % 0xA0 - 0xBF · UTF8-tail //
    % 0xE1 - 0xEC · 2⟨ UTF8-tail ⟩ //
    % 0xED · % 0x80 - 0x9F · UTF8-tail //
    % 0xEE - 0xEF · 2⟨ UTF8-tail ⟩

abbrev pub UTF8-4 : Rule
UTF8-4 =
    % 0xF0 · % 0x90 - 0xBF · 2⟨ UTF8-tail ⟩ //
    % 0xF1 - 0xF3 · 3⟨ UTF8-tail ⟩ //
    % 0xF4 · % 0x80 - 0x8F · 2⟨ UTF8-tail ⟩

abbrev pub UTF8-char : Rule
UTF8-char = UTF8-1 // UTF8-2 // UTF8-3 // UTF8-4

abbrev pub UTF8-octets : List ℕ → Type 0
UTF8-octets = *⟨ UTF8-char ⟩

-- UTF8-octets, decided
unfoldable pub well_formed : List ℕ → Bool
well_formed bs = accepts (forms UTF8-char) [] bs

-- Section 3

-- a character number that has an encoding: at most 10FFFF, and not one of D800 to DFFF
pub data Scalar (v : ℕ) : Type 0 where
  low : v ≤ 0xD7FF → Scalar v
  high : 0xE000 ≤ v → v ≤ 0x10FFFF → Scalar v

-- 10xxxxxx with the last six bits of v, and v without them
unfoldable pub tail : ℕ → ℕ
tail v = 0x80 + v % 64

unfoldable pub above : ℕ → ℕ
above v = v / 64

-- the table: 0xxxxxxx, 110xxxxx, 1110xxxx, 11110xxx, and as many tails as the row has
unfoldable pub encoded_scalar : ℕ → List ℕ
encoded_scalar v =
    cond (leb v 0x7F) (v ∷ [])
    (cond (leb v 0x7FF) ((0xC0 + above v) ∷ tail v ∷ [])
    (cond (leb v 0xFFFF) ((0xE0 + above (above v)) ∷ tail (above v) ∷ tail v ∷ [])
    ((0xF0 + above (above (above v))) ∷ tail (above (above v)) ∷ tail (above v) ∷ tail v ∷ [])))
