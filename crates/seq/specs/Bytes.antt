-- Bytes, and numbers of four of them: the lowest byte first, as RFC 8439 has words, and the highest first, as the record has
-- its numbers. Definitions only.
use Rattle.std.specs.Prelude.{List, [], ◌∷◌, ℕ, ◌+◌, ◌*◌, ◌/◌, ◌%◌, ◌^◌, ◌<◌, get_or}

-- each entry is a byte
abbrev pub Bytes : List ℕ → Type 0
Bytes bs = (i : ℕ) → get_or bs i 0 < 256

-- the highest first: of a number, and the number that stands at k
unfoldable pub big_endian : ℕ → List ℕ
big_endian w = w / 2 ^ 24 % 256 ∷ w / 2 ^ 16 % 256 ∷ w / 2 ^ 8 % 256 ∷ w % 256 ∷ []

unfoldable pub number_at : ℕ → List ℕ → ℕ
number_at k bs = get_or bs k 0 * 2 ^ 24 + get_or bs (k + 1) 0 * 2 ^ 16 + get_or bs (k + 2) 0 * 2 ^ 8 + get_or bs (k + 3) 0

-- the lowest first: word k of a byte string, its bytes 4 k to 4 k + 3
unfoldable pub word : List ℕ → ℕ → ℕ
word bs k = get_or bs (4 * k) 0 + get_or bs (4 * k + 1) 0 * 2 ^ 8 + get_or bs (4 * k + 2) 0 * 2 ^ 16 + get_or bs (4 * k + 3) 0 * 2 ^ 24

-- and the bytes of a word
unfoldable pub little_endian : ℕ → List ℕ
little_endian w = w % 256 ∷ w / 2 ^ 8 % 256 ∷ w / 2 ^ 16 % 256 ∷ w / 2 ^ 24 % 256 ∷ []
