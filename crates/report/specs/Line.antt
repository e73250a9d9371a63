-- The line that the program votes prints (section 20 of the scope): "text", length, the bytes in lowercase hex ("-" if none); or
-- "refused", number, number given, in decimal. In ASCII, and with the line's end. Definitions only.
use Rattle.std.specs.Prelude.{cond, List, [], ◌∷◌, ◌++◌, ℕ, zero, suc, ◌+◌, ◌-◌, ◌/◌, ◌%◌, ltb, length, Result, Ok, Err}
use Prim.Native.Char.{code}
use Prim.Native.String.{String, [] as []ˢ, ◌∷◌ as ◌∷ˢ◌}
use Rattle.refusal.specs.Numbers.{number_of, given_of}
use Rattle.refusal.specs.declared.Refusal.{Refusal}

-- the codes of a word's characters
abbrev pub ascii : String → List ℕ
ascii []ˢ = []
ascii (c ∷ˢ s) = code c ∷ ascii s

-- ---- numbers

-- `0` to `9`, then `a` to `f`
unfoldable pub digit : ℕ → ℕ
digit d = cond (ltb d 10) (code "0" + d) (code "a" + (d - 10))

-- the digits of a number that has at most k of them: the last behind those of the tenth, no zero in front
unfoldable pub decimal_digits : ℕ → ℕ → List ℕ
decimal_digits zero n = []
decimal_digits (suc k) n = let more = decimal_digits k (n / 10) ++ (digit (n % 10) ∷ []) in cond (ltb n 10) (digit n ∷ []) more

-- a number n has at most n + 1 digits
unfoldable pub decimal : ℕ → List ℕ
decimal n = decimal_digits (suc n) n

-- two digits a byte
unfoldable pub pairs : List ℕ → List ℕ
pairs [] = []
pairs (b ∷ bs) = digit (b / 16) ∷ digit (b % 16) ∷ pairs bs

-- "-" where there is no byte
unfoldable pub hex : List ℕ → List ℕ
hex [] = ascii "-"
hex (b ∷ bs) = pairs (b ∷ bs)

-- ---- the line

unfoldable pub text_line : List ℕ → List ℕ
text_line text = ascii "text " ++ decimal (length text) ++ ascii " " ++ hex text ++ ascii "\n"

unfoldable pub refused_line : ℕ → ℕ → List ℕ
refused_line number given = ascii "refused " ++ decimal number ++ ascii " " ++ decimal given ++ ascii "\n"

-- of what was read
unfoldable pub line_of : Result (List ℕ) Refusal → List ℕ
line_of (Ok text) = text_line text
line_of (Err r) = refused_line (number_of r) (given_of r)

-- the longest line is "text 32 ", 64 digits and the end
abbrev pub room_of_line : ℕ
room_of_line = 73
