-- What the contracts say of fields. Definitions only.
use Rattle.std.specs.Prelude.{◌≡◌, ℕ, ◌<◌, ◌++◌, List, length, Option, MatchOption}
use denote.Ref.{Bor}

-- `rest` is what is left of the text behind some part of it
abbrev pub IsPartBehind : List ℕ → List ℕ → Type 0
IsPartBehind text rest = (passed : List ℕ) × (text ≡ passed ++ rest)

-- a field was found in the text, with a byte at least, and `rest` follows it; or none was left
abbrev pub IsNextField : List ℕ → Option (Bor (List ℕ)) → List ℕ → Type 0
IsNextField text found rest =
    MatchOption found (length rest ≡ 0) (λ field. (0 < length field.now) × IsPartBehind text (field.now ++ rest))
