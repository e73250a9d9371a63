-- The code's type by what it stands for. Definitions only.
use Rattle.std.specs.Prelude.{List, [], ◌∷◌, ℕ, zero, suc, replicate, Option, Some, None}
use Rattle.utf8.specs.Forms.{Range, ◌‥◌, never}
use Rattle.utf8.specs.declared.Due.{Due}

unfoldable pub due : ℕ → ℕ → ℕ → List Range
due zero low high = []
due (suc n) low high = (low ‥ high) ∷ replicate n (0x80 ‥ 0xBF)

abbrev pub due_of : Due → List Range
due_of d = due d.left d.low d.high

-- what follows a first byte; where it starts no character, a byte that there isn't
abbrev pub expected : Option Due → List Range
expected (Some d) = due_of d
expected None = never ∷ []
