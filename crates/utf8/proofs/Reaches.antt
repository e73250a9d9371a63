-- What follows a byte, from the place in the table of the form that it starts: it lies in that form's first range and in none before.
use mathlib.Core.Path.{◌≡◌, refl}
use mathlib.Core.List.{List, [], ◌∷◌}
use Prim.Native.Nat.{ℕ, zero, suc}
use Rattle.utf8.specs.Forms.{Range, Form, never, following}
use Rattle.utf8.specs.Strings.{In, lies, misses}

-- form k is the first that b starts, or there is none below the table's length k
abbrev pub First : List Form → ℕ → ℕ → Type 0
First [] k b = Unit
First (f ∷ fs) zero b = In f.lead b
First (f ∷ fs) (suc k) b = (In f.lead b → ⊥) × First fs k b

abbrev pub rest_at : List Form → ℕ → List Range
rest_at [] k = never ∷ []
rest_at (f ∷ fs) zero = f.rest
rest_at (f ∷ fs) (suc k) = rest_at fs k

pub reaches : (fs : List Form) (k b : ℕ) → First fs k b → rest_at fs k ≡ following fs b
unfolding following
reaches [] k b h = refl
reaches (f ∷ fs) zero b h = rw (lies f.lead b h)
reaches (f ∷ fs) (suc k) b h = rw (misses f.lead b h.0) (reaches fs k b h.1)
