-- The product of two polynomials, and the quotient that the long division finds. Definitions only.
use Rattle.std.specs.Prelude.{Bool, false, ℕ, zero, suc}
use mathlib.Core.List.{List, [], ◌∷◌, tail}
use Rattle.crc32.specs.Ieee8023.{◌⊕◌, scaled, leading_bit}

-- the product: each coefficient of q times g, at its own place
unfoldable pub times : List Bool → List Bool → List Bool
times [] g = []
times (c ∷ q) g = scaled c g ⊕ (false ∷ times q g)

-- the quotient's n coefficients, as the long division finds them
unfoldable pub quotient : ℕ → List Bool → List Bool → List Bool
quotient zero g p = []
quotient (suc n) g p = leading_bit p ∷ quotient n g (tail (p ⊕ scaled (leading_bit p) g))
