-- What makes the rows that are kept. Definitions only.
use Rattle.std.specs.Prelude.{◌≡◌, List, ℕ, length, Float}

-- a row is as long as the maker says, and stays the same while the maker does
pub record RowLaws {M : Type 0} (wide : M → ℕ) (made : M → ℕ → List Float) (same : M → M → Type 0) : Type 0 where
  pub long : (m : M) (k : ℕ) → length (made m k) ≡ wide m
  pub at_rest : (m : M) → same m m
  pub wide_same : (m n : M) → same m n → wide n ≡ wide m
  pub made_same : (m n : M) (k : ℕ) → same m n → made n k ≡ made m k
