-- What the laws say of a float: that it is bounded, that a format holds a fraction, and that it denotes a fraction exactly. Definitions only.
use Rattle.std.specs.Prelude.{◌≡◌, Bool, false, cond, ℕ, ◌*◌, ◌≤◌, ℤ, pos, neg_ℤ, Float}
use Rattle.std.specs.Float.{nan, inf, fin, Format}
use Rattle.std.specs.Float.Ieee.{up, down, round}
use Rattle.std.specs.Float.Ieee.Exact.{HasValue}

-- x is finite and at most a / c in size
abbrev pub Within : Float → ℕ → ℕ → Type 0
Within nan a c = ⊥
Within (inf s) a c = ⊥
Within (fin s m e) a c = m * up e * c ≤ a * down e

-- the format f holds the fraction a / c
abbrev pub Holds : Format → ℕ → ℕ → Type 0
Holds f a c = HasValue (round f false a c) false a c

abbrev pub signed : Bool → ℕ → ℤ
signed s a = cond s (neg_ℤ (pos a)) (pos a)

-- the float x is finite and denotes z / c, either zero standing for 0
pub record Is (c : ℕ) (x : Float) (z : ℤ) : Type 0 where
  pub sign : Bool
  pub size : ℕ
  pub value : HasValue x sign size c
  pub whole : signed sign size ≡ z
