-- The change of the sample sheet's written samples: 1.5 everywhere. Definitions only.
use Rattle.std.specs.Prelude.{ℕ, Float}
use Rattle.std.specs.Float.{binary32}
use Rattle.std.specs.Float.Ieee.{of_bits}

-- 1.5
abbrev pub sheet_change : ℕ → Float
sheet_change x = of_bits binary32 0x3fc0_0000
