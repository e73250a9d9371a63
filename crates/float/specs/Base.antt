-- Constants by value. Definitions only.
use Rattle.std.specs.Prelude.{ℕ, true, false, pos, negsuc, Float}
use Rattle.std.specs.Float.{fin}

abbrev pub zero+ : Float
zero+ = fin false 0 (pos 0)

abbrev pub zero- : Float
zero- = fin true 0 (pos 0)

abbrev pub two_to : ℕ → Float
two_to k = fin false 1 (pos k)

abbrev pub minus_two_to : ℕ → Float
minus_two_to k = fin true 1 (pos k)

abbrev pub natural : ℕ → Float
natural k = fin false k (pos 0)

abbrev pub half : Float
half = fin false 1 (negsuc 0)
