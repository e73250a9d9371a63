-- The sample sheet's line on a written sample, computed: 254 with a change of 1.5 gives 255, and a fourth channel stays.
use Rattle.std.specs.Prelude.{◌≡◌, refl, [], ◌∷◌}
use Rattle.std.specs.Float.Ieee.{of_bits, of_int, round, add, to_unsigned}
use Rattle.seq.specs.Lists.{tab}
use Rattle.float.specs.Calls.{round_away, rounded_byte}
use Rattle.resample.specs.Samples.{changed_at, changed_row}
use Rattle.resample_up.specs.Change.{sheet_change}

pub written : changed_row 4 sheet_change (254 ∷ 0 ∷ 100 ∷ 7 ∷ []) ≡ 255 ∷ 2 ∷ 102 ∷ 7 ∷ []
unfolding changed_row changed_at tab rounded_byte round_away to_unsigned add of_int of_bits round
written = refl
