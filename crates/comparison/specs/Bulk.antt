-- A stage done at each place of a list, for the benchmarks. Definitions only.
use Rattle.std.specs.Prelude.{cond, List, ℕ, eqb, Float, length, get_or}
use Rattle.std.specs.Float.{nan}
use Rattle.float.specs.Calls.{rounded_byte}
use Rattle.seq.specs.Lists.{tab}

abbrev pub rounded_at : List Float → ℕ → ℕ
rounded_at from i = rounded_byte (get_or from i nan)

-- the rounded bytes of `from`, where `to` has room for exactly these
unfoldable pub rounded_into : List Float → List ℕ → List ℕ
unfolding tab rounded_byte
rounded_into from to = cond (eqb (length from) (length to)) (tab (rounded_at from) (length to)) to
