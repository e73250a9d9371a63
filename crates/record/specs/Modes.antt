-- The mode that a byte says. Definitions only.
use Rattle.std.specs.Prelude.{ℕ, cond, eqb, Result, Ok, Err}
use Rattle.refusal.specs.declared.Refusal.{Refusal}
use Rattle.refusal.specs.declared.Refusal.TheVariants.{UnsupportedVersion}
use Rattle.record.specs.declared.Mode.{Mode}
use Rattle.record.specs.declared.Mode.TheVariants.{Plain, Keyed}
use Rattle.record.specs.Record.{short}

unfoldable pub mode_of : ℕ → Result Mode Refusal
mode_of byte =
    cond (eqb byte short.plain) (Ok Plain)
    (cond (eqb byte short.keyed) (Ok Keyed)
    (Err (UnsupportedVersion byte)))
