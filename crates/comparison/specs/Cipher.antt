-- The position after a request for keystream: the next one, or the one asked for where the keystream ends too early. Definitions only.
use Rattle.std.specs.Prelude.{ℕ, Result, Ok, Err}
use Rattle.keystream.specs.declared.KeystreamEnd.{KeystreamEnd}

abbrev pub next_of : ℕ → Result ℕ KeystreamEnd → ℕ
next_of _ (Ok p) = p
next_of p (Err _) = p
