-- A path's metric: minus infinity, or a multiple of 1 / 2 ^ l. Definitions only.
use Rattle.std.specs.Prelude.{◌≡◌, Bool, true, false, ℕ, ◌≤◌, ℤ, nat_abs, ◌+ℤ◌, Float}
use Rattle.std.specs.Int.Signed.{lt_z}
use Rattle.std.specs.Float.{inf}
use Rattle.float_laws.specs.Values.{Is}

pub data Score : Type 0 where
  out : Score
  at : ℤ → Score

abbrev pub Scored : ℕ → Float → Score → Type 0
Scored c x out = x ≡ inf true
Scored c x (at z) = Is c x z

abbrev pub plus : Score → ℤ → Score
plus out w = out
plus (at z) w = at (z +ℤ w)

abbrev pub lt_s : Score → Score → Bool
lt_s out out = false
lt_s out (at z) = true
lt_s (at z) out = false
lt_s (at z) (at w) = lt_z z w

abbrev pub Bounded : ℕ → Score → Type 0
Bounded b out = Unit
Bounded b (at z) = nat_abs z ≤ b
