-- One step of the definition for each call; the number comes back as it was, since it fits 64 bits.
use Rattle.std.proofs.Common.{w64}
use Rattle.std.proofs.lemmas.Int.{to_z-of_z}
use Rattle.std.specs.Float.Ieee.{of_bits}
use Rattle.resample_window.specs.Window.{tent_of}
use Rattle.resample_window.proofs.Window.tent.Goals as goal

pub returns : goal.returns
unfolding tent_of of_bits
returns c = simp (
  c.abs_f64.ensures,
  c.nearest_i64_to_f64.ensures,
  to_z-of_z w64 c.args.j
      c.ranges.j,
)
