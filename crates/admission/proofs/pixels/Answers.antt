-- Two sides of at most 8,192.
use mathlib.Core.Path.{refl}
use native.Mathlib.Omega.{arith}
use Rattle.admission.specs.Admitted.{pixels-most}
use Rattle.admission.proofs.pixels.Goals as goal

pub overflow_mul-result : goal.overflow_mul-result
overflow_mul-result c = record { fits = omega (arith, pixels-most c.args.p c.requires) }

pub returns : goal.returns
returns c = (refl, pixels-most c.args.p c.requires)
