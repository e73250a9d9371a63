-- By whether the tent is above zero, as the definition is.
use Rattle.std.proofs.Common.{◌≡◌, refl, ap, ◌∙◌, w64}
use Rattle.std.specs.Float.Ieee.{of_bits}
use Rattle.std.proofs.lemmas.Int.{to_z-of_z}
use Rattle.resample_window.specs.Window.{tent_of, weight_of}
use Rattle.resample_window.proofs.Window.weight.Goals as goal

pub returns-then-tent : goal.returns-then-tent
unfolding weight_of of_bits
returns-then-tent c =
    let e : c.tent-tent.result ≡ tent_of c.args.self c.args.j = c.tent-tent.ensures ∙ ap (tent_of c.args.self) (to_z-of_z w64 c.args.j c.ranges.j) in
    rw (← e, c.if-tent.true, c.narrow_f64.ensures, c.narrow_f64-then-tent.ensures) refl

pub returns-else-tent : goal.returns-else-tent
unfolding weight_of of_bits
returns-else-tent c =
    let e : c.tent-tent.result ≡ tent_of c.args.self c.args.j = c.tent-tent.ensures ∙ ap (tent_of c.args.self) (to_z-of_z w64 c.args.j c.ranges.j) in
    rw (← e, c.if-tent.false) refl
