-- The numbers kept are those of the block's group, as they were or made anew.
use Rattle.std.proofs.Common.{◌≡◌, ◌+◌, ◌*◌, ◌/◌, ◌%◌, sym, ap, ◌∙◌, arith}
use Rattle.plane.specs.Plane.{dither_four}
use Rattle.plane.specs.Blocks.{four-of-group}
use Rattle.plane.specs.declared.BlockDither.{BlockDither}
use Rattle.plane.proofs.BlockDither.of.Goals as goal
use Rattle.plane.proofs.BlockDither.of.Goals.{then-group-self, else-group-self}

pub returns : goal.returns
returns c =
    let b = c.args.b in
    let kept = c.if-group-self.self in
    let its_group : kept.group ≡ b / 4 = elim c.if-group-self.branch [
      | then-group-self w ↦ ap (λ (s : BlockDither). s.group) w.self-is
      | else-group-self w ↦ ap (λ (s : BlockDither). s.group) w.self-is ∙ sym w.if-group-self.false
    ] in
    let place : 4 * kept.group + b % 4 ≡ b = omega (arith, its_group) in
    c.four.ensures ∙ four-of-group kept.numbers kept.group (b % 4) (omega arith) kept.of_group ∙ ap dither_four place
