-- It is the definition, arm by arm.
use Rattle.std.proofs.Common.{◌≡◌, Bool, cond, sym, ap, ◌∙◌}
use lib.Ieee.{Float, of_bits, lt}
use Rattle.float.specs.Base.{zero+, natural}
use Rattle.float.specs.Calls.{clamped}
use Rattle.float.proofs.clamp_to_byte.Goals.{then-x, else-x}
use Rattle.float.proofs.clamp_to_byte.Goals as goal

chosen : (x low : Float) (t : Bool) → low ≡ cond (lt zero+ x) x zero+ → lt low (natural 255) ≡ t → cond t low (natural 255) ≡ clamped x
unfolding clamped
chosen x low t e h = ap (λ (b : Bool). cond b low (natural 255)) (sym h) ∙ ap (λ (y : Float). cond (lt y (natural 255)) y (natural 255)) e

pub returns-then-low : goal.returns-then-low
unfolding of_bits
returns-then-low c =
    let x = c.args.x in
    elim c.if-x.branch [
      | then-x w ↦ chosen x c.if-x.low _ (w.low-is ∙ sym (ap (λ (t : Bool). cond t x zero+) w.if-x.true)) c.if-low.true
      | else-x w ↦ chosen x c.if-x.low _ (w.low-is ∙ sym (ap (λ (t : Bool). cond t x zero+) w.if-x.false)) c.if-low.true
    ]

pub returns-else-low : goal.returns-else-low
unfolding of_bits
returns-else-low c =
    let x = c.args.x in
    elim c.if-x.branch [
      | then-x w ↦ chosen x c.if-x.low _ (w.low-is ∙ sym (ap (λ (t : Bool). cond t x zero+) w.if-x.true)) c.if-low.false
      | else-x w ↦ chosen x c.if-x.low _ (w.low-is ∙ sym (ap (λ (t : Bool). cond t x zero+) w.if-x.false)) c.if-low.false
    ]
