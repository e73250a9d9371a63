-- After r turns the first r lines stand in their places.
use Rattle.std.proofs.Common.{◌≡◌, refl, ◌∙◌, ap, ap₂, ℕ, ◌+◌, ◌≤◌, List, length, arith, rules}
use Rattle.std.proofs.Math.Seq.{paste, length-paste}
use Rattle.std.specs.Float.Ieee.{Float}
use Rattle.seq.specs.Made.{array_made}
use Rattle.seq.specs.Tab.{length-tab}
use Rattle.seq.specs.Lines.{pasted-none, pasted-more}
use Rattle.dct.specs.Grid.{cell, block_line}
use Rattle.block.specs.Plane.{stored_of}
use Rattle.block.specs.Stored.{line-fits}
use Rattle.block.proofs.store_block.Goals as goal

pub loop-r-init : goal.loop-r-init
loop-r-init c = (search rules, refl, pasted-none _ _ _ _)

pub loop-r-preserved : goal.loop-r-preserved
loop-r-preserved c =
    let l = c.loop-r in
    let at = c.line_at-at.result in
    let x = c.args.values.now in
    let eight : length (block_line (cell x) l.r-counter) ≡ 8 = length-tab _ 8 in
    let room : at + 8 ≤ length l.plane = rw c.line_at-at.ensures (omega (arith, line-fits c.args.b l.r-counter c.requires.0 c.loop-r-test.true)) in
    let its_line = array_made _ (λ k. cell x l.r-counter k) _ (λ i y d k. search rules) _ 8 c.from_fn-line.ensures.items in
    let e = c.copy.ensures ∙ ap₂ (λ (xs : List Float) (n : ℕ). paste l.plane at xs n) its_line (ap length its_line ∙ eight) in (
      search rules,
      ap length e ∙ (length-paste l.plane at (block_line (cell x) l.r-counter) 8 room (omega (arith, eight)) ∙ l.invariant.1),
      e ∙ rw (c.line_at-at.ensures, l.invariant.2) (pasted-more _ _ _ _ _),
    )

pub returns : goal.returns
unfolding stored_of
returns c = let e : c.loop-r.r-counter ≡ 8 = omega arith in rw e at c.loop-r.invariant.2
