-- After b turns the first b blocks are changed, one after the other.
use Rattle.std.proofs.Common.{◌≡◌, refl, ◌∙◌, ap, ap₂, List, get_or, arith, rules}
use Rattle.std.specs.Float.Ieee.{Float}
use Rattle.block.specs.Plane.{stored_of}
use Rattle.plane.specs.Plane.{block_change, changed_block}
use Rattle.plane.specs.Blocks.{changed-none, changed-more, all_changed}
use Rattle.plane.proofs.embed_bits.Goals as goal

pub loop-b-init : goal.loop-b-init
loop-b-init c = (refl, changed-none _ _)

pub loop-b-preserved : goal.loop-b-preserved
loop-b-preserved c =
    let l = c.loop-b in
    let bits = c.args.bits.now in
    let x : c.block_change-change.result ≡ changed_block bits l.plane l.b =
    c.block_change-change.ensures ∙ ap₂ (λ (v x : List Float). block_change v (get_or bits l.b 0) x) c.of.ensures c.load_block-values.ensures in (
      search rules,
      c.store_block.ensures
          ∙ (ap (stored_of l.plane l.b) x
          ∙ (ap (λ (e : List Float). stored_of e l.b (changed_block bits e l.b)) l.invariant.1
          ∙ changed-more bits c.args.plane.now l.b)),
    )

pub returns : goal.returns
returns c =
    let l = c.loop-b in
    let e : l.b ≡ 1024 = omega arith in
    (rw e at l.invariant.1) ∙ all_changed c.args.bits.now c.args.plane.now c.requires
