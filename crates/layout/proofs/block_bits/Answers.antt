-- The blocks of the places passed have their bits (`scattered`).
use Rattle.std.proofs.Common.{◌≡◌, refl, ◌∙◌, ℕ, ◌%◌, arith, get_or, length-set}
use Rattle.encoder.specs.Ccsds131.{coded_bits}
use Rattle.picture.specs.Sizes.{block_count}
use Rattle.layout.specs.Loops.{scatter-none, scatter-more, laid-all}
use Rattle.layout.proofs.block_bits.Goals as goal

pub loop-j-init : goal.loop-j-init
loop-j-init c = (refl, scatter-none (λ (i : ℕ). get_or c.args.coded.now (i % coded_bits) 0))

pub loop-j-preserved : goal.loop-j-preserved
loop-j-preserved c =
    let l = c.loop-j in (
      simp length-set l.invariant.0,
      rw (l.invariant.1, c.block.ensures.0) (scatter-more (λ (i : ℕ). get_or c.args.coded.now (i % coded_bits) 0) l.j c.loop-j-test.true),
    )

pub returns : goal.returns
returns c =
    let l = c.loop-j in
    let e : l.j ≡ block_count = omega arith in
    (rw e at l.invariant.1) ∙ laid-all coded_bits c.args.coded.now
