-- The places passed are in the sums (`gather`).
use Rattle.std.proofs.Common.{◌≡◌, refl, arith, length-set}
use Rattle.std.specs.Float.Ieee.{of_bits}
use Rattle.encoder.specs.Ccsds131.{coded_bits}
use Rattle.layout.specs.Layout.{block_of}
use Rattle.picture.specs.Sizes.{block_count}
use Rattle.layout.specs.Places.{gather, gathered}
use Rattle.layout.specs.Loops.{gather-more}
use Rattle.layout.proofs.gather.Goals as goal

pub loop-j-init : goal.loop-j-init
unfolding gather of_bits
loop-j-init c = (refl, refl)

pub loop-j-preserved : goal.loop-j-preserved
loop-j-preserved c =
    let l = c.loop-j in (
      simp length-set l.invariant.0,
      rw c.block-b.ensures.0 (gather-more coded_bits l.j block_count block_of c.args.votes.now l.soft c.loop-j-test.true l.invariant.1),
    )

pub returns : goal.returns
unfolding gathered
returns c =
    let l = c.loop-j in
    let e : l.j ≡ block_count = omega arith in
    rw e at l.invariant.1
