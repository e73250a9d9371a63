-- After j turns the first j products are summed.
use Rattle.std.proofs.Common.{◌≡◌, arith}
use Rattle.std.specs.Float.Ieee.{neg, of_bits}
use Rattle.seq.specs.Sum.{sum-none, sum_more}
use Rattle.dct.specs.Dct.{dot_of}
use Rattle.dct.proofs.dot.Goals as goal

pub loop-j-init : goal.loop-j-init
unfolding neg of_bits
loop-j-init c = sum-none _ _ _

pub loop-j-preserved : goal.loop-j-preserved
loop-j-preserved c = sum_more _ _ _ _ _ c.loop-j.invariant

pub returns : goal.returns
unfolding dot_of
returns c = let e : c.loop-j.j ≡ 8 = omega arith in rw e at c.loop-j.invariant
