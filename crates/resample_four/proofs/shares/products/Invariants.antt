-- After k turns the first k places hold their products.
use Rattle.std.proofs.Common.{◌≡◌}
use Rattle.seq.specs.Lists.{filled}
use Rattle.resample_four.specs.Four.{share_at}
use Rattle.resample_four.proofs.shares.products.Given as goal

abbrev pub invariant-loop-k : goal.invariant-loop-k
invariant-loop-k l = l.product-items ≡ filled share_at l.k l.initial.product-items
