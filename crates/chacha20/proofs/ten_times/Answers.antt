-- After n turns the state is that of n inner blocks.
use Rattle.std.proofs.Common.{add-one, rules}
use Rattle.chacha20.specs.Rfc8439.{rounds}
use Rattle.chacha20.proofs.ten_times.Goals as goal

pub loop-init : goal.loop-init
unfolding rounds
loop-init c = search rules

pub loop-preserved : goal.loop-preserved
unfolding rounds
loop-preserved c = rw add-one (cc)
