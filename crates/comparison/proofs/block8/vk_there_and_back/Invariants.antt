-- The blocks passed are done (`there_and_back`).
use Rattle.std.proofs.Common.{◌≡◌}
use Rattle.comparison.specs.Blocks.{there_and_back}
use Rattle.comparison.proofs.block8.vk_there_and_back.Given as goal

abbrev pub invariant-loop-b : goal.invariant-loop-b
invariant-loop-b l = l.plane ≡ there_and_back l.b l.initial.plane
