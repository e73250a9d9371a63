-- The places passed hold the rounded bytes (`filled`).
use Rattle.std.proofs.Common.{◌≡◌}
use Rattle.seq.specs.Lists.{filled}
use Rattle.comparison.specs.Bulk.{rounded_at}
use Rattle.comparison.proofs.float32.vk_round_all_to_u8.Given as goal

abbrev pub invariant-loop-i : goal.invariant-loop-i
invariant-loop-i l = l.to ≡ filled (rounded_at l.from) l.i l.initial.to
