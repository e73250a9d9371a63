-- The places passed are in the sums (`gather`).
use Rattle.std.proofs.Common.{◌≡◌, length}
use Rattle.std.specs.Float.Ieee.{nan}
use Rattle.encoder.specs.Ccsds131.{coded_bits}
use Rattle.layout.specs.Layout.{block_of}
use Rattle.picture.specs.Sizes.{block_count}
use Rattle.layout.specs.Places.{gather_f, through}
use Rattle.layout.proofs.gather.Given as goal

abbrev pub invariant-loop-j : goal.invariant-loop-j
invariant-loop-j l = (length l.soft ≡ coded_bits) × (l.soft ≡ gather_f coded_bits l.j (through block_of block_count nan l.votes))
