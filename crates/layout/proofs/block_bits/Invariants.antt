-- The blocks of the places passed have their bits (`scattered`).
use Rattle.std.proofs.Common.{◌≡◌, ℕ, ◌%◌, length, get_or}
use Rattle.encoder.specs.Ccsds131.{coded_bits}
use Rattle.picture.specs.Sizes.{block_count}
use Rattle.layout.specs.Loops.{scattered}
use Rattle.layout.proofs.block_bits.Given as goal

abbrev pub invariant-loop-j : goal.invariant-loop-j
invariant-loop-j l = (length l.bits ≡ block_count) × (l.bits ≡ scattered (λ (i : ℕ). get_or l.coded (i % coded_bits) 0) l.j)
