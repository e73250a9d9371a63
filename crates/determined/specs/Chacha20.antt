-- Crate `chacha20`: each public function's promise determines its outcome.
use Rattle.determined.specs.One.{one}
use Rattle.determined.specs.Determined.{Determined}
use Rattle.chacha20.specs.contracts as chacha20
use Rattle.chacha20.proofs as proved

pub quarter-one : Determined chacha20.quarter.ended proved.quarter.Reads.Post
quarter-one κs a x y p q i = (one p q i, x.1)

pub first-state-one : Determined chacha20.first_state.ended proved.first_state.Reads.Post
first-state-one κs a x y p q i = (one p q i, x.1)

pub block-from-one : Determined chacha20.block_from.ended proved.block_from.Reads.Post
block-from-one κs a x y p q i = (one p q i, x.1)

pub block_one : Determined chacha20.block.ended proved.block.Reads.Post
block_one κs a x y p q i = (one p q i, x.1)
