-- Crate `layout`: each public function's promise determines its outcome.
use Rattle.determined.specs.One.{one}
use Rattle.determined.specs.Determined.{Determined}
use Rattle.layout.specs.contracts as layout
use Rattle.layout.proofs as proved

pub block-bits-one : Determined layout.block_bits.ended proved.block_bits.Reads.Post
block-bits-one κs a x y p q i = (one p q i, x.1)

pub gather-one : Determined layout.gather.ended proved.gather.Reads.Post
gather-one κs a x y p q i = (one p q i, x.1)
