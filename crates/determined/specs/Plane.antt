-- Crate `plane`: each public function's promise determines its outcome.
use Rattle.determined.specs.One.{one}
use Rattle.determined.specs.Determined.{Determined}
use Rattle.plane.specs.contracts as plane
use Rattle.plane.proofs as proved

pub embed-bits-one : Determined plane.embed_bits.ended proved.embed_bits.Reads.Post
embed-bits-one κs a x y p q i = (tt, (one p q i, (tt, tt)))

pub block-soft-one : Determined plane.block_soft.ended proved.block_soft.Reads.Post
block-soft-one κs a x y p q i = (one p q i, x.1)
