-- Crate `encoder`: each public function's promise determines its outcome.
use Rattle.determined.specs.One.{one}
use Rattle.determined.specs.Determined.{Determined}
use Rattle.encoder.specs.contracts as encoder
use Rattle.encoder.proofs as proved

pub encode_one : Determined encoder.encode.ended proved.encode.Reads.Post
encode_one κs a x y p q i = (one p q i, x.1)
