-- Crate `crc32`: each public function's promise determines its outcome.
use Rattle.determined.specs.One.{one}
use Rattle.determined.specs.Determined.{Determined}
use Rattle.crc32.specs.contracts as crc32
use Rattle.crc32.proofs as proved

pub crc32-one : Determined crc32.crc32.ended proved.crc32.Reads.Post
crc32-one κs a x y p q i = (one p q i, x.1)
