-- Crate `dither`: each public function's promise determines its outcome.
use Rattle.determined.specs.One.{one}
use Rattle.determined.specs.Determined.{Determined}
use Rattle.dither.specs.contracts as dither
use Rattle.dither.proofs as proved

pub dither-one : Determined dither.dither.ended proved.dither.Reads.Post
dither-one κs a x y p q i = (one p q i, x.1)
