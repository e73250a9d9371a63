-- Crate `utf8`: each public function's promise determines its outcome.
use Rattle.determined.specs.One.{one}
use Rattle.determined.specs.Determined.{Determined}
use Rattle.utf8.specs.contracts as utf8
use Rattle.utf8.proofs as proved

pub well-formed-one : Determined utf8.well_formed.ended proved.well_formed.Reads.Post
well-formed-one κs a x y p q i = (one p q i, x.1)

pub counted-one : Determined utf8.counted.ended proved.counted.Reads.Post
counted-one κs a x y p q i = (one p q i, x.1)
