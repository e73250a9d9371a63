-- Crate `resample_down`: its public function's promise determines its outcome.
use Rattle.determined.specs.One.{one}
use Rattle.determined.specs.Determined.{Determined}
use Rattle.resample_down.specs.contracts as resample_down
use Rattle.resample_down.proofs as proved

pub plane-one : Determined resample_down.plane.ended proved.plane.Reads.Post
plane-one κs a x y p q i = (tt, (tt, (tt, (one p q i, tt))))
