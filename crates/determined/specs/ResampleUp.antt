-- Crate `resample_up`: its public function's promise determines its outcome.
use Rattle.determined.specs.One.{one}
use Rattle.determined.specs.Determined.{Determined}
use Rattle.resample_up.specs.contracts as resample_up
use Rattle.resample_up.proofs as proved

pub change-samples-one : Determined resample_up.change_samples.ended proved.change_samples.Reads.Post
change-samples-one κs a x y p q i = (tt, (tt, (tt, (one p q i, tt))))
