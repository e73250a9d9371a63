-- Crate `record_inside`: each public function's promise determines its outcome.
use Rattle.determined.specs.One.{one}
use Rattle.determined.specs.Determined.{Determined}
use Rattle.record_inside.specs.contracts as inside
use Rattle.record_inside.proofs as proved

pub sound-one : Determined inside.sound.ended proved.sound.Reads.Post
sound-one κs a x y p q i = (one p q i, x.1)

pub inside_one : Determined inside.inside.ended proved.inside.Reads.Post
inside_one κs a x y p q i = (one p q i, x.1)
