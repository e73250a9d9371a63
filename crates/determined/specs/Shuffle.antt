-- Crate `shuffle`: each public function's promise determines its outcome.
use Rattle.determined.specs.One.{one}
use Rattle.determined.specs.Determined.{Determined}
use Rattle.shuffle.specs.contracts as shuffle
use Rattle.shuffle.proofs as proved

pub shuffle-one : Determined shuffle.shuffle.ended proved.shuffle.Reads.Post
shuffle-one κs a x y p q i = (one p.0 q.0 i, (tt, (tt, (tt, (one p.1 q.1 i, tt)))))

pub accepted-one : Determined shuffle.accepted.ended proved.accepted.Reads.Post
accepted-one κs a x y p q i = (one p q i, x.1)
