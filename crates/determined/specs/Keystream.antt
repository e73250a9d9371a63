-- Crate `keystream`: each public function's promise determines its outcome.
use Rattle.determined.specs.One.{one}
use Rattle.determined.specs.Determined.{Determined}
use Rattle.keystream.specs.contracts as keystream
use Rattle.keystream.proofs as proved

pub apply-one : Determined keystream.apply.ended proved.apply.Reads.Post
apply-one κs a x y p q i = (one p.0 q.0 i, (tt, (tt, (tt, (one p.1 q.1 i, tt)))))

pub applied-number-one : Determined keystream.number.ended proved.number.Reads.Post
applied-number-one κs a x y p q i = (one p q i, x.1)
