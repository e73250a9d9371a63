-- Crate `resilient`: each public function's promise determines its outcome.
use Rattle.determined.specs.One.{one}
use Rattle.determined.specs.Determined.{Determined}
use Rattle.resilient.specs.contracts as resilient
use Rattle.resilient.proofs as proved

pub write-one : Determined resilient.write.ended proved.write.Reads.Post
write-one κs a x y p q i = (one p.0 q.0 i, (one p.1.0 q.1.0 i, (tt, (tt, (tt, (one p.1.1 q.1.1 i, tt))))))

pub read_one : Determined resilient.read.ended proved.read.Reads.Post
read_one κs a x y p q i = (one p.0 q.0 i, (tt, (tt, (tt, (one p.1 q.1 i, tt)))))
