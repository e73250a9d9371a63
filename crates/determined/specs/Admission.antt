-- Crate `admission`: each public function's promise determines its outcome.
use Rattle.determined.specs.One.{one}
use Rattle.determined.specs.Determined.{Determined}
use Rattle.admission.specs.contracts as admission
use Rattle.admission.proofs as proved

pub may-write-one : Determined admission.may_write.ended proved.may_write.Reads.Post
may-write-one κs a x y p q i = (one p q i, x.1)

pub may-read-one : Determined admission.may_read.ended proved.may_read.Reads.Post
may-read-one κs a x y p q i = (one p q i, x.1)
