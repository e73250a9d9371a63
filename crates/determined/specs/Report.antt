-- Crate `report`: each public function's promise determines its outcome. Not here, since it hands out a slice of a line, and
-- no promise says where that stands: `Line::as_slice`.
use Rattle.determined.specs.One.{one}
use Rattle.determined.specs.Determined.{Determined}
use Rattle.report.specs.contracts as report
use Rattle.report.proofs as proved

pub read-bytes-one : Determined report.read_bytes.ended proved.read_bytes.Reads.Post
read-bytes-one κs a x y p q i = (one p q i, x.1)

pub say-one : Determined report.say.ended proved.say.Reads.Post
say-one κs a x y p q i = (one p q i, x.1)
