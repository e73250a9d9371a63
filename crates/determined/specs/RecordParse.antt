-- Crate `record_parse`: each public function's promise determines its outcome.
use Rattle.determined.specs.One.{one}
use Rattle.determined.specs.Determined.{Determined}
use Rattle.record_parse.specs.contracts as parse
use Rattle.record_parse.proofs as proved

pub parse-record-one : Determined parse.parse_record.ended proved.parse_record.Reads.Post
parse-record-one κs a x y p q i = (one p q i, x.1)
