-- Crate `record_build`: each public function's promise determines its outcome.
use Rattle.determined.specs.One.{one}
use Rattle.determined.specs.Determined.{Determined}
use Rattle.record_build.specs.contracts as build
use Rattle.record_build.proofs as proved

pub build-record-one : Determined build.build_record.ended proved.build_record.Reads.Post
build-record-one κs a x y p q i = (one p q i, x.1)
