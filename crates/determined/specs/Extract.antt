-- Crate `extract`: each public function's promise determines its outcome.
use Rattle.determined.specs.One.{one}
use Rattle.determined.specs.Determined.{Determined}
use Rattle.extract.specs.contracts as extract
use Rattle.extract.proofs as proved

pub text-of-one : Determined extract.text_of.ended proved.text_of.Reads.Post
text-of-one κs a x y p q i = (one p q i, x.1)

pub read-votes-one : Determined extract.read_votes.ended proved.read_votes.Reads.Post
read-votes-one κs a x y p q i = (one p q i, x.1)

pub record-of-one : Determined extract.record_of.ended proved.record_of.Reads.Post
record-of-one κs a x y p q i = (one p q i, x.1)
