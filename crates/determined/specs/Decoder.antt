-- Crate `decoder`: each public function's promise determines its outcome. Not here, since their module is private: `first_out`, `second_out`.
use Rattle.determined.specs.One.{one}
use Rattle.determined.specs.Determined.{Determined}
use Rattle.decoder.specs.contracts as decoder
use Rattle.decoder.proofs as proved

pub viterbi-one : Determined decoder.viterbi.ended proved.viterbi.Reads.Post
viterbi-one κs a x y p q i = (one p q i, x.1)

pub decode-one : Determined decoder.decode.ended proved.decode.Reads.Post
decode-one κs a x y p q i = (record { bytes = one p.0 q.0 i; metric = one p.1 q.1 i }, x.1)
