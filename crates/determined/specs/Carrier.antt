-- Crate `carrier`: each public function's promise determines its outcome.
use Rattle.determined.specs.One.{one}
use Rattle.determined.specs.Determined.{Determined}
use Rattle.carrier.specs.contracts as carrier
use Rattle.carrier.proofs as proved

pub mark-one : Determined carrier.mark.ended proved.mark.Reads.Post
mark-one κs a x y p q i = (tt, (one p.0 q.0 i, (tt, (tt, (one p.1 q.1 i, tt)))))

pub votes-one : Determined carrier.votes.ended proved.votes.Reads.Post
votes-one κs a x y p q i = (one p.0 q.0 i, (tt, (tt, (one p.1 q.1 i, tt))))
