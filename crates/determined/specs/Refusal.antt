-- Crate `refusal`: each public function's promise determines its outcome.
use denote.RattleType.{RattleType}
use denote.Param.Laws.{Laws}
use Rattle.determined.specs.One.{one}
use Rattle.determined.specs.Determined.{Determined}
use Rattle.refusal.specs.contracts as refusal
use Rattle.refusal.proofs as proved

pub number-one : Determined refusal.Refusal.number.ended proved.Refusal.number.Reads.Post
number-one κs a x y p q i = (one p q i, x.1)

pub given-one : Determined refusal.Refusal.given.ended proved.Refusal.given.Reads.Post
given-one κs a x y p q i = (one p q i, x.1)

pub code_one : (T : RattleType) (L : Laws T) → Determined (refusal.code.ended T) (proved.code.Reads.Post T L)
code_one T L κs a x y p q i = (one p q i, x.1)

pub given-for-one : (T : RattleType) (L : Laws T) → Determined (refusal.given_for.ended T) (proved.given_for.Reads.Post T L)
given-for-one T L κs a x y p q i = (one p q i, x.1)

pub first_one : Determined refusal.first.ended proved.first.Reads.Post
first_one κs a x y p q i = (one p q i, x.1)
