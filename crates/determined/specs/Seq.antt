-- Crate `seq`: each public function's promise determines its outcome.
use denote.RattleType.{RattleType}
use denote.Param.Laws.{Laws, IsCopy}
use mir.Syntax.{Dict}
use Rattle.std.specs.declared.clone.Clone.{Ghosts}
use Rattle.determined.specs.One.{one}
use Rattle.determined.specs.Determined.{Determined}
use Rattle.seq.specs.contracts as seq
use Rattle.seq.proofs as proved

pub zero-floats-one : Determined seq.zero_floats.ended proved.zero_floats.Reads.Post
zero-floats-one κs a x y p q i = (tt, (one p q i, tt))

pub copy-one : (T : RattleType) (L : Laws T) (C : IsCopy T) (G : Ghosts T.Denot) (d : Dict) → Determined (seq.copy.ended T G d) (proved.copy.Reads.Post T L C G d)
copy-one T L C G d κs a x y p q i = (tt, (tt, (one p q i, (tt, tt))))

pub little-endian-one : Determined seq.little_endian.ended proved.little_endian.Reads.Post
little-endian-one κs a x y p q i = (one p q i, x.1)

pub from-big-endian-one : Determined seq.from_big_endian.ended proved.from_big_endian.Reads.Post
from-big-endian-one κs a x y p q i = (one p q i, x.1)

pub big-endian-one : Determined seq.big_endian.ended proved.big_endian.Reads.Post
big-endian-one κs a x y p q i = (one p q i, x.1)
