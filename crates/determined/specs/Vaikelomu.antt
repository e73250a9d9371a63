-- Crate `vaikelomu`: each public function's promise determines its outcome.
use Rattle.determined.specs.One.{one}
use Rattle.determined.specs.Determined.{Determined}
use Rattle.vaikelomu.specs.contracts as vaikelomu
use Rattle.vaikelomu.proofs as proved

pub vaikelomu-write-one : Determined vaikelomu.vaikelomu_write.ended proved.vaikelomu_write.Reads.Post
vaikelomu-write-one κs a x y p q i = (
  one p.0 q.0 i,
  (
    one p.1.0
        q.1.0 i,
    (tt, (tt, (tt, (tt, (tt, (tt, (tt, (one p.1.1.0 q.1.1.0 i, (one p.1.1.1 q.1.1.1 i, tt))))))))),
  ),
)

pub vaikelomu-read-one : Determined vaikelomu.vaikelomu_read.ended proved.vaikelomu_read.Reads.Post
vaikelomu-read-one κs a x y p q i = (
  one p.0 q.0 i,
  (
    tt,
    (
      tt,
      (
        tt,
        (
          tt,
          (
            tt,
            (
              tt,
              (
                one p.1.0 q.1.0 i,
                (one p.1.1.0 q.1.1.0 i, (one p.1.1.1.0 q.1.1.1.0 i, (one p.1.1.1.1 q.1.1.1.1 i, tt))),
              ),
            ),
          ),
        ),
      ),
    ),
  ),
)

pub vaikelomu-read-votes-one : Determined vaikelomu.vaikelomu_read_votes.ended proved.vaikelomu_read_votes.Reads.Post
vaikelomu-read-votes-one κs a x y p q i =
    (one p.0 q.0 i, (tt, (tt, (tt, (one p.1.0 q.1.0 i, (one p.1.1.0 q.1.1.0 i, (one p.1.1.1 q.1.1.1 i, tt)))))))

pub vaikelomu-record-one : Determined vaikelomu.vaikelomu_record.ended proved.vaikelomu_record.Reads.Post
vaikelomu-record-one κs a x y p q i = (one p.0 q.0 i, (tt, (one p.1.0 q.1.0 i, (one p.1.1 q.1.1 i, tt))))

pub vaikelomu-version-one : Determined vaikelomu.vaikelomu_version.ended proved.vaikelomu_version.Reads.Post
vaikelomu-version-one κs a x y p q i = (one p q i, x.1)
