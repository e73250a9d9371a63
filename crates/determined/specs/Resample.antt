-- Crate `resample`: each public function's promise determines its outcome. Not here, since they hand out slices, and no
-- promise says where these stand: `Taps::of`, `Pixels::row`; and `Taps::new`, which keeps what it is lent.
use Rattle.determined.specs.One.{one}
use Rattle.determined.specs.Determined.{Determined}
use Rattle.resample.specs.contracts as resample
use Rattle.resample.proofs as proved

pub of-tables-one : Determined resample.axis.Taps.of_tables.ended proved.axis.Taps.of_tables.Reads.Post
of-tables-one κs a x y p q i = (one p q i, x.1)

pub row-one : Determined resample.axis.Taps.row.ended proved.axis.Taps.row.Reads.Post
row-one κs a x y p q i = (tt, (tt, (tt, (one p q i, tt))))

pub add-row-one : Determined resample.rows.add_row.ended proved.rows.add_row.Reads.Post
add-row-one κs a x y p q i = (tt, (one p q i, (tt, (tt, tt))))
