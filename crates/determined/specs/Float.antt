-- Crate `float`: each public function's promise determines its outcome.
use Rattle.determined.specs.One.{one}
use Rattle.determined.specs.Determined.{Determined}
use Rattle.float.specs.contracts as float
use Rattle.float.proofs as proved

pub round-f32-one : Determined float.round_f32.ended proved.round_f32.Reads.Post
round-f32-one κs a x y p q i = (one p q i, x.1)

pub round-to-u8-one : Determined float.round_to_u8.ended proved.round_to_u8.Reads.Post
round-to-u8-one κs a x y p q i = (one p q i, x.1)

pub floor-f32-one : Determined float.floor_f32.ended proved.floor_f32.Reads.Post
floor-f32-one κs a x y p q i = (one p q i, x.1)

pub floor-f64-to-i64-one : Determined float.floor_f64_to_i64.ended proved.floor_f64_to_i64.Reads.Post
floor-f64-to-i64-one κs a x y p q i = (one p q i, x.1)

pub ceil-f64-to-i64-one : Determined float.ceil_f64_to_i64.ended proved.ceil_f64_to_i64.Reads.Post
ceil-f64-to-i64-one κs a x y p q i = (one p q i, x.1)

pub min-f32-one : Determined float.min_f32.ended proved.min_f32.Reads.Post
min-f32-one κs a x y p q i = (one p q i, x.1)

pub max-f64-one : Determined float.max_f64.ended proved.max_f64.Reads.Post
max-f64-one κs a x y p q i = (one p q i, x.1)

pub abs-f64-one : Determined float.abs_f64.ended proved.abs_f64.Reads.Post
abs-f64-one κs a x y p q i = (one p q i, x.1)

pub in-unit-one : Determined float.in_unit.ended proved.in_unit.Reads.Post
in-unit-one κs a x y p q i = (one p q i, x.1)

pub f32-from-bits-one : Determined float.f32_from_bits.ended proved.f32_from_bits.Reads.Post
f32-from-bits-one κs a x y p q i = (one p q i, x.1)

pub narrow-f64-one : Determined float.narrow_f64.ended proved.narrow_f64.Reads.Post
narrow-f64-one κs a x y p q i = (one p q i, x.1)
