-- Crate `dct`: each public function's promise determines its outcome. Not here: `Transform::new`, whose outcome has private fields
-- and is determined by the type's rule; what its methods make of a block is.
use Rattle.determined.specs.One.{one}
use Rattle.determined.specs.Determined.{Determined}
use Rattle.dct.specs.contracts as dct
use Rattle.dct.proofs as proved

pub dct-matrix-one : Determined dct.dct_matrix.ended proved.dct_matrix.Reads.Post
dct-matrix-one κs a x y p q i = (one p q i, x.1)

pub dct-turned-one : Determined dct.dct_turned.ended proved.dct_turned.Reads.Post
dct-turned-one κs a x y p q i = (one p q i, x.1)

pub forward-one : Determined dct.Transform.forward.ended proved.Transform.forward.Reads.Post
forward-one κs a x y p q i = (tt, (tt, (one p q i, tt)))

pub inverse-one : Determined dct.Transform.inverse.ended proved.Transform.inverse.Reads.Post
inverse-one κs a x y p q i = (tt, (tt, (one p q i, tt)))
