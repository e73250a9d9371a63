-- Crate `resample_four`: each public function's promise determines its outcome.
use Rattle.determined.specs.One.{one}
use Rattle.determined.specs.Determined.{Determined}
use Rattle.resample_four.specs.contracts as resample_four
use Rattle.resample_four.proofs as proved

pub shares-one : Determined resample_four.shares.Shares.new.ended proved.shares.Shares.new.Reads.Post
shares-one κs a x y p q i = (one p q i, x.1)

pub luma_one : Determined resample_four.shares.Shares.luma.ended proved.shares.Shares.luma.Reads.Post
luma_one κs a x y p q i = (one p q i, x.1)

pub narrow-four-one : Determined resample_four.Narrower.narrow_four.ended proved.Narrower.narrow_four.Reads.Post
narrow-four-one κs a x y p q i = (tt, (tt, (tt, (one p.0 q.0 i, (one p.1 q.1 i, tt)))))
