-- Crate `block`: each public function's promise determines its outcome.
use Rattle.determined.specs.One.{one}
use Rattle.determined.specs.Determined.{Determined}
use Rattle.block.specs.contracts as block
use Rattle.block.proofs as proved

pub mark-block-one : Determined block.mark_block.ended proved.mark_block.Reads.Post
mark-block-one κs a x y p q i = (tt, (one p q i, (tt, (tt, tt))))

pub block-vote-one : Determined block.block_vote.ended proved.block_vote.Reads.Post
block-vote-one κs a x y p q i = (one p q i, x.1)

pub load-block-one : Determined block.load_block.ended proved.load_block.Reads.Post
load-block-one κs a x y p q i = (one p q i, x.1)

pub store-block-one : Determined block.store_block.ended proved.store_block.Reads.Post
store-block-one κs a x y p q i = (tt, (one p q i, (tt, (tt, tt))))
