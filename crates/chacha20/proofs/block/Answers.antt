-- The state of block 0 with the counter in word 12 is the counter's own (`block-counted`).
use Rattle.chacha20.specs.Blocks.{block-counted}
use Rattle.chacha20.proofs.block.Goals as goal

pub returns : goal.returns
returns c = rw (c.block_from.ensures, c.first_state-first.ensures) (block-counted _ _ _)
