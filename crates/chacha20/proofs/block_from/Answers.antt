-- The definition's steps, one call for the rounds and one for the rest.
use Rattle.chacha20.specs.Rfc8439.{block_from}
use Rattle.chacha20.proofs.block_from.Goals as goal

pub returns : goal.returns
unfolding block_from
returns c = rw (c.sum_bytes.ensures, c.ten_times.ensures)
