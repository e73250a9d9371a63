-- The four terms put in their places.
use Rattle.seq.specs.Lists.{sum_to}
use Rattle.block.specs.Soft.{mean_of_four, vote_of}
use Rattle.block.proofs.block_vote.Goals as goal

pub returns : goal.returns
unfolding vote_of mean_of_four sum_to
returns c =
    rw (
      c.mean.ensures,
      c.vote_term-4.ensures,
      c.vote_term-3.ensures,
      c.vote_term-2.ensures,
      c.vote_term.ensures,
    )
