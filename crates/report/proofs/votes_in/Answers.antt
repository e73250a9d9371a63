-- Each vote is made from its place.
use Rattle.std.proofs.Common.{rules}
use Rattle.seq.specs.Made.{array_made}
use Rattle.seq.specs.Bytes.{word}
use Rattle.report.specs.Input.{vote_from}
use Rattle.report.proofs.votes_in.Goals as goal

pub returns : goal.returns
unfolding vote_from word
returns c = array_made _ (vote_from c.args.bytes.now) _ (λ i z d k. search rules) _ 1024 c.from_fn.ensures.items
