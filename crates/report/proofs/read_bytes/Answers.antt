-- The definition's test is the code's, and behind it each call is a part of the definition.
use borrow.Author.Tests.{eq-eqb, ne_eqb}
use lib.ListN.{length}
use Rattle.report.specs.Input.{bytes_reading}
use Rattle.report.proofs.read_bytes.Goals as goal

pub returns-then-bytes-ne-BYTES : goal.returns-then-bytes-ne-BYTES
unfolding bytes_reading
returns-then-bytes-ne-BYTES c = rw (ne_eqb (length c.args.bytes.now) 4096 c.if-bytes-ne-BYTES.true)

pub returns : goal.returns
unfolding bytes_reading
returns c = rw (c.read_votes.ensures, c.votes_in.ensures, eq-eqb (length c.args.bytes.now) 4096 c.if-bytes-ne-BYTES.false)
