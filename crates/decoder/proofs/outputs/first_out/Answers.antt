-- Entry k of the table is the definition's first output of register 2 k.
use Rattle.decoder.specs.Tables.{outs1, table1}
use borrow.Author.Rules.{rules}
use Rattle.decoder.proofs.outputs.first_out.Goals as goal

pub returns : goal.returns
unfolding outs1
returns c = table1 c.args.k (search rules)
