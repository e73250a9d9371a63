-- Entry k of the table is the definition's second output of register 2 k.
use Rattle.decoder.specs.Tables.{outs2, table2}
use borrow.Author.Rules.{rules}
use Rattle.decoder.proofs.outputs.second_out.Goals as goal

pub returns : goal.returns
unfolding outs2
returns c = table2 c.args.k (search rules)
