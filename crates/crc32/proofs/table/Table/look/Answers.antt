-- Place 16 k + i of the table is below 256, and holds what 4 (k + 1) turns make of i.
use Rattle.std.proofs.Common.{◌∙◌}
use Rattle.crc32.specs.Table.{table_at}
use Rattle.crc32.proofs.table.Table.look.Goals as goal

pub returns : goal.returns
returns c = c.from.ensures ∙ rw c.args.self.now.of_turns (table_at c.args.k c.args.y c.requires)
