-- The table is computed and compared entry by entry.
use Rattle.std.proofs.Common.{refl}
use Rattle.seq.specs.Lists.{tab}
use Rattle.crc32.specs.Shift.{register_turn, register_turns, table, table_entry}
use Rattle.crc32.proofs.table.Table.new.Goals as goal

pub invariant_of-result : goal.invariant_of-result
unfolding table tab table_entry register_turns register_turn
invariant_of-result c = record { of_turns = refl }
