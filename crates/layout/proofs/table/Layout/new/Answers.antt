-- The constant is the layout, by its entries.
use Rattle.std.proofs.Common.{refl}
use Rattle.layout.specs.Layout.{layout}
use Rattle.layout.proofs.table.Layout.new.Goals as goal

pub invariant_of-result : goal.invariant_of-result
unfolding layout
invariant_of-result c = record { of_places = refl }
