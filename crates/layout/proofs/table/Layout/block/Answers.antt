-- The table is the layout, whose entries are block numbers.
use Rattle.std.proofs.Common.{◌≡◌, ◌<◌, sym, ap, ◌∙◌, subst, ℕ, List, get_or}
use Rattle.layout.specs.Layout.{block_of}
use Rattle.picture.specs.Sizes.{block_count}
use Rattle.layout.specs.Permutation.{layout-undo}
use Rattle.layout.proofs.table.Layout.block.Goals as goal

pub returns : goal.returns
returns c =
    let j = c.args.j in
    let e : c.from.result ≡ block_of j = c.from.ensures ∙ ap (λ (l : List ℕ). get_or l j 0) c.args.self.now.of_places in
    (e, subst (λ (b : ℕ). b < block_count) (sym e) (layout-undo.lo j c.requires))
