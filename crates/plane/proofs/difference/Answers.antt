-- Place p of the differences is line p / 8, column p % 8.
use Rattle.std.proofs.Common.{◌≡◌, ℕ, List, sym, ap, ◌∙◌, get_or, rules}
use Rattle.std.proofs.Math.Nat.{div-add-mod'}
use Rattle.std.specs.Float.Ieee.{Float, nan, binary32, sub}
use Rattle.seq.specs.Made.{array_made}
use Rattle.seq.specs.Tab.{tab-same}
use Rattle.seq.specs.Lists.{tab}
use Rattle.dct.specs.Grid.{grid, cell}
use Rattle.dct.specs.Columns.{table-grid}
use Rattle.plane.proofs.difference.Goals as goal

abbrev less : List Float → List Float → ℕ → Float
less x y p = sub binary32 (get_or x p nan) (get_or y p nan)

as-grid : (x y : List Float) → tab (less x y) 64 ≡ grid (λ r c. sub binary32 (cell x r c) (cell y r c))
as-grid x y = tab-same _ _ 64 (λ p P. ap (less x y) (sym (div-add-mod' p 8))) ∙ table-grid (λ r c. sub binary32 (cell x r c) (cell y r c))

pub returns : goal.returns
returns c =
    let x = c.args.x.now in
    let y = c.args.y.now in
    array_made _ (less x y) _ (λ i z d k. search rules) _ 64 c.from_fn.ensures.items ∙ as-grid x y
