-- A block in one list, and one that is made column by column.
use Rattle.std.specs.Prelude.{◌≡◌, List, length, get_or, set, Float, ◌⊎◌}
use Rattle.std.proofs.Common.{◌∙◌, sym, ap, ap₂, eq-or-lt_of_le, div-add-mod', get_or-set_same, ext_get_or}
use Rattle.std.proofs.Math.Path.{refl}
use Prim.Native.Nat.{ℕ, ◌+◌, ◌*◌, ◌<◌, zero, suc, ◌/◌, ◌%◌, ◌≤◌}
use Rattle.std.proofs.Math.ListN.{length-set}
use Rattle.std.specs.Float.Ieee.{nan}
use Rattle.seq.specs.Tab.{tab-same, length-tab, get_or-tab}
use Rattle.seq.specs.Lists.{tab}
use Rattle.seq.specs.Lines.{lines_same, length-lines, get_or-lines}
use Rattle.std.proofs.Math.Logic.{inl, inr}
use Rattle.std.proofs.Math.Numerals.{add-one}
use native.Mathlib.Omega.{arith}
use Rattle.std.proofs.Math.Arith.{digits_div, digits_mod}
use Rattle.std.proofs.Math.Seq.{get_or-set_other}
use Rattle.dct.specs.Grid.{grid, cell, block_line, column}

pub length-grid : (g : ℕ → ℕ → Float) → length (grid g) ≡ 64
unfolding grid
length-grid g = length-lines 8 (block_line g) (λ r. length-tab (g r) 8) 8

pub cell-grid : (g : ℕ → ℕ → Float) (r c : ℕ) → r < 8 → c < 8 → cell (grid g) r c ≡ g r c
unfolding grid
cell-grid g r c h k = get_or-lines 8 (block_line g) (λ r. length-tab (g r) 8) 8 r c nan h k ∙ get_or-tab (g r) 8 c nan k

pub grid-same : (f g : ℕ → ℕ → Float) → ((r c : ℕ) → r < 8 → c < 8 → f r c ≡ g r c) → grid f ≡ grid g
unfolding grid
grid-same f g h = lines_same (block_line f) (block_line g) 8 (λ r k. tab-same (f r) (g r) 8 (λ c l. h r c k l))

-- ---- column by column

module _ (f : ℕ → Float) (c : ℕ) (p : List Float) where
  pub column-none : p ≡ column f c 0 p
  unfolding column
  column-none = refl

  pub column-more : (n : ℕ) → set (column f c n p) (n * 8 + c) (f n) ≡ column f c (n + 1) p
  unfolding column
  column-more n = rw add-one refl

  pub length-column : (n : ℕ) → length (column f c n p) ≡ length p
  unfolding column
  length-column zero = refl
  length-column (suc n) = length-set (column f c n p) (n * 8 + c) (f n) ∙ length-column n

  cell-column : (n r : ℕ) → r < n → n * 8 + c ≤ length p + 7 → cell (column f c n p) r c ≡ f r
  unfolding column
  cell-column zero r h k = absurd (omega arith)
  cell-column (suc n) r h k =
      elim (eq-or-lt_of_le h) [
        | inl e ↦ (let i : r ≡ n = omega arith in rw i (get_or-set_same (column f c n p) (n * 8 + c) (f n) nan (omega (arith, length-column n))))
        | inr l ↦ get_or-set_other (column f c n p) (n * 8 + c) (r * 8 + c) (f n) nan (λ e. omega arith) ∙ cell-column n r (omega arith) (omega arith)
      ]

  cell-beside : (n r k : ℕ) → k < c → c < 8 → cell (column f c n p) r k ≡ cell p r k
  unfolding column
  cell-beside zero r k h l = refl
  cell-beside (suc n) r k h l = get_or-set_other (column f c n p) (n * 8 + c) (r * 8 + k) (f n) nan (λ e. omega arith) ∙ cell-beside n r k h l

-- the first c columns of p are those of g
abbrev pub FirstColumns : (ℕ → ℕ → Float) → ℕ → List Float → Type 0
FirstColumns g c p = (length p ≡ 64) × ((r k : ℕ) → r < 8 → k < c → cell p r k ≡ g r k)

pub columns-more : (g : ℕ → ℕ → Float) (c : ℕ) (p q : List Float) → c < 8 → FirstColumns g c p → q ≡ column (λ r. g r c) c 8 p → FirstColumns g (c + 1) q
columns-more g c p q h b e = (
  ap length e ∙ (length-column (λ r. g r c) c p 8 ∙ b.0),
  λ r k R K. ap (λ (x : List Float). cell x r k) e ∙ go r k R (eq-or-lt_of_le K),
)
  where
    go : (r k : ℕ) → r < 8 → (suc k ≡ c + 1) ⊎ (suc k < c + 1) → cell (column (λ r. g r c) c 8 p) r k ≡ g r k
    go r k R (inl i) = let j : k ≡ c = omega arith in rw j (cell-column (λ r. g r c) c p 8 r R (omega (arith, b.0)))
    go r k R (inr l) = cell-beside (λ r. g r c) c p 8 r k (omega arith) h ∙ b.1 r k R (omega arith)

pub columns-all : (g : ℕ → ℕ → Float) (c : ℕ) (p : List Float) → c ≡ 8 → FirstColumns g c p → p ≡ grid g
columns-all g c p e b =
    ext_get_or nan p (grid g) (b.0 ∙ sym (length-grid g))
    (λ i h.
    let d : i / 8 * 8 + i % 8 ≡ i = div-add-mod' i 8 in
    let R : i / 8 < 8 = omega (arith, b.0) in
    let K : i % 8 < 8 = omega arith in
    ap (λ (n : ℕ). get_or p n nan) (sym d)
    ∙ (b.1 (i / 8) (i % 8) R (omega arith) ∙ (sym (cell-grid g (i / 8) (i % 8) R K) ∙ ap (λ (n : ℕ). get_or (grid g) n nan) d)))

-- ---- the same, as a table of the places

pub table-grid : (g : ℕ → ℕ → Float) → tab (λ p. g (p / 8) (p % 8)) 64 ≡ grid g
table-grid g = columns-all g 8 (tab at 64) refl
    (length-tab at 64, λ r c R C. get_or-tab at 64 (r * 8 + c) nan (omega arith) ∙ ap₂ g (digits_div r C) (digits_mod r C))
  where
    at : ℕ → Float
    at p = g (p / 8) (p % 8)
