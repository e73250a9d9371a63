-- The plane block by block: it is made of its blocks, and what it holds after the first of them became their changes. The
-- dither numbers of a block among those of four.
use Rattle.std.specs.Prelude.{◌≡◌, ◌⊎◌, length, get_or, Float}
use Rattle.std.proofs.Math.Path.{refl, ap}
use Rattle.std.proofs.Common.{sym, ◌∙◌, inl, inr, le_refl, eq-or-lt_of_le, arith, ext_get_or}
use mathlib.Core.List.{List}
use Prim.Native.Nat.{ℕ, zero, suc, ◌+◌, ◌*◌, ◌/◌, ◌%◌, ◌≤◌, ◌<◌}
use Rattle.std.proofs.Math.Numerals.{add-one}
use Rattle.std.proofs.Math.Arith.{digits_div, digits_mod}
use Rattle.std.specs.Float.{nan}
use Rattle.seq.specs.Tab.{tab-same, length-tab, get_or-tab}
use Rattle.seq.specs.Lists.{tab}
use Rattle.dither.specs.Dither.{dither_of}
use Rattle.dct.specs.Grid.{cell}
use Rattle.dct.specs.Columns.{cell-grid, length-grid}
use Rattle.block.specs.Plane.{line_at, load_of, stored_of}
use Rattle.block.specs.Stored.{length-stored, load_stored, load-other}
use Rattle.plane.specs.Plane.{dither_four, block_change, plane_of_blocks, change_of, changed_block, changed_first, dither_group}
use Rattle.picture.specs.Sizes.{block_count, plane_size}

-- ---- the plane is made of its blocks

-- the block that place p lies in
abbrev pub block_at : ℕ → ℕ
block_at p = p / 2048 * 32 + p % 256 / 8

pub block_at-below : (p : ℕ) → p < plane_size → block_at p < block_count
block_at-below p h = omega arith

-- and its line and column there
place_is : (p : ℕ) → line_at (block_at p) (p / 256 % 8) + p % 8 ≡ p
place_is p =
    let C : p % 256 / 8 < 32 = omega arith in
    let y : block_at p / 32 ≡ p / 2048 = digits_div (p / 2048) C in
    let x : block_at p % 32 ≡ p % 256 / 8 = digits_mod (p / 2048) C in
    rw (y, x) (omega arith)

pub cell-load : (d : List Float) (p : ℕ) → cell (load_of d (block_at p)) (p / 256 % 8) (p % 8) ≡ get_or d p nan
unfolding load_of
cell-load d p = cell-grid (λ r c. get_or d (line_at (block_at p) r + c) nan) (p / 256 % 8) (p % 8) (omega arith) (omega arith)
    ∙ ap (λ (n : ℕ). get_or d n nan) (place_is p)

pub length-plane : (f : ℕ → List Float) → length (plane_of_blocks f) ≡ plane_size
unfolding plane_of_blocks
length-plane f = length-tab (λ p. cell (f (block_at p)) (p / 256 % 8) (p % 8)) plane_size

pub place-of-plane : (f : ℕ → List Float) (p : ℕ) → p < plane_size → get_or (plane_of_blocks f) p nan ≡ cell (f (block_at p)) (p / 256 % 8) (p % 8)
unfolding plane_of_blocks
place-of-plane f p h = get_or-tab (λ p. cell (f (block_at p)) (p / 256 % 8) (p % 8)) plane_size p nan h

plane-is : (f : ℕ → List Float) (d : List Float) → length d ≡ plane_size → ((b : ℕ) → b < block_count → load_of d b ≡ f b) → d ≡ plane_of_blocks f
plane-is f d l h =
    ext_get_or nan d (plane_of_blocks f) (l ∙ sym (length-plane f))
    (λ p k.
    let P : p < plane_size = omega arith in
    sym (cell-load d p) ∙ (ap (λ (x : List Float). cell x (p / 256 % 8) (p % 8)) (h (block_at p) (block_at-below p P)) ∙ sym (place-of-plane f p P)))

-- ---- block by block

length-changed : (bits : List ℕ) (d : List Float) (b : ℕ) → length (changed_block bits d b) ≡ 64
unfolding block_change
length-changed bits d b = length-grid _

module _ (bits : List ℕ) (d : List Float) where
  pub changed-none : d ≡ changed_first bits 0 d
  unfolding changed_first
  changed-none = refl

  pub changed-more : (n : ℕ) → stored_of (changed_first bits n d) n (changed_block bits (changed_first bits n d) n) ≡ changed_first bits (n + 1) d
  unfolding changed_first
  changed-more n = rw add-one refl

  -- the first n blocks of e are the changes of those of d, and the others as in d
  abbrev Changed : ℕ → List Float → Type 0
  Changed n e = (length e ≡ plane_size) × ((b : ℕ) → b < n → load_of e b ≡ changed_block bits d b) × ((b : ℕ) → n ≤ b → load_of e b ≡ load_of d b)

  one_more : (n : ℕ) (e : List Float) → n < block_count → Changed n e → Changed (suc n) (stored_of e n (changed_block bits e n))
  one_more n e N p = (
    length-stored e x n N long ∙ p.0,
    λ b h. go b (eq-or-lt_of_le h),
    λ b h. load-other e x n N long b (λ q. omega arith)
        ∙ p.2 b (omega arith),
  )
    where
      x : List Float
      x = changed_block bits e n

      long : plane_size ≤ length e
      long = omega (arith, p.0)

      go : (b : ℕ) → (suc b ≡ suc n) ⊎ (suc b < suc n) → load_of (stored_of e n x) b ≡ changed_block bits d b
      go b (inl q) =
          let i : b ≡ n = omega arith in
          rw i (load_stored e x n N long (length-changed bits e n) ∙ ap (block_change (dither_four n) (get_or bits n 0)) (p.2 n (le_refl n)))
      go b (inr q) = load-other e x n N long b (λ i. omega arith) ∙ p.1 b (omega arith)

  first-changed : (n : ℕ) → n ≤ block_count → length d ≡ plane_size → Changed n (changed_first bits n d)
  unfolding changed_first
  first-changed zero h l = (l, λ b k. absurd (omega arith), λ b k. refl)
  first-changed (suc n) h l = one_more n (changed_first bits n d) h (first-changed n (omega arith) l)

  pub all_changed : length d ≡ plane_size → changed_first bits block_count d ≡ change_of bits d
  unfolding change_of
  all_changed l =
      let p = first-changed block_count (le_refl block_count) l in
      plane-is (changed_block bits d) (changed_first bits block_count d) p.0 (λ b h. p.1 b h)

-- ---- the dither

pub four-of-group : (u : List Float) (g k : ℕ) → k < 4 → u ≡ dither_group g → tab (λ i. get_or u (4 * k + i) nan) 4 ≡ dither_four (4 * g + k)
unfolding dither_four
four-of-group u g k K e =
    tab-same _ _ 4
    (λ i I.
    let n : 16 * g + (4 * k + i) ≡ 4 * (4 * g + k) + i = omega arith in
    ap (λ (v : List Float). get_or v (4 * k + i) nan) e ∙ (get_or-tab (λ k. dither_of (16 * g + k)) 16 (4 * k + i) nan (omega arith) ∙ ap dither_of n))
