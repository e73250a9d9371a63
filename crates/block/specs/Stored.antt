-- A store of block b changes the 64 places of that block and no other, so the block loads as it was stored and every other as before.
use Rattle.std.specs.Prelude.{◌≡◌, ◌⊎◌, Bool, true, false, not, List, ℕ, ◌+◌, ◌-◌, ◌*◌, ◌/◌, ◌%◌, ◌≤◌, ◌<◌, T, ltb, leb, length, get_or, Float}
use Rattle.std.proofs.Math.Path.{refl, sym}
use Rattle.std.proofs.Common.{◌∙◌, inl, inr, arith, ltb→lt, nltb→le, leb→le}
use Rattle.std.proofs.Math.Dec.{nleb→lt}
use Rattle.std.specs.Float.Ieee.{nan}
use Rattle.seq.specs.Tab.{length-tab, get_or-tab}
use Rattle.seq.specs.Lines.{length-pasted, pasted_at, pasted-other}
use Rattle.dct.specs.Columns.{grid-same, columns-all}
use Rattle.dct.specs.Grid.{cell, block_line}
use Rattle.block.specs.Plane.{line_at, load_of, stored_of}
use Rattle.picture.specs.Sizes.{block_count, plane_size}

pub line-fits : (b r : ℕ) → b < block_count → r < 8 → line_at b r + 8 ≤ plane_size
line-fits b r h k = omega arith

wide : (x : List Float) (r : ℕ) → length (block_line (cell x) r) ≡ 8
wide x r = length-tab (cell x r) 8

-- ---- the places of one block, and of two, are apart

lines-rise : (b r s : ℕ) → r < s → line_at b r + 8 ≤ line_at b s
lines-rise b r s h = omega arith

-- a place lies in one block
apart : (y x r c v w s k : ℕ) → x < 32 → w < 32 → r < 8 → s < 8 → c < 8 → k < 8 → (y * 8 + r) * 256 + x * 8 + c ≡ (v * 8 + s) * 256 + w * 8 + k
    → (y ≡ v) × (x ≡ w)
apart y x r c v w s k X W R S C K h = (omega arith, omega arith)

place-once : (b e r s c k : ℕ) → r < 8 → s < 8 → c < 8 → k < 8 → line_at b r + c ≡ line_at e s + k → b ≡ e
place-once b e r s c k R S C K h =
    let p = apart (b / 32) (b % 32) r c (e / 32) (e % 32) s k (omega arith) (omega arith) R S C K h in
    let l = p.0 in
    let t = p.1 in
    omega arith

outside : (q a : ℕ) → ((c : ℕ) → c < 8 → q ≡ a + c → ⊥) → (q < a) ⊎ (a + 8 ≤ q)
outside q a n = go (ltb q a) (leb (a + 8) q) (ltb→lt q a) (nltb→le q a) (leb→le (a + 8) q) (nleb→lt (a + 8) q)
  where
    go : (s t : Bool) → (T s → q < a) → (T (not s) → a ≤ q) → (T t → a + 8 ≤ q) → (T (not t) → q < a + 8) → (q < a) ⊎ (a + 8 ≤ q)
    go true t f g h k = inl (f tt)
    go false true f g h k = inr (h tt)
    go false false f g h k =
        let l : a ≤ q = g tt in
        let m : q < a + 8 = k tt in
        absurd (n (q - a) (omega arith) (omega arith))

module _ (d x : List Float) (b : ℕ) (B : b < block_count) (long : plane_size ≤ length d) where
  room : (r : ℕ) → r < 8 → line_at b r + 8 ≤ length d
  room r h = omega (arith, line-fits b r B h)

  pub length-stored : length (stored_of d b x) ≡ length d
  unfolding stored_of
  length-stored = length-pasted 8 (line_at b) (block_line (cell x)) (wide x) d 8 room

  -- the block's places hold x
  pub stored_at : (r c : ℕ) (z : Float) → r < 8 → c < 8 → get_or (stored_of d b x) (line_at b r + c) z ≡ cell x r c
  unfolding stored_of
  stored_at r c z R C = pasted_at 8 (line_at b) (block_line (cell x)) (wide x) d 8 room (λ r s h k. lines-rise b r s h) r c z R C ∙ get_or-tab (cell x r) 8 c z C

  -- every other place holds what it held
  pub stored_other : (q : ℕ) (z : Float) → ((r : ℕ) → r < 8 → (q < line_at b r) ⊎ (line_at b r + 8 ≤ q)) → get_or (stored_of d b x) q z ≡ get_or d q z
  unfolding stored_of
  stored_other q z out = pasted-other 8 (line_at b) (block_line (cell x)) (wide x) d 8 room q z out

  -- so the block loads as it was stored
  pub load_stored : length x ≡ 64 → load_of (stored_of d b x) b ≡ x
  unfolding load_of
  load_stored l = grid-same _ _ (λ r c R C. stored_at r c nan R C) ∙ sym (columns-all (cell x) 8 x refl (l, λ r c R C. refl))

  -- and any other block as before
  pub load-other : (e : ℕ) → (e ≡ b → ⊥) → load_of (stored_of d b x) e ≡ load_of d e
  unfolding load_of
  load-other e n =
      grid-same _ _ (λ s k S K. stored_other (line_at e s + k) nan
      (λ r R. outside (line_at e s + k) (line_at b r) (λ c C h. n (place-once e b s r k c S R K C h))))
