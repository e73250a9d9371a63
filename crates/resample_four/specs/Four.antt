-- Four rows at once: their values side by side, value x of row l in place 4 x + l, and the luma of a pixel from products
-- looked up. Definitions only.
use Rattle.std.specs.Prelude.{List, [], ◌∷◌, cond, ℕ, zero, suc, ◌+◌, ◌-◌, ◌*◌, ◌/◌, ◌%◌, ltb, pos, get_or, Float}
use Rattle.std.specs.Float.{nan, binary32}
use Rattle.std.specs.Float.Ieee.{of_int, mul}
use Rattle.seq.specs.Lists.{filled, lines}
use Rattle.resample.specs.Samples.{red, green, blue, luma_at, narrow_row}
use Rattle.picture.specs.Sizes.{row_of}

-- ---- side by side

-- of four, the one of a row
unfoldable pub of_four : {A : Type 0} → A → A → A → A → ℕ → A
of_four a b c d zero = a
of_four a b c d (suc zero) = b
of_four a b c d (suc (suc zero)) = c
of_four a b c d (suc (suc (suc n))) = d

-- what stands in place k, of values given by row and number
unfoldable pub beside : {A : Type 0} → (ℕ → ℕ → A) → ℕ → A
beside f k = f (k % 4) (k / 4)

-- value x of row l
unfoldable pub lane : List Float → ℕ → ℕ → Float
lane s l x = get_or s (4 * x + l) nan

-- ---- products looked up

abbrev pub luma_weights : List Float
luma_weights = red ∷ green ∷ blue ∷ []

-- what value k mod 256 of channel k / 256 adds to the luma
unfoldable pub share_at : ℕ → Float
share_at k = mul binary32 (get_or luma_weights (k / 256) nan) (of_int binary32 (pos (k % 256)))

-- ---- four rows of samples

-- row i, or the last of them where there are no more than i
unfoldable pub capped_at : ℕ → ℕ → ℕ
capped_at i height = cond (ltb i height) i (height - 1)

-- luma x of row l, of the four from row 4 g on
abbrev pub four_at : ℕ → ℕ → ℕ → List ℕ → ℕ → ℕ → ℕ → Float
four_at width height channels samples g l = luma_at channels (row_of (width * channels) samples (capped_at (4 * g + l) height))

-- the line with the lumas of the four
unfoldable pub luma_line : ℕ → ℕ → ℕ → List ℕ → ℕ → List Float → List Float
luma_line width height channels samples g line = filled (beside (four_at width height channels samples g)) (4 * width) line

-- and the four as 256 values each
unfoldable pub narrow_four : ℕ → ℕ → ℕ → List ℕ → ℕ → List Float
narrow_four width height channels samples g = lines (λ l. narrow_row width channels samples (capped_at (4 * g + l) height)) 4
