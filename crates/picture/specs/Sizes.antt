-- A picture: its sides and channels, its rows, and the plane of 256 x 256 values in 1,024 blocks that it is brought to (sections
-- 3, 13 and 17 of the scope). Definitions only.
use Rattle.std.specs.Prelude.{◌≡◌, List, ℕ, ◌*◌, ◌≤◌, ◌<◌, length, take, drop}

-- sides are 1 to 8,192
abbrev pub longest_side : ℕ
longest_side = 8192

-- the shorter side that writing needs
abbrev pub shortest_to_write : ℕ
shortest_to_write = 512

-- values of the plane
abbrev pub plane_size : ℕ
plane_size = 65536

-- its blocks, each of which carries a bit
abbrev pub block_count : ℕ
block_count = 1024

-- the sides and channels that a picture may have, and as many samples
pub record Sized (width height channels : ℕ) (samples : List ℕ) : Type 0 where
  pub wide : 0 < width
  pub width_most : width ≤ longest_side
  pub high : 0 < height
  pub height_most : height ≤ longest_side
  pub three : 3 ≤ channels
  pub four : channels ≤ 4
  pub full : length samples ≡ width * channels * height

-- row y of rows of n values
unfoldable pub row_of : {A : Type 0} → ℕ → List A → ℕ → List A
row_of n d y = take n (drop (y * n) d)
