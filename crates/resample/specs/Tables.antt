-- What is kept while a picture is resampled: the taps of an axis, as tables, and rows that are used again. Definitions only.
use Rattle.std.specs.Prelude.{◌≡◌, List, ℕ, suc, ◌+◌, ◌*◌, ◌≤◌, ◌<◌, length, get_or, take, drop, Float}
use Rattle.std.specs.Float.{nan, binary32}
use Rattle.std.specs.Float.Ieee.{add, mul}
use Rattle.seq.specs.Lists.{tab}
use Rattle.resample_window.specs.declared.Tap.{Tap}
use Rattle.resample_window.specs.Window.{start, tap_sources, tap_weights, all_taps}

-- how many values an axis has, and how many output samples
pub record Axis : Type 0 where
  pub src : ℕ
  pub dst : ℕ

-- the first places hold the taps of all dst output samples, from src samples
pub record Tables (src dst : ℕ) (offsets index : List ℕ) (weight : List Float) : Type 0 where
  pub some : 0 < src
  pub starts : take (dst + 1) offsets ≡ tab (start src dst) (dst + 1)
  pub from : take (start src dst dst) index ≡ tap_sources (all_taps src dst dst)
  pub with : take (start src dst dst) weight ≡ tap_weights (all_taps src dst dst)
  pub bounds : dst < length offsets
  pub index_room : start src dst dst ≤ length index
  pub weight_room : start src dst dst ≤ length weight

-- what is read behind the last tap
abbrev pub no_tap : Tap
no_tap = record { from = 0; weight = nan }

-- place x of a sum of rows with w times another row added
abbrev pub added_at : List Float → Float → List Float → ℕ → Float
added_at sum w row x = add binary32 (get_or sum x nan) (mul binary32 w (get_or row x nan))

-- `held` has, for each of the places, 0 or one more than the number of the row that stands there, n values from the place's first on
pub record KeptRows (row : ℕ → List Float) (n stride places : ℕ) (held : List ℕ) (rows : List Float) : Type 0 where
  pub is : (s k : ℕ) → s < places → get_or held s 0 ≡ suc k → take n (drop (s * stride) rows) ≡ row k
  pub held_room : length held ≡ places
  pub rows_room : length rows ≡ places * stride
  pub fits : n ≤ stride
