-- A line of the sample sheet on the kernel: the numbers of a window and its taps. Definitions only.
use Rattle.std.specs.Prelude.{◌≡◌, List, ℕ, ℤ}
use Rattle.std.specs.Float.{binary32}
use Rattle.std.specs.Float.Ieee.{of_bits}
use Rattle.resample_window.specs.declared.Tap.{Tap}
use Rattle.resample_window.specs.Window.{window_of, taps}

abbrev pub tap : ℕ → ℕ → Tap
tap k b = record { from = k; weight = of_bits binary32 b }

-- the numbers run from a to b, and these are the taps, in rising order
pub record Line (src dst i : ℕ) (a b : ℤ) (ts : List Tap) : Type 0 where
  pub first : (window_of src dst i).first ≡ a
  pub last : (window_of src dst i).last ≡ b
  pub all : taps src dst i ≡ ts
