-- The lines of the sample sheet that concern the kernel, computed: 512 samples made 256, and 256 made 512.
use Rattle.std.specs.Prelude.{refl, [], ◌∷◌, pos, negsuc}
use Rattle.std.specs.Float.Ieee.{of_bits, of_int, to_signed, add, sub, mul, div, lt}
use Rattle.float.specs.Calls.{floor, ceil, narrow, absolute, larger}
use Rattle.resample_window.specs.Window.{window_of, numbers, scale_of, center_of, support_of, tent_of, weight_of, tent_sum, clamp_of, taps_to, taps}
use Rattle.resample_window_laws.specs.Line.{tap, Line}

-- 512 to 256: -1 to 2, with the weights 0.125, 0.375, 0.375, 0.125; -1 reads sample 0
pub halved : Line 512 256 0 (negsuc 0) (pos 2) (tap 0 0x3e00_0000 ∷ tap 0 0x3ec0_0000 ∷ tap 1 0x3ec0_0000 ∷ tap 2 0x3e00_0000 ∷ [])
unfolding window_of numbers scale_of center_of support_of tent_of weight_of tent_sum clamp_of taps_to taps of_bits of_int to_signed add sub mul div lt floor ceil narrow
    absolute larger
halved = record { first = refl; last = refl; all = refl }

-- 256 to 512: -1 and 0, with the weights 0.25 and 0.75; both read sample 0
pub doubled : Line 256 512 0 (negsuc 0) (pos 0) (tap 0 0x3e80_0000 ∷ tap 0 0x3f40_0000 ∷ [])
unfolding window_of numbers scale_of center_of support_of tent_of weight_of tent_sum clamp_of taps_to taps of_bits of_int to_signed add sub mul div lt floor ceil narrow
    absolute larger
doubled = record { first = refl; last = refl; all = refl }
