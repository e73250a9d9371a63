-- Rows before columns, computed: the sums round, so the other order gives another value.
use Rattle.std.specs.Prelude.{◌≡◌, refl, List, [], ◌∷◌, get_or, Float}
use Rattle.std.specs.Float.{nan, binary32}
use Rattle.std.specs.Float.Ieee.{of_bits, of_int, to_signed, add, sub, mul, div, lt}
use Rattle.float.specs.Calls.{floor, ceil, narrow, absolute, larger}
use Rattle.resample_window.specs.Window.{window_of, numbers, scale_of, center_of, support_of, tent_of, weight_of, tent_sum, clamp_of, taps_to, taps}
use Rattle.resample.specs.Resampled.{tap_total, across, resampled}

abbrev picture : List (List Float)
picture = (of_bits binary32 0x4273_fbe7 ∷ of_bits binary32 0x4253_b127 ∷ []) ∷ (of_bits binary32 0x4290_b74c ∷ of_bits binary32 0x4281_2b02 ∷ []) ∷ []

-- 2 x 2 values brought to one; with columns first it is 0x427adc6b
pub rows-first :
    resampled 2 2 1 1 (λ y x. get_or (get_or picture y []) x nan) 0 0
    ≡ of_bits binary32 0x427a_dc6a
unfolding resampled across tap_total window_of numbers scale_of center_of support_of tent_of weight_of tent_sum clamp_of taps_to taps of_bits of_int to_signed add sub
    mul div lt floor ceil narrow absolute larger
rows-first = refl
