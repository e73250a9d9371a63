-- The taps that came stand from place n on, and with those that are left they are all.
use Rattle.std.proofs.Common.{◌≡◌, ◌+◌, ◌++◌, length}
use lib.Seq.{paste}
use Rattle.resample_window.specs.Window.{taps_of, tap_sources, tap_weights}
use Rattle.resample_window.proofs.push.Given as goal

abbrev pub invariant-loop-tap : goal.invariant-loop-tap
invariant-loop-tap l =
    (l.yielded ++ l.tap-iterator ≡ taps_of l.fn.w l.src) × (l.at ≡ l.n + length l.yielded)
    × (l.index ≡ paste l.fn.index l.n (tap_sources (taps_of l.fn.w l.src)) (length l.yielded))
    × (l.weight ≡ paste l.fn.weight l.n (tap_weights (taps_of l.fn.w l.src)) (length l.yielded))
