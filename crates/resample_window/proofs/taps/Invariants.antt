-- After i output samples their taps stand one behind the other, with the places where each one's start.
use Rattle.std.proofs.Common.{◌≡◌, ◌-◌, ◌≤◌, length}
use Rattle.seq.specs.Lists.{filled}
use Rattle.resample_window.specs.Window.{start, tap_sources, tap_weights, all_taps, onto}
use Rattle.resample_window.proofs.taps.Given as goal

abbrev pub invariant-loop-i : goal.invariant-loop-i
invariant-loop-i l =
    (l.i ≤ l.dst) × (l.n ≡ start l.src l.dst l.i) × (l.offsets ≡ filled (start l.src l.dst) l.i l.initial.offsets) × (l.index ≡ onto (tap_sources (all_taps l.src l.dst l.i)) l.initial.index)
    × (l.weight ≡ onto (tap_weights (all_taps l.src l.dst l.i)) l.initial.weight)
    × (length l.offsets ≡ length l.initial.offsets) × (length l.index ≡ length l.initial.index) × (length l.weight ≡ length l.initial.weight)

abbrev pub decreases-loop-i : goal.decreases-loop-i
decreases-loop-i l = l.dst - l.i
