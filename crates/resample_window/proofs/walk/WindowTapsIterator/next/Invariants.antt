-- The taps that are left are those that were left, since the numbers passed over have no weight.
use Rattle.std.proofs.Common.{◌≡◌, ◌<◌, ◌^◌, FitsSigned, w64}
use Rattle.std.specs.Int.Signed.{mag}
use Rattle.resample_window.specs.Window.{numbers, taps_of}
use Rattle.resample_window.proofs.walk.WindowTapsIterator.next.Given as goal

abbrev pub invariant-loop-self : goal.invariant-loop-self
invariant-loop-self l =
    FitsSigned w64 l.self-inside.left.first × (mag l.self-inside.left.last < 2 ^ 30) × (0 < l.self-inside.src) × (taps_of l.self-inside.left l.self-inside.src ≡ l.fn.self)

abbrev pub decreases-loop-self : goal.decreases-loop-self
decreases-loop-self l = numbers l.self-inside.left.first l.self-inside.left.last
