-- The taps fit by `room-down`, and no row is kept at first.
use Rattle.std.proofs.Common.{arith}
use Rattle.resample.specs.Taps.{room-down}
use Rattle.resample_down.proofs.plane.Goals as goal

pub new-requires-2 : goal.new-requires-2
new-requires-2 c =
    let s = c.requires.0 in
    (omega arith, (s.wide, s.width_most, omega arith, omega arith, room-down c.args.picture.width s.width_most))
