-- The taps fit by `room-up`, and no row is kept at first.
use Rattle.std.proofs.Common.{arith}
use Rattle.resample.specs.Taps.{room-up}
use Rattle.resample_up.proofs.change_samples.Goals as goal

pub new-requires : goal.new-requires
new-requires c =
    let s = c.requires.0 in
    (omega arith, (omega arith, omega arith, s.width_most, omega (arith, s.width_most), room-up c.args.picture.width c.requires.1 s.width_most))
