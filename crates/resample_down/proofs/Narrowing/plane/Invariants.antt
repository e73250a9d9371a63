-- After y rows they stand in the first places of the plane.
use Rattle.std.proofs.Common.{◌≡◌, ◌*◌, take}
use Rattle.seq.specs.Lists.{lines}
use Rattle.resample.specs.Samples.{plane_row}
use Rattle.resample_down.proofs.Narrowing.plane.Given as goal

abbrev pub invariant-loop-y : goal.invariant-loop-y
invariant-loop-y l =
    (l.self.fours.maker.from ≡ l.fn.self.fours.maker.from)
    × (take (l.y * 256) l.plane ≡ lines (plane_row l.fn.self.fours.maker.from.pixels.picture.width l.fn.self.fours.maker.from.pixels.picture.height
    l.fn.self.fours.maker.from.pixels.picture.channels l.fn.self.fours.maker.from.pixels.samples.now) l.y)
