-- A number that is not negative is one of `usize`, and the rest is below the first.
use Rattle.std.proofs.Common.{w64}
use Rattle.std.proofs.lemmas.Int.{to_z-of_z}
use Rattle.resample_window.specs.Signed.{clamp-min, clamp-negative}
use Rattle.resample_window.proofs.clamp.Goals as goal

pub returns-in-Ok : goal.returns-in-Ok
returns-in-Ok c =
    let h = rw (to_z-of_z w64 c.args.j c.ranges.j) at c.in-Ok.ensures in
    rw (c.min.ensures, h.1) (clamp-min c.args.j c.args.src h.0)

pub returns-in-Err : goal.returns-in-Err
returns-in-Err c = clamp-negative c.args.j c.args.src c.ranges.j (rw (to_z-of_z w64 c.args.j c.ranges.j) at c.in-Err.ensures)
