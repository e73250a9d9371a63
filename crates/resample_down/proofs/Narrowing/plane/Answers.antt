-- After y rows they stand in the first places of the plane.
use Rattle.std.proofs.Common.{◌≡◌, ◌+◌, ◌*◌, ◌≤◌, ◌∙◌, List, refl, sym, ap, arith, length, take, take_all, Float}
use Rattle.seq.specs.Lines.{lines_more}
use Rattle.seq.specs.Lists.{lines, on_part}
use Rattle.resample.specs.Samples.{plane_row, plane_of}
use Rattle.resample.specs.Pixels.{part-pasted}
use Rattle.resample.specs.Kept.{part-size}
use Rattle.resample_down.specs.Rows.{plane-length}
use Rattle.resample_down.proofs.Narrowing.plane.Goals as goal

pub loop-y-init : goal.loop-y-init
unfolding lines
loop-y-init c = (refl, refl)

pub loop-y-preserved : goal.loop-y-preserved
unfolding on_part
loop-y-preserved c =
    let p = c.args.self.now.fours.maker.from.pixels in
    let at = c.loop-y in
    let made = c.plane_row in
    let row = plane_row p.picture.width p.picture.height p.picture.channels p.samples.now in
    let v = made.new.out in
    let is : v ≡ row at.y = rw at.invariant.0 at made.ensures.row in
    let own = plane-length p.picture.width p.picture.height p.picture.channels p.samples.now at.y in
    let long : length v ≡ 256 = ap length is ∙ own in
    let room : at.y * 256 + 256 ≤ length at.plane = omega (arith, at.auto.plane, c.requires) in
    let more : take ((at.y + 1) * 256) (on_part (at.y * 256) 256 (λ (x : List Float). v) at.plane) ≡ lines row (at.y + 1) =
    rw (part-pasted (at.y * 256) 256 v at.plane long, is) (lines_more 256 row at.y at.plane room own at.invariant.1) in
    (made.ensures.same ∙ at.invariant.0, rw (part-size (at.y * 256) 256) more)

pub returns : goal.returns
unfolding plane_of
returns c =
    let at = c.loop-y in
    let e : at.y ≡ 256 = omega arith in
    let all : take 65536 at.plane ≡ at.plane = take_all 65536 at.plane (omega (arith, at.auto.plane, c.requires)) in
    sym all ∙ (rw e at at.invariant.1)
