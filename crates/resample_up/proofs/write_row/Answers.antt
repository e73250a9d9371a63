-- After x turns the first x pixels are changed and the rest is as it was; `pixel-more` is a turn.
use Rattle.std.proofs.Common.{◌≡◌, ℕ, ◌+◌, ◌*◌, ◌≤◌, ◌<◌, sym, ◌∙◌, ap, zero-mul, arith, length, get_or}
use Rattle.std.specs.Float.{nan}
use Rattle.seq.specs.Tab.{filled_none}
use Rattle.resample.specs.Pixels.{pixel-fits}
use Rattle.resample_up.specs.Written.{pixel-more, changed-all}
use Rattle.resample_up.proofs.write_row.Goals as goal

-- in a turn the pixel ends within the row
fits : (x channels pixels n : ℕ) → x < pixels → n ≡ pixels * channels → x * channels + channels ≤ n
fits x channels pixels n h e = omega (arith, e, pixel-fits x channels pixels h)

pub loop-x-init : goal.loop-x-init
loop-x-init c = rw zero-mul (filled_none _ _)

pub loop-x-preserved : goal.loop-x-preserved
loop-x-preserved c =
    let at = c.loop-x in
    pixel-more c.args.channels (λ k. get_or c.args.delta.now k nan) c.args.row.now at.x c.requires.0 c.requires.1
    (fits at.x c.args.channels (length c.args.delta.now) _ (omega arith) c.requires.2) at.row c.changed.result
    c.changed-in-loop-x.result c.changed-in-loop-x-2.result at.invariant c.changed.ensures
    c.changed-in-loop-x.ensures c.changed-in-loop-x-2.ensures

pub returns : goal.returns
returns c =
    let i : c.loop-x.x ≡ length c.args.delta.now = omega arith in
    let e : c.loop-x.x * c.args.channels ≡ length c.args.row.now = ap (λ (k : ℕ). k * c.args.channels) i ∙ sym c.requires.2 in
    (rw e at c.loop-x.invariant) ∙ changed-all c.args.channels (λ k. get_or c.args.delta.now k nan) c.args.row.now
