-- After t steps the metric is the definition's after the first 2 t votes, and the first t decisions are its.
use Rattle.std.proofs.Common.{◌≡◌, refl, sym, ap, ◌∙◌, ◌+◌, ◌*◌, ◌<◌, length, take, arith, length-set, take_all}
use Rattle.std.specs.Float.Ieee.{nan, div, neg, of_bits}
use Rattle.decoder.specs.Decoder.{floats, metrics_after, starting}
use Rattle.decoder.specs.Decisions.{decision_rows}
use Rattle.decoder.specs.Loops.{metric-step, rows_step}
use Rattle.decoder.proofs.forward.Goals as goal

pub loop-t-init : goal.loop-t-init
unfolding metrics_after starting decision_rows div neg of_bits
loop-t-init c = (refl, refl, refl)

pub loop-t-preserved : goal.loop-t-preserved
loop-t-preserved c =
    let l = c.loop-t in
    let soft = c.args.soft.now in
    let L : 2 * l.t + 1 < length soft = omega arith in (
      length-set l.decisions l.t c.advance-s.result.odd ∙ l.invariant.0,
      metric-step floats (starting floats) soft nan l.t l.metric c.advance-s.result.metric L l.invariant.1 c.advance-s.ensures.0,
      rows_step floats (starting floats) soft nan l.t l.metric l.decisions c.advance-s.result.odd L (omega arith) l.invariant.1
          c.advance-s.ensures.1 l.invariant.2,
    )

pub returns : goal.returns
returns c =
    let l = c.loop-t in
    let soft = c.args.soft.now in
    let whole : take (2 * l.t) soft ≡ soft = take_all (2 * l.t) soft (omega arith) in (
      l.invariant.1 ∙ ap (metrics_after floats (starting floats)) whole,
      sym (take_all l.t l.decisions (omega arith)) ∙ l.invariant.2 ∙ ap (decision_rows floats (starting floats)) whole,
    )
