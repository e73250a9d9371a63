-- One item more.
use Rattle.std.proofs.Common.{◌+◌, ◌<◌, ◌∙◌, ap, rules, arith, add-one, length, slice_set}
use lib.Seq.{paste-suc}
use Rattle.seq.proofs.copy.Goals as goal

pub loop-i-preserved : goal.loop-i-preserved
loop-i-preserved g c =
    let start = c.args in
    let i = c.loop-i.i in
    let item = c.index-from-i.result in
    let room : start.at + i < length start.to.now = omega arith in
    let more : i < length start.from.now = omega arith in (
      ap (λ v. slice_set c.loop-i.to (start.at + i) v) c.index-from-i.is
          ∙ rw (c.loop-i.invariant.0, add-one) (paste-suc start.to.now start.at start.from.now i item room more),
      search rules,
    )
