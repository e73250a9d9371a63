-- Three products looked up, and added in the order of the definition.
use Rattle.std.proofs.Common.{◌+◌, refl, arith}
use Rattle.seq.specs.Lists.{tab}
use Rattle.resample_four.specs.Four.{share_at}
use Rattle.resample_four.specs.Laws.{luma-looked}
use Rattle.resample_four.proofs.shares.Shares.luma.Goals as goal

pub returns : goal.returns
returns c =
    let p = c.args.p in
    let known = c.type_inv.row in
    rw (c.share.ensures, c.share-2.ensures, c.share-3.ensures)
    (luma-looked (tab share_at 768) refl c.args.row.now p (omega (arith, known p)) (omega (arith, known (p + 1))) (omega (arith, known (p + 2))))
