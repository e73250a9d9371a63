-- The first k places hold their entries or 0, k rising.
use Rattle.std.proofs.Common.{◌≡◌, ◌<◌, ℕ, length, get_or, ◌∙◌, arith}
use Rattle.seq.specs.Tab.{filled_none, filled_more, filled-all}
use Rattle.shuffle.specs.Shuffle.{lent_for}
use Rattle.shuffle.proofs.lay_out.Goals as goal

pub loop-k-init : goal.loop-k-init
loop-k-init c = filled_none _ _

pub loop-k-preserved : goal.loop-k-preserved
loop-k-preserved c =
    let l = c.loop-k in
    let more : l.k < length c.args.entries.now = omega arith in
    rw (l.invariant, c.entry_at.ensures) (filled_more (λ (i : ℕ). get_or c.args.found.now i 0) l.k c.args.entries.now more)

pub returns : goal.returns
unfolding lent_for
returns c =
    let l = c.loop-k in
    let k : l.k ≡ length c.args.entries.now = omega arith in
    l.invariant ∙ (rw k (filled-all (λ (i : ℕ). get_or c.args.found.now i 0) c.args.entries.now))
