-- After k turns the first k places hold their products.
use Rattle.std.proofs.Common.{◌≡◌, ◌∙◌, ℕ, List, Float, sym, ap, arith, length}
use Rattle.std.proofs.lemmas.List.{length-replicate}
use Rattle.std.specs.Float.{binary32}
use Rattle.std.specs.Float.Ieee.{of_bits}
use Rattle.seq.specs.Lists.{tab, filled}
use Rattle.seq.specs.Tab.{filled_none, filled_more, filled-all}
use Rattle.resample_four.specs.Four.{share_at}
use Rattle.resample_four.proofs.shares.products.Goals as goal

full : (d s : List Float) → length d ≡ 768 → s ≡ filled share_at 768 d → s ≡ tab share_at 768
full d s n e = e ∙ (ap (λ (k : ℕ). filled share_at k d) (sym n) ∙ (filled-all share_at d ∙ ap (tab share_at) n))

pub loop-k-init : goal.loop-k-init
loop-k-init c = filled_none _ _

pub loop-k-preserved : goal.loop-k-preserved
unfolding share_at
loop-k-preserved c =
    let at = c.loop-k in
    rw (at.invariant, c.from.ensures) (filled_more share_at at.k _ (omega arith))

pub returns : goal.returns
returns c =
    let e : c.loop-k.k ≡ 768 = omega arith in
    full _ _ (length-replicate 768 (of_bits binary32 0)) (rw e at c.loop-k.invariant)
