-- State k takes the better of its two predecessors: two loops, for the states below 32 and the others, fill the metrics
-- and the decisions in the definition's order.
use Rattle.std.proofs.Common.{◌≡◌, refl, ◌^◌, ◌+◌, ◌*◌, ◌<◌, ℕ, List, set, arith, length-set}
use Rattle.std.specs.Float.Ieee.{Float}
use Rattle.seq.specs.Tab.{prefix-more, prefix-all}
use Rattle.seq.specs.Lists.{tab}
use Rattle.decoder.specs.Decoder.{floats, best_at, odd_at, next_metrics}
use Rattle.decoder.specs.Packed.{packed_lt, packed_more}
use Rattle.decoder.specs.Decisions.{packed}
use Rattle.decoder.specs.Trace.{odd-two}
use Rattle.decoder.proofs.advance.Invariants.{Done}
use Rattle.decoder.proofs.advance.Goals as goal

module _ (m : List Float) (s0 s1 : Float) (k : ℕ) (next : List Float) (odd : ℕ) (done : Done m s0 s1 k next odd) (K : k < 64) where
  may_put : (o : ℕ) → o ≡ odd_at floats m s0 s1 k → (k < 64) × (o < 2) × (odd < 2 ^ k)
  may_put o e = (K, rw e (odd-two floats m s0 s1 k), rw done.2 (packed_lt (odd_at floats m s0 s1) (odd-two floats m s0 s1) k))

  one_more : (b : Float) (o d : ℕ) → b ≡ best_at floats m s0 s1 k → o ≡ odd_at floats m s0 s1 k → d ≡ odd + o * 2 ^ k
      → Done m s0 s1 (k + 1) (set next k b) d
  one_more b o d e f g = (
    simp length-set done.0,
    prefix-more (best_at floats m s0 s1) k b next (omega (arith, done.0)) e done.1,
    packed_more (odd_at floats m s0 s1) k odd o d done.2 f g,
  )

pub loop-k-init : goal.loop-k-init
unfolding tab packed
loop-k-init c = (refl, refl, refl)

pub put-odd-requires : goal.put-odd-requires
put-odd-requires c = may_put _ _ _ _ _ _ c.loop-k.invariant (omega arith) _ c.winner_of-w.ensures.1

pub loop-k-preserved : goal.loop-k-preserved
loop-k-preserved c = one_more _ _ _ _ _ _ c.loop-k.invariant (omega arith) _ _ _ c.winner_of-w.ensures.0 c.winner_of-w.ensures.1 c.put-odd.ensures

pub put-odd-requires-in-loop-k-2 : goal.put-odd-requires-in-loop-k-2
put-odd-requires-in-loop-k-2 c = may_put _ _ _ _ _ _ c.loop-k-2.invariant (omega arith) _ c.winner_of-w-in-loop-k-2.ensures.1

pub loop-k-2-preserved : goal.loop-k-2-preserved
loop-k-2-preserved c =
    let w = c.winner_of-w-in-loop-k-2.ensures in
    one_more _ _ _ _ _ _ c.loop-k-2.invariant (omega arith) _ _ _ w.0 w.1 c.put-odd-in-loop-k-2.ensures

pub returns : goal.returns
unfolding next_metrics
returns c =
    let l = c.loop-k-2 in
    let e : l.k ≡ 64 = omega arith in
    (prefix-all _ _ _ l.invariant.0 (rw e at l.invariant.1), rw e at l.invariant.2)
