-- What is drawn from `from` on is what is drawn from `at` on; each turn uses eight bytes of those left.
use Rattle.std.proofs.Common.{◌≡◌, ℕ, ◌<◌, ◌≤◌, true, false, ltb, List, get_or, replicate, sym, ap, ◌∙◌, arith}
use Rattle.std.specs.Int.{from_le_bytes, w64}
use Rattle.std.proofs.lemmas.Result.{err_from_is_err_and}
use Rattle.keystream.specs.Laws.{next-granted, end_refused}
use Rattle.keystream.specs.Apply.{left_at, bytes_after}
use Rattle.shuffle.specs.Shuffle.{value_at, limit, stream_of}
use Rattle.shuffle.specs.Draws.{range-some, draws-end, draws-found, draws-again, value-drawn, le-value}
use Rattle.shuffle.proofs.draw.Goals as goal

drawn-value : (key lent : List ℕ) (p v : ℕ) → 8 ≤ left_at p → lent ≡ bytes_after key (replicate 12 0) p (replicate 8 0)
    → v ≡ from_le_bytes w64 lent → v ≡ value_at (stream_of key) p
drawn-value key lent p v h e f =
    f ∙ (le-value lent ∙ (ap (λ (l : List ℕ). value_at (λ k. get_or l k 0) 0) e ∙ value-drawn key p h))

pub returns-in_err-next : goal.returns-in_err-next
returns-in_err-next c =
    let l = c.loop-next in
    let few : left_at l.at < 8 = end_refused l.at 8 _ (sym c.in_err-next.ensures.answer) in
    let p = err_from_is_err_and c.from_residual.result c.from_residual.ensures.1 in
    rw p.1 (sym (draws-end (stream_of c.args.key.now) c.args.range l.at few) ∙ l.invariant)

pub nonzero_rem-result : goal.nonzero_rem-result
nonzero_rem-result c = range-some _ _ (sym c.accepted.ensures ∙ c.if-accepted.true)

pub returns-then-accepted : goal.returns-then-accepted
returns-then-accepted c =
    let l = c.loop-next in
    let start = c.args in
    let g = next-granted l.at 8 _ (sym c.in_ok-next.ensures.answer) in
    let v = drawn-value start.key.now c.apply.new.bytes l.at c.from_le_bytes-value.result g.0 c.apply.ensures.lent c.from_le_bytes-value.ensures in
    let t : ltb (value_at (stream_of start.key.now) l.at) (limit start.range) ≡ true =
    sym (ap (λ (n : ℕ). ltb n (limit start.range)) v) ∙ (sym c.accepted.ensures ∙ c.if-accepted.true) in
    rw (v, g.1) (sym (draws-found (stream_of start.key.now) start.range l.at g.0 t) ∙ l.invariant)

pub loop-next-smaller : goal.loop-next-smaller
loop-next-smaller c = let g = next-granted c.loop-next.at 8 _ (sym c.in_ok-next.ensures.answer) in omega (arith, g.0, g.1)

pub loop-next-preserved : goal.loop-next-preserved
loop-next-preserved c =
    let l = c.loop-next in
    let start = c.args in
    let g = next-granted l.at 8 _ (sym c.in_ok-next.ensures.answer) in
    let v = drawn-value start.key.now c.apply.new.bytes l.at c.from_le_bytes-value.result g.0 c.apply.ensures.lent c.from_le_bytes-value.ensures in
    let t : ltb (value_at (stream_of start.key.now) l.at) (limit start.range) ≡ false =
    sym (ap (λ (n : ℕ). ltb n (limit start.range)) v) ∙ (sym c.accepted.ensures ∙ c.if-accepted.false) in
    rw g.1 (sym (draws-again (stream_of start.key.now) start.range l.at g.0 t) ∙ l.invariant)
