-- What is left to make from here on makes the entries that were to be made from the start on; a turn makes one of them.
use Rattle.std.proofs.Common.{◌≡◌, ℕ, ◌+◌, ◌-◌, ◌<◌, ◌≤◌, take, sym, ap, ◌∙◌, arith, rules, Ok}
use Rattle.shuffle.specs.Draws.{drawn-below}
use Rattle.shuffle.specs.Entries.{made_more, made-end, made_all}
use Rattle.shuffle.specs.Shuffle.{stream_of, drawn, draws_from}
use Rattle.shuffle.proofs.permute.Goals as goal

-- the number drawn reaches no further than the list
below : (stream : ℕ → ℕ) (count i at len r q : ℕ) → i < count → count ≤ len → drawn stream (len - i) (draws_from at) at ≡ Ok (r, q) → r < len - i
below stream count i at len r q h l e = drawn-below stream (len - i) (draws_from at) at r q (omega arith) e

pub returns-in_default : goal.returns-in_default
returns-in_default c =
    let l = c.loop-i in
    let start = c.args in
    let ended = sym c.draw.ensures ∙ c.in_default.is in (
      search rules,
      search rules,
      sym
          (made-end (stream_of start.key.now) (start.count - (l.i + 1)) l.i l.at l.list (start.count - l.i) (omega arith) ended) ∙ l.invariant,
    )

pub place_of-requires : goal.place_of-requires
place_of-requires c =
    omega (arith, below (stream_of c.args.key.now) c.args.count c.loop-i.i c.loop-i.at _ _ _ (omega arith) (omega arith) (sym c.draw.ensures ∙ c.in-Ok.is))

pub swap-requires-clause-b_in_bounds : goal.swap-requires-clause-b_in_bounds
swap-requires-clause-b_in_bounds c =
    omega (
      arith,
      c.place_of.ensures,
      below (stream_of c.args.key.now) c.args.count c.loop-i.i c.loop-i.at _ _ _ (omega arith) (omega arith) (sym c.draw.ensures ∙ c.in-Ok.is),
    )

pub loop-i-preserved : goal.loop-i-preserved
loop-i-preserved c =
    let l = c.loop-i in
    let start = c.args in
    rw (c.swap.ensures.after, c.place_of.ensures)
    (sym
    (made_more (stream_of start.key.now) (start.count - (l.i + 1)) l.i l.at l.list (start.count - l.i) _ _ (omega arith) (sym c.draw.ensures ∙ c.in-Ok.is))
    ∙ l.invariant)

pub returns : goal.returns
returns c =
    let l = c.loop-i in
    let start = c.args in
    let all : start.count ≡ l.i = omega arith in (
      search rules,
      search rules,
      ap (λ (n : ℕ). take n l.list) all ∙ (sym (made_all (stream_of start.key.now) (start.count - l.i) l.i l.at l.list (omega arith)) ∙ l.invariant),
    )
