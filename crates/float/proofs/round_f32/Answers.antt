-- Small values by `half_up`, on the value or its negation; the others stay.
use Rattle.std.proofs.Common.{sym, ap, ◌∙◌}
use lib.Ieee.{binary32, of_bits, neg}
use Rattle.float.specs.Calls.{round_away}
use Rattle.float.specs.Known.{known, known-not}
use Rattle.float.specs.Whole.{round_away-still, round_away-neg, still-large, still-large-neg, still-zero, neg-neg}
use Rattle.float.specs.Beside.{under-above, under-below}
use Rattle.float.proofs.round_f32.Goals as goal

pub half_up-requires : goal.half_up-requires
unfolding of_bits
half_up-requires c = under-above 23 c.args.x (known c.if-x.true) (known c.if-x-2.true)

pub returns-then-x : goal.returns-then-x
unfolding of_bits
returns-then-x c =
    let x = c.args.x in
    let t = known c.well_formed.0.1 in
    sym (round_away-still binary32 x t (still-large binary32 x t (known c.if-x.true) (known-not c.if-x-2.false)))

pub half_up-requires-then-x-4 : goal.half_up-requires-then-x-4
unfolding of_bits neg
half_up-requires-then-x-4 c = under-below 23 c.args.x (known c.if-x-3.true) (known c.if-x-4.true)

pub returns-then-x-4 : goal.returns-then-x-4
returns-then-x-4 c =
    let x = c.args.x in
    ap neg (c.half_up-then-x-4.ensures ∙ round_away-neg binary32 x) ∙ neg-neg (round_away binary32 x)

pub returns-then-x-3 : goal.returns-then-x-3
unfolding of_bits neg
returns-then-x-3 c =
    let x = c.args.x in
    let t = known c.well_formed.0.1 in
    sym (round_away-still binary32 x t (still-large-neg binary32 x t (known c.if-x-3.true) (known-not c.if-x-4.false)))

pub returns : goal.returns
unfolding of_bits
returns c =
    let x = c.args.x in
    sym (round_away-still binary32 x (known c.well_formed.0.1) (still-zero x (known-not c.if-x.false) (known-not c.if-x-3.false)))
