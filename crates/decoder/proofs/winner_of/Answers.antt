-- The two candidates are those of the even and the odd register (`winner-law`), whose outputs are complementary.
use mathlib.Core.Path.{ap, ◌∙◌}
use mathlib.Core.Bool.{true, false}
use Prim.Native.Nat.{ℕ}
use lib.Ieee.{neg}
use Rattle.decoder.specs.Decoder.{voted}
use Rattle.decoder.specs.Tables.{winner-law}
use Rattle.decoder.proofs.winner_of.Goals as goal

pub returns-then-best-candidate : goal.returns-then-best-candidate
returns-then-best-candidate c =
    let s = c in
    let a = c.vote-a in
    let b = c.vote-b in
    winner-law s.args.m.now s.args.s0 s.args.s1 s.args.k s.args.even a.result b.result c.found-best.result true
    s.requires.0 s.requires.1
    (a.ensures ∙ ap (λ (x : ℕ). voted neg x s.args.s0) c.first_out.ensures)
    (b.ensures ∙ ap (λ (x : ℕ). voted neg x s.args.s1) c.second_out.ensures)
    c.found-best.ensures
    c.if-best-candidate.true

pub returns-else-best-candidate : goal.returns-else-best-candidate
returns-else-best-candidate c =
    let s = c in
    let a = c.vote-a in
    let b = c.vote-b in
    winner-law s.args.m.now s.args.s0 s.args.s1 s.args.k s.args.even a.result b.result c.found-best.result false
    s.requires.0 s.requires.1
    (a.ensures ∙ ap (λ (x : ℕ). voted neg x s.args.s0) c.first_out.ensures)
    (b.ensures ∙ ap (λ (x : ℕ). voted neg x s.args.s1) c.second_out.ensures)
    c.found-best.ensures
    c.if-best-candidate.false
