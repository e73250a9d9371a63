-- A number without a weight is passed over, and one that has it is the first of the taps that are left.
use Rattle.std.proofs.Common.{◌≡◌, ◌<◌, ◌^◌, true, false, T, pos, ◌+ℤ◌, ◌≤ℤ◌, ◌<ℤ◌, FitsSigned, to_z, of_z, w64, Some, None, ap, ap₂, sym, subst, ◌∙◌, arith, rules, length}
use Rattle.std.specs.Int.Signed.{le_z, mag}
use Rattle.std.proofs.lemmas.Int.{to_z-of_z, by_lt_z, ints}
use Rattle.resample_window.specs.declared.Window.{Window}
use Rattle.resample_window.specs.Window.{weight_of}
use Rattle.resample_window.specs.Signed.{small-fits, numbers-first}
use Rattle.resample_window.specs.Steps.{walk-end, walk-with, walk-without}
use Rattle.resample_window.proofs.walk.WindowTapsIterator.next.Goals as goal

-- a turn: there is a number, and the one behind it fits
record Turn (w : Window) : Type 0 where
  pub more : w.first ≤ℤ w.last
  pub own : to_z w64 (of_z w64 w.first) ≡ w.first
  pub next : to_z w64 (of_z w64 (to_z w64 (of_z w64 w.first) +ℤ pos 1)) ≡ w.first +ℤ pos 1
  pub fits : FitsSigned w64 (w.first +ℤ pos 1)

turn : (w : Window) → FitsSigned w64 w.first → mag w.last < 2 ^ 30 → le_z (to_z w64 (of_z w64 w.first)) (to_z w64 (of_z w64 w.last)) ≡ true → Turn w
turn w f h t =
    let own : to_z w64 (of_z w64 w.first) ≡ w.first = to_z-of_z w64 w.first f in
    let more : w.first ≤ℤ w.last = record { le = subst T (sym (rw (own, to_z-of_z w64 w.last (small-fits w.last h)) at t)) tt } in
    let fits : FitsSigned w64 (w.first +ℤ pos 1) = omega (arith, ints) in
    record { more = more; own = own; next = ap (λ z. to_z w64 (of_z w64 (z +ℤ pos 1))) own ∙ to_z-of_z w64 (w.first +ℤ pos 1) fits; fits = fits }

past : (w : Window) → FitsSigned w64 w.first → mag w.last < 2 ^ 30 → le_z (to_z w64 (of_z w64 w.first)) (to_z w64 (of_z w64 w.last)) ≡ false → w.last <ℤ w.first
past w f h t =
    by_lt_z w.last w.first (λ l. l)
    (λ (l : w.first ≤ℤ w.last). absurd (subst T (sym (ap₂ le_z (to_z-of_z w64 w.first f) (to_z-of_z w64 w.last (small-fits w.last h))) ∙ t) l.le))

pub loop-self-preserved : goal.loop-self-preserved
loop-self-preserved c =
    let i = c.loop-self.invariant in
    let w = c.loop-self.self-inside.left in
    let t = turn w i.0 i.1 c.loop-self-test.true in
    let none : weight_of w w.first ≡ None = ap (weight_of w) (sym t.own) ∙ (sym c.weight-reached.ensures ∙ c.in_default.is) in
    rw t.next (t.fits, i.1, i.2, sym (walk-without w c.loop-self.self-inside.src t.more none) ∙ i.3)

pub loop-self-smaller : goal.loop-self-smaller
loop-self-smaller c =
    let i = c.loop-self.invariant in
    let w = c.loop-self.self-inside.left in
    let t = turn w i.0 i.1 c.loop-self-test.true in
    rw t.next (omega (arith, numbers-first w.first w.last t.more))

pub returns-in-Some-clause-steps : goal.returns-in-Some-clause-steps
returns-in-Some-clause-steps c =
    let i = c.loop-self.invariant in
    let w = c.loop-self.self-inside.left in
    let t = turn w i.0 i.1 c.loop-self-test.true in
    let some : weight_of w w.first ≡ Some c.in-Some.weight = ap (weight_of w) (sym t.own) ∙ (sym c.weight-reached.ensures ∙ c.in-Some.is) in
    rw (t.next, c.clamp.ensures, t.own) (sym i.3 ∙ walk-with w c.loop-self.self-inside.src t.more c.in-Some.weight some)

pub returns-in-Some-clause-goes : goal.returns-in-Some-clause-goes
returns-in-Some-clause-goes c =
    let e = ap length (returns-in-Some-clause-steps c) in
    record { on = λ _. (search rules, search rules, omega arith); keeps = search rules; rests = λ _. search rules }

pub returns-clause-steps : goal.returns-clause-steps
returns-clause-steps c =
    let i = c.loop-self.invariant in
    let w = c.loop-self.self-inside.left in
    let e = walk-end w c.loop-self.self-inside.src (past w i.0 i.1 c.loop-self-test.false) in
    (sym i.3 ∙ e, e)
