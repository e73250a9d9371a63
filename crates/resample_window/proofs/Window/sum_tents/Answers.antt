-- Before number j the sum is that of the positive tents of the k numbers before it.
use Rattle.std.proofs.Common.{◌≡◌, ℕ, ◌+◌, ◌<◌, ◌≤◌, true, false, T, ℤ, pos, ◌+ℤ◌, ◌≤ℤ◌, ◌<ℤ◌, FitsSigned, to_z, of_z, w64, refl, ap, sym, subst, inl, inr, eq-or-lt_of_le, ◌∙◌, arith}
use Rattle.std.proofs.lemmas.Int.{to_z-of_z, by_lt_z, ints}
use Rattle.std.specs.Int.Signed.{le_z}
use Rattle.std.specs.Float.Ieee.{of_bits}
use Rattle.resample_window.specs.Window.{tent_of, tent_sum, numbers}
use Rattle.resample_window.specs.Signed.{numbers-in, in-numbers}
use Rattle.resample_window.specs.Steps.{sum-with, sum-without}
use Rattle.resample_window.proofs.Window.sum_tents.Goals as goal
use Rattle.resample_window.proofs.Window.sum_tents.Goals.{then-t, else-t}

-- a number of the window is one of those that are counted
counted : (first last z : ℤ) (k : ℕ) → FitsSigned w64 last → le_z z (to_z w64 (of_z w64 last)) ≡ true → z ≡ first +ℤ pos k → k < numbers first last
counted first last z k f t e =
    let l : z ≤ℤ last = record { le = subst T (sym (rw (to_z-of_z w64 last f) at t)) tt } in
    numbers-in first last k (rw e at l)

-- behind the last there is none
all : (first last z : ℤ) (k : ℕ) → last <ℤ z → z ≡ first +ℤ pos k → k ≤ numbers first last → k ≡ numbers first last
all first last z k l e h =
    elim (eq-or-lt_of_le h) [
      | inl i ↦ i
      | inr g ↦ (let m : (first +ℤ pos k) ≤ℤ last = in-numbers first last k g in absurd (omega (arith, ints)))
    ]

behind : (z last : ℤ) → FitsSigned w64 last → le_z z (to_z w64 (of_z w64 last)) ≡ false → last <ℤ z
behind z last f t = by_lt_z last z (λ l. l) (λ (l : z ≤ℤ last). absurd (subst T (ap (le_z z) (sym (to_z-of_z w64 last f)) ∙ t) l.le))

pub loop-j-init : goal.loop-j-init
unfolding tent_sum of_bits
loop-j-init c = (0, omega (arith, ints), omega arith, refl)

pub loop-j-preserved : goal.loop-j-preserved
unfolding of_bits
loop-j-preserved c =
    let w = c.args.self in
    let i = c.loop-j.invariant in
    let h : i.0 < numbers w.first w.last = counted w.first w.last _ i.0 (omega (arith, ints)) c.loop-j-test.true i.1 in
    let is : c.tent-t.result ≡ tent_of w (w.first +ℤ pos i.0) = c.tent-t.ensures ∙ ap (tent_of w) i.1 in (
      i.0 + 1,
      omega (arith, ints),
      omega arith,
      elim c.if-t.branch [
        | then-t x ↦ x.sum-is ∙ sum-with w i.0 c.tent-t.result is c.loop-j.sum x.if-t.true i.3
        | else-t x ↦ x.sum-is ∙ sum-without w i.0 c.tent-t.result is c.loop-j.sum x.if-t.false i.3
      ],
    )

-- after the last number
pub returns-after-t : goal.returns-after-t
unfolding of_bits
returns-after-t c =
    let w = c.args.self in
    let i = c.loop-j.invariant in
    let h : i.0 < numbers w.first w.last = counted w.first w.last _ i.0 (omega (arith, ints)) c.loop-j-test.true i.1 in
    let e : i.0 + 1 ≡ numbers w.first w.last = all w.first w.last (w.first +ℤ pos (i.0 + 1)) (i.0 + 1) (omega (arith, ints)) refl (omega arith) in
    let is : c.tent-t.result ≡ tent_of w (w.first +ℤ pos i.0) = c.tent-t.ensures ∙ ap (tent_of w) i.1 in
    elim c.if-t.branch [
      | then-t x ↦ x.sum-is ∙ (sum-with w i.0 c.tent-t.result is c.loop-j.sum x.if-t.true i.3 ∙ ap (tent_sum w) e)
      | else-t x ↦ x.sum-is ∙ (sum-without w i.0 c.tent-t.result is c.loop-j.sum x.if-t.false i.3 ∙ ap (tent_sum w) e)
    ]

pub returns : goal.returns
returns c =
    let w = c.args.self in
    let i = c.loop-j.invariant in
    i.3 ∙ ap (tent_sum w) (all w.first w.last _ i.0 (behind _ w.last (omega (arith, ints)) c.loop-j-test.false) i.1 i.2)
