-- The places passed hold the rounded bytes (`filled`).
use borrow.Author.Rules.{rules}
use borrow.Author.Tests.{ne_eqb, eq-eqb}
use mathlib.Core.Path.{◌≡◌, refl, sym, ap, ◌∙◌}
use mathlib.Core.Bool.{Bool, cond}
use mathlib.Core.List.{List}
use Prim.Native.Nat.{ℕ, ◌<◌}
use native.Mathlib.Omega.{arith}
use lib.Ieee.{Float}
use lib.ListN.{length}
use Rattle.seq.specs.Tab.{filled_none, filled_more, filled-all}
use Rattle.seq.specs.Lists.{tab}
use Rattle.comparison.specs.Bulk.{rounded_at, rounded_into}
use Rattle.comparison.proofs.float32.vk_round_all_to_u8.Goals as goal

unequal : (from : List Float) (to : List ℕ) → (length from ≡ length to → ⊥) → to ≡ rounded_into from to
unfolding rounded_into
unequal from to h = sym (ap (λ (t : Bool). cond t (tab (rounded_at from) (length to)) to) (ne_eqb (length from) (length to) h))

equal : (from : List Float) (to : List ℕ) → length from ≡ length to → tab (rounded_at from) (length to) ≡ rounded_into from to
unfolding rounded_into
equal from to h = sym (ap (λ (t : Bool). cond t (tab (rounded_at from) (length to)) to) (eq-eqb (length from) (length to) h))

pub returns-then-from-to : goal.returns-then-from-to
returns-then-from-to c = unequal c.args.from.now c.args.to.now c.if-from-to.true

pub loop-i-init : goal.loop-i-init
loop-i-init c = filled_none _ _

pub loop-i-preserved : goal.loop-i-preserved
loop-i-preserved c =
    let start = c.args in
    let h : c.loop-i.i < length start.to.now = omega arith in
    rw (c.loop-i.invariant, c.round_to_u8.ensures) (filled_more (rounded_at start.from.now) _ _ h)

pub returns : goal.returns
returns c =
    let start = c.args in
    let e : c.loop-i.i ≡ length start.to.now = omega arith in
    (rw e at c.loop-i.invariant) ∙ filled-all _ start.to.now ∙ equal start.from.now start.to.now c.if-from-to.false
