-- What is due and the bytes that are left decide as the whole text does.
use Rattle.std.proofs.Common.{◌≡◌, refl, sym, ap, ◌∙◌, ℕ, zero, suc, ◌+◌, ◌-◌, ◌≤◌, ◌<◌, false, List, [], ◌∷◌, length, get_or, drop, arith, add-one, drop-cons}
use Rattle.std.proofs.Math.Numerals.{sub-one}
use Rattle.std.proofs.Math.Seq.{drop-length}
use Rattle.std.proofs.Math.Dec.{eqb}
use borrow.Author.Tests.{ne_eqb}
use Rattle.utf8.specs.Forms.{Form, Range, ◌‥◌, never, following, accepts}
use Rattle.utf8.specs.Strings.{lies, misses}
use Rattle.utf8.specs.Reading.{due}
use Rattle.utf8.proofs.takes.Goals as goal
use Rattle.utf8.proofs.takes.Goals.{then-b-due-via-then-b-due, then-b-due-via-else-b-due+then-due-b, then-due-ne0+else-b-due+else-due-b, else-due-ne0+in-Some}

none_comes : (fs : List Form) (bs : List ℕ) → accepts fs (never ∷ []) bs ≡ false
unfolding accepts
none_comes fs [] = refl
none_comes fs (b ∷ bs) = rw (misses never b (λ h. omega arith))

module _ (fs : List Form) (b : ℕ) (rest : List ℕ) where
  leads : (left low high : ℕ) (next : List Range) → left ≡ 0 → next ≡ following fs b → accepts fs next rest ≡ accepts fs (due left low high) (b ∷ rest)
  unfolding accepts due
  leads zero low high next z e = rw e
  leads (suc n) low high next z e = absurd (omega arith)

  -- where no character starts with b
  lost : (left low high : ℕ) → left ≡ 0 → never ∷ [] ≡ following fs b → accepts fs (due left low high) (b ∷ rest) ≡ false
  lost left low high z e = sym (leads left low high (never ∷ []) z e) ∙ none_comes fs rest

  follows : (left low high : ℕ) → (left ≡ 0 → ⊥) → low ≤ b → b ≤ high → accepts fs (due (left - 1) 0x80 0xBF) rest ≡ accepts fs (due left low high) (b ∷ rest)
  unfolding accepts due
  follows zero low high z l h = absurd (z refl)
  follows (suc zero) low high z l h = rw (lies (low ‥ high) b (l, h))
  follows (suc (suc n)) low high z l h = rw (lies (low ‥ high) b (l, h), sub-one)

  stops : (left low high : ℕ) → (left ≡ 0 → ⊥) → ((low ≤ b) × (b ≤ high) → ⊥) → accepts fs (due left low high) (b ∷ rest) ≡ false
  unfolding accepts due
  stops zero low high z m = absurd (z refl)
  stops (suc n) low high z m = rw (misses (low ‥ high) b m)

ends : (fs : List Form) (left low high : ℕ) → eqb left 0 ≡ accepts fs (due left low high) []
unfolding accepts due
ends fs zero low high = refl
ends fs (suc n) low high = ne_eqb (suc n) 0 (λ (e : suc n ≡ 0). omega arith)

-- the invariant where byte i has been read
read : (fs : List Form) (bs : List ℕ) (i left low high : ℕ) → i < length bs → accepts fs (due left low high) (drop i bs) ≡ accepts fs [] bs
    → accepts fs (due left low high) (get_or bs i 0 ∷ drop (i + 1) bs) ≡ accepts fs [] bs
read fs bs i left low high h e = rw (add-one, ← drop-cons bs i 0 h) e

pub loop-b-init : goal.loop-b-init
unfolding due
loop-b-init g c = ap (λ (d : List Range). accepts g.G.Grammar.characters d c.args.bytes.now) c.tails-due.ensures

pub returns-then-b-due : goal.returns-then-b-due
returns-then-b-due g c =
    let here = read g.G.Grammar.characters _ _ _ _ _ c.loop-b-test.true c.loop-b.invariant in
    elim c.then-b-due.branch [
      | then-b-due-via-then-b-due w ↦ sym (stops _ _ _ _ _ _ c.if-due-ne0.true (λ h. omega (arith, w.if-b-due.true))) ∙ here
      | then-b-due-via-else-b-due+then-due-b w ↦ sym (stops _ _ _ _ _ _ c.if-due-ne0.true (λ h. omega (arith, w.if-due-b.true))) ∙ here
    ]

pub returns-in_default : goal.returns-in_default
returns-in_default g c =
    sym (lost _ _ _ _ _ _ c.if-due-ne0.false c.in_default.ensures) ∙ read g.G.Grammar.characters _ _ _ _ _ c.loop-b-test.true c.loop-b.invariant

pub loop-b-preserved : goal.loop-b-preserved
loop-b-preserved g c =
    let fs = g.G.Grammar.characters in
    let d = c.loop-b.due in
    let bs = c.args.bytes.now in
    let i = c.loop-b.b-index in
    let b = get_or bs i 0 in
    let rest = drop (i + 1) bs in
    let here = read fs bs i d.left d.low d.high c.loop-b-test.true c.loop-b.invariant in
    elim c.if-due-ne0.branch [
      | then-due-ne0+else-b-due+else-due-b w ↦
          rw w.due-is (ap (λ (e : List Range). accepts fs e rest) w.tails-due-then-due-ne0.ensures
          ∙ follows fs b rest d.left d.low d.high w.if-due-ne0.true w.if-b-due.false w.if-due-b.false ∙ here)
      | else-due-ne0+in-Some w ↦ rw w.due-is (leads fs b rest d.left d.low d.high _ w.if-due-ne0.false w.in-Some.ensures ∙ here)
    ]

pub returns : goal.returns
returns g c =
    let bs = c.args.bytes.now in
    let e : c.loop-b.b-index ≡ length bs = omega arith in
    ends g.G.Grammar.characters _ _ _ ∙ (rw (e, drop-length bs) at c.loop-b.invariant)
