-- After r turns the first r lines stand in the block.
use Rattle.std.proofs.Common.{◌≡◌, refl, sym, ◌∙◌, ap, ap₂, ℕ, ◌+◌, ◌-◌, ◌*◌, ◌≤◌, ◌<◌, List, length, take, drop, get_or, arith, rules, take_all}
use Rattle.std.proofs.Math.Nat.{add-sub_cancel_left}
use Rattle.std.proofs.Math.Seq.{paste, length-paste}
use Rattle.std.specs.Float.Ieee.{Float, nan}
use Rattle.seq.specs.Tab.{length-tab}
use Rattle.seq.specs.Lists.{lines}
use Rattle.seq.specs.Lines.{lines_more, part-tab}
use Rattle.dct.specs.Grid.{grid, block_line}
use Rattle.block.specs.Plane.{line_at, load_of}
use Rattle.block.specs.Stored.{line-fits}
use Rattle.block.proofs.load_block.Invariants.{Begun}
use Rattle.block.proofs.load_block.Goals as goal

begun_more : (g : ℕ → ℕ → Float) (r : ℕ) (p q line : List Float) → r < 8 → Begun g r p → line ≡ block_line g r → q ≡ paste p (r * 8) line (length line)
    → Begun g (r + 1) q
begun_more g r p q line h b e f =
    let l : length (block_line g r) ≡ 8 = length-tab (g r) 8 in
    let room : r * 8 + 8 ≤ length p = omega (arith, b.0) in
    let s : q ≡ paste p (r * 8) (block_line g r) 8 = f ∙ ap₂ (λ (xs : List Float) (n : ℕ). paste p (r * 8) xs n) e (ap length e ∙ l) in (
      ap length s ∙ (length-paste p (r * 8) (block_line g r) 8 room (omega (arith, l)) ∙ b.0),
      ap (λ (xs : List Float). take ((r + 1) * 8) xs) s ∙ lines_more 8 (block_line g) r p room l b.1,
    )

begun_all : (g : ℕ → ℕ → Float) (r : ℕ) (p : List Float) → r ≡ 8 → Begun g r p → p ≡ grid g
unfolding grid
begun_all g r p e b = sym (take_all 64 p (omega (arith, b.0))) ∙ (rw e at b.1)

-- what is copied in a turn
line : (plane : List Float) (b r at : ℕ) → at ≡ line_at b r → at + 8 ≤ length plane
    → take (at + 8 - at) (drop at plane) ≡ block_line (λ i k. get_or plane (line_at b i + k) nan) r
line plane b r at e room = rw (add-sub_cancel_left at 8, ← e) (part-tab plane at 8 nan room)

pub loop-r-init : goal.loop-r-init
unfolding lines
loop-r-init c = (search rules, (refl, refl))

pub loop-r-preserved : goal.loop-r-preserved
loop-r-preserved c =
    let l = c.loop-r in
    let at = c.line_at-at.result in
    let plane = c.args.plane.now in
    let room : at + 8 ≤ length plane = rw c.line_at-at.ensures (omega (arith, line-fits c.args.b l.r c.requires.0 c.loop-r-test.true)) in (
      search rules,
      begun_more _ _ _ _ _ c.loop-r-test.true l.invariant.1 (line plane c.args.b l.r at c.line_at-at.ensures room) c.copy.ensures,
    )

pub returns : goal.returns
unfolding load_of
returns c = begun_all _ c.loop-r.r _ (omega arith) c.loop-r.invariant.1
