-- A block more is fed as a message of its own.
use Rattle.std.proofs.Common.{◌≡◌, ℕ, ◌+◌, ◌*◌, ◌≤◌, ◌∙◌, sym, ap, ap₂, List, [], ◌∷◌, ◌++◌, length, drop, arith, length-append, length-drop, drop-drop}
use Rattle.std.proofs.Math.Seq.{drop-append_seam}
use Rattle.std.specs.Slice.Iter.{chunks_exact_rest}
use Rattle.crc32.specs.Bytes.{after-append}
use Rattle.crc32.specs.Shift.{register_after}
use Rattle.crc32.proofs.update.Goals as goal

-- what is left after a block of the bytes that were left
left_after : (s x t : List ℕ) (i : ℕ) → drop i s ≡ x ++ t → length x ≡ 8 → t ≡ drop (i + 8) s
left_after s x t i e l = sym (drop-append_seam x t) ∙ ap₂ (drop {A = ℕ}) l (sym e) ∙ drop-drop 8 i s

pub loop-block-preserved : goal.loop-block-preserved
loop-block-preserved c =
    let l = c.loop-block in
    let s = c.args.bytes.now in
    let x = c.in-Some.block.now in
    let steps = c.in-Some.ensures.steps in
    let n = 8 * length l.yielded in
    let more : 8 * length (l.yielded ++ (c.in-Some.block ∷ [])) ≡ n + 8 = simp length-append (omega arith) in
    let whole = sym l.invariant.2 ∙ steps.1.0 in
    let eight = steps.1.1 ∙ l.invariant.0 in
    let left = left_after s x _ n whole eight in
    let within : n + 8 ≤ length s = omega (arith, eight, ap length whole, length-append x (chunks_exact_rest c.next.new.self), length-drop n s) in
    rw more (
      steps.0 ∙ l.invariant.0,
      within,
      left,
      rw (c.feed-x.ensures, ← left) (sym (after-append l.x x _) ∙ ap (register_after l.x) (sym whole) ∙ l.invariant.3),
    )
