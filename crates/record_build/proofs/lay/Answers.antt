-- Three times zeros with something pasted over the first of them (`pasted`).
use borrow.Author.Rules.{rules}
use mathlib.Core.Path.{◌≡◌, refl, sym, ◌∙◌}
use mathlib.Core.List.{List, [], ◌∷◌, ◌++◌, append_assoc}
use Prim.Native.Nat.{ℕ, ◌+◌, ◌-◌, ◌≤◌}
use native.Mathlib.Omega.{arith}
use lib.ListN.{length, set, replicate, length-append, replicate-append-replicate}
use lib.Seq.{paste, set_at, append_snoc}
use Rattle.record.specs.Record.{short, head_of, laid_out}
use Rattle.record.specs.Laws.{pasted-over}
use Rattle.record_build.proofs.lay.Goals as goal

module _ (front text : List ℕ) (five : length front ≡ 5) (fits : length text ≤ 32) where
  sized : set (front ++ replicate 41 0) 5 (length text) ≡ (front ++ (length text ∷ [])) ++ replicate 40 0
  sized = set_at front 0 (replicate 40 0) (length text) 5 five ∙ sym (append_snoc front (length text) (replicate 40 0))

  all_laid : paste (set (front ++ replicate 41 0) 5 (length text)) 6 text (length text) ≡ (front ++ (length text ∷ text ++ replicate (32 - length text) 0))
      ++ replicate 8 0
  all_laid =
      let more : 40 - length text ≡ 32 - length text + 8 = omega arith in
      let six : length (front ++ (length text ∷ [])) ≡ 6 = simp length-append (omega arith) in
      rw (sized, pasted-over (front ++ (length text ∷ [])) text 6 40 six (omega arith), more, ← replicate-append-replicate {A = ℕ} (32 - length text) 8 0)
      (simp append_assoc)

module _ (front : List ℕ) (five : length front ≡ 5) where
  begun : paste (replicate 46 0) 0 front (length front) ≡ front ++ replicate 41 0
  begun = pasted-over [] front 0 46 refl (omega arith) ∙ rw five

pub returns : goal.returns
unfolding laid_out
returns c =
    let front = head_of short c.args.lock in
    let five : length front ≡ 5 = rw (← c.head.ensures) (search rules) in
    let new : c.copy.new.to ≡ front ++ replicate 41 0 = c.copy.ensures ∙ rw c.head.ensures (begun front five) in
    rw (c.copy-2.ensures, new) (all_laid front c.args.text.now five (search rules))
