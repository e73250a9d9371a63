-- The piece is pasted over zeros: behind it stand as many as are left.
use Rattle.std.proofs.Common.{◌≡◌, ◌≤◌, ◌+◌, ◌-◌, ◌++◌, ℕ, List, length, replicate, take, refl, sym, ap, ◌∙◌, take_at, append_assoc, length-append, arith, rules}
use Rattle.std.proofs.Math.Seq.{paste}
use Rattle.record.specs.Laws.{pasted-over}
use Rattle.record.specs.Held.{held-length}
use Rattle.report.proofs.pieces.Line.put.Goals as goal

pub invariant_of-self : goal.invariant_of-self
invariant_of-self c =
    let n = c.self.inside.len in
    let line = take n c.self.inside.bytes in
    let piece = c.args.piece.now in
    let rest : List ℕ = replicate (73 - (n + length piece)) 0 in
    let whole : length line ≡ n = held-length 73 n c.self.inside.bytes c.self.invariant in
    let room : n + length piece ≤ 73 = omega (arith, c.requires, ap length c.self.view_is) in
    let long : length (line ++ piece) ≡ n + length piece = omega (arith, length-append line piece) in
    let less : 73 - n - length piece ≡ 73 - (n + length piece) = omega arith in
    let over = pasted-over line piece n (73 - n) whole (omega arith) in
    let is : c.copy.new.to ≡ line ++ piece ++ rest =
    c.copy.ensures
    ∙ (ap (λ (b : List ℕ). paste b n piece (length piece)) c.self.invariant.2 ∙ (over ∙ rw less (sym (append_assoc line piece rest)))) in
    (room, search rules, rw (is, take_at (line ++ piece) rest (n + length piece) long) refl)
