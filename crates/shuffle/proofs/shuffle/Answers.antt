-- The list up to `len`, whose front `permute` makes, laid out over the places lent.
use Rattle.std.proofs.Common.{◌≡◌, ℕ, ◌≤◌, min, cond, nat_le, List, length, take, sym, ap, ◌∙◌, arith, length-take-le}
use lib.Seq.{take-append-le}
use Rattle.seq.specs.Tab.{length-tab}
use Rattle.seq.specs.Lists.{tab}
use Rattle.shuffle.specs.Shuffle.{made, stream_of, longest_shuffle, shuffle_of, lent_for}
use Rattle.shuffle.specs.Entries.{front-made}
use Rattle.shuffle.proofs.shuffle.Goals as goal

held-length : (h : ℕ) (l : List ℕ) → l ≡ tab (λ k. k) 4096 → h ≤ 4096 → length (take h l) ≡ h
held-length h l e b =
    let n : length l ≡ 4096 = ap length e ∙ length-tab (λ (k : ℕ). k) 4096 in
    length-take-le h l (omega arith)

-- the entries stand in the front of the part lent
found-made : (key list after : List ℕ) (len count room h least wanted found : ℕ) → h ≡ cond (nat_le len longest_shuffle) len 0 → h ≤ longest_shuffle
    → least ≡ min count h → wanted ≡ min least room → list ≡ tab (λ k. k) longest_shuffle → found ≤ wanted → length after ≡ length (take h list)
    → take found after ≡ made (stream_of key) wanted 0 0 (take h list)
    → (found ≤ length after) × (take found after ≡ shuffle_of key len count room)
found-made key list after len count room h least wanted found e b l w t f n m =
    let least_of : wanted ≡ min (min count h) room = w ∙ ap (λ (k : ℕ). min k room) l in
    let within : found ≤ length after = omega (arith, held-length h list t b) in
    (within, m ∙ (rw (least_of, t) (front-made key len count room h e b)))

pub returns-clause-number : goal.returns-clause-number
returns-clause-number c =
    let h = c.held-long.ensures in
    let p = c.permute-found.ensures in
    let f = found-made c.args.key.now _ _ _ _ _ _ _ _ _ h.0 h.1 c.min.ensures c.min-wanted.ensures c.rising-list.ensures p.0 p.1 p.2 in
    sym (length-take-le _ _ f.0) ∙ ap length f.1

pub returns-clause-lent : goal.returns-clause-lent
returns-clause-lent c =
    let h = c.held-long.ensures in
    let p = c.permute-found.ensures in
    let f = found-made c.args.key.now _ _ _ _ _ _ _ _ _ h.0 h.1 c.min.ensures c.min-wanted.ensures c.rising-list.ensures p.0 p.1 p.2 in
    let front = take-append-le _ _ _ f.0 ∙ f.1 in
    c.lay_out.ensures ∙ ap (lent_for _) front
