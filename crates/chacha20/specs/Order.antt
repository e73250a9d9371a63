-- The quarter rounds of a diagonal round share no word, so that they may be worked in another order than the one they are
-- listed in.
use Rattle.std.specs.Prelude.{◌≡◌, ℕ, List, length, slice_index, refl}
use Rattle.std.proofs.Common.{subst}
use Rattle.seq.specs.Tab.{tab-get_or}
use Rattle.seq.specs.Lists.{tab}
use Rattle.chacha20.specs.Rfc8439.{quarter_round, inner_block}

-- the inner block with the first and the third diagonal exchanged
abbrev pub exchanged_diagonals : List ℕ → List ℕ
exchanged_diagonals s =
    let s = quarter_round 0 4 8 12 s in
    let s = quarter_round 1 5 9 13 s in
    let s = quarter_round 2 6 10 14 s in
    let s = quarter_round 3 7 11 15 s in
    let s = quarter_round 2 7 8 13 s in
    let s = quarter_round 1 6 11 12 s in
    let s = quarter_round 0 5 10 15 s in
    quarter_round 3 4 9 14 s

-- on sixteen words both compute to the same
exchanged-words : (g : ℕ → ℕ) → exchanged_diagonals (tab g 16) ≡ inner_block (tab g 16)
unfolding inner_block quarter_round tab
exchanged-words g = refl

pub exchanged-inner : (s : List ℕ) → length s ≡ 16 → exchanged_diagonals s ≡ inner_block s
exchanged-inner s h =
    let words : tab (λ k. slice_index s k) 16 ≡ s = rw h at (tab-get_or s 0) in
    subst (λ (t : List ℕ). exchanged_diagonals t ≡ inner_block t) words (exchanged-words (λ k. slice_index s k))
