-- After i turns the first 4 * i bytes are those of the first i sums.
use Rattle.std.proofs.Common.{◌≡◌, ℕ, ◌*◌, List, length, get_or, take}
use Rattle.seq.specs.Lists.{tab}
use Rattle.chacha20.specs.Rfc8439.{plus_word, serialized}
use Rattle.chacha20.proofs.sum_bytes.Given as goal

-- word k of the sum
abbrev pub sum_at : List ℕ → List ℕ → ℕ → ℕ
sum_at s t k = plus_word (get_or s k 0) (get_or t k 0)

abbrev pub invariant-loop-i : goal.invariant-loop-i
invariant-loop-i l = (length l.out ≡ 64) × (take (4 * l.i) l.out ≡ serialized (tab (sum_at l.s l.t) l.i))
