-- Place k holds its number.
use Rattle.std.proofs.Common.{ℕ, rules}
use Rattle.seq.specs.Made.{array_made}
use Rattle.shuffle.proofs.rising.Goals as goal

pub returns : goal.returns
returns c = array_made _ (λ (k : ℕ). k) _ (λ i y d k. search rules) _ 4096 c.from_fn.ensures.items
