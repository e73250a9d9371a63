-- What the code keeps of the way: for each step a number whose bit k says whether state k was reached from its odd
-- predecessor, and the path traced back by these numbers. Definitions only.
use Rattle.std.specs.Prelude.{List, [], ◌∷◌, ℕ, zero, suc, ◌+◌, ◌*◌, ◌/◌, ◌%◌, ◌^◌}
use Rattle.decoder.specs.Decoder.{Sums, odd_at, next_metrics}

-- n bits as a number, bit i at weight 2 ^ i
unfoldable pub packed : (ℕ → ℕ) → ℕ → ℕ
packed f zero = 0
packed f (suc n) = packed f n + f n * 2 ^ n

-- the numbers of all steps
unfoldable pub decision_rows : {M W : Type 0} (o : Sums M W) → List M → List W → List ℕ
decision_rows o m [] = []
decision_rows o m (v ∷ []) = []
decision_rows o m (v ∷ w ∷ vs) = packed (odd_at o m v w) 64 ∷ decision_rows o (next_metrics o m v w) vs

-- traced back from the state k at the end: the state at the start, and the bits on the way
unfoldable pub traced_from : List ℕ → ℕ → ℕ
traced_from [] k = k
traced_from (d ∷ ds) k = let j = traced_from ds k in (2 * j + d / 2 ^ j % 2) % 64

unfoldable pub traced_path : List ℕ → ℕ → List ℕ
traced_path [] k = []
traced_path (d ∷ ds) k = traced_from ds k / 32 ∷ traced_path ds k
