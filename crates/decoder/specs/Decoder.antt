-- The decoder, over any sums: a start, one step over 64 states, the metrics at the end, the path traced back from a state
-- at the end, and the bytes of its bits. The step from a state by a bit has the register r = 64 * bit + state, so state k
-- is reached by the registers 2 * k (even predecessor) and 2 * k + 1 (odd). Definitions only.
use Rattle.std.specs.Prelude.{Bool, true, false, List, [], ◌∷◌, ℕ, zero, suc, ◌+◌, ◌*◌, ◌/◌, ◌%◌, get_or, replicate, Float, pos}
use Rattle.std.specs.Float.{nan, inf, fin, binary32}
use Rattle.std.specs.Float.Ieee.{add, neg, lt}
use Rattle.seq.specs.Lists.{tab}
use Rattle.encoder.specs.Ccsds131.{out1, out2}

-- metrics M, votes W: what stands past a list's end, what a lost path has, the metric at the start, a vote added, a vote
-- turned round, the order
pub record Sums (M W : Type 0) : Type 0 where
  pub blank : M
  pub lost : M
  pub begun : M
  pub plus : M → W → M
  pub turn : W → W
  pub less : M → M → Bool

abbrev pub floats : Sums Float Float
floats = record { blank = nan; lost = inf true; begun = fin false 0 (pos 0); plus = add binary32; turn = neg; less = lt }

abbrev pub pick : {A : Type 0} → Bool → A → A → A
pick true a b = a
pick false a b = b

-- v, turned round where the coded bit is 1
abbrev pub voted : {W : Type 0} → (W → W) → ℕ → W → W
voted turn zero v = v
voted turn (suc c) v = turn v

module _ {M W : Type 0} (o : Sums M W) where
  -- the metric by the register r: its state's metric, then the two votes
  unfoldable pub cand : List M → W → W → ℕ → M
  cand m v w r = o.plus (o.plus (get_or m (r % 64) o.blank) (voted o.turn (out1 r) v)) (voted o.turn (out2 r) w)

  -- a state's best begins lost, and a candidate takes its place only if strictly greater: the even register's first
  unfoldable pub even_at : List M → W → W → ℕ → M
  even_at m v w k = pick (o.less o.lost (cand m v w (2 * k))) (cand m v w (2 * k)) o.lost

  -- then the odd one's
  unfoldable pub odd_at : List M → W → W → ℕ → ℕ
  odd_at m v w k = pick (o.less (even_at m v w k) (cand m v w (2 * k + 1))) 1 0

  unfoldable pub best_at : List M → W → W → ℕ → M
  best_at m v w k = pick (o.less (even_at m v w k) (cand m v w (2 * k + 1))) (cand m v w (2 * k + 1)) (even_at m v w k)

  unfoldable pub next_metrics : List M → W → W → List M
  next_metrics m v w = tab (best_at m v w) 64

  -- the metrics after all votes
  unfoldable pub metrics_after : List M → List W → List M
  metrics_after m [] = m
  metrics_after m (v ∷ []) = m
  metrics_after m (v ∷ w ∷ vs) = metrics_after (next_metrics m v w) vs

  -- traced back from the state k at the end: the state at the start, and the bits on the way
  unfoldable pub origin : List M → List W → ℕ → ℕ
  origin m [] k = k
  origin m (v ∷ []) k = k
  origin m (v ∷ w ∷ vs) k = let j = origin (next_metrics m v w) vs k in (2 * j + odd_at m v w j) % 64

  unfoldable pub path : List M → List W → ℕ → List ℕ
  path m [] k = []
  path m (v ∷ []) k = []
  path m (v ∷ w ∷ vs) k = origin (next_metrics m v w) vs k / 32 ∷ path (next_metrics m v w) vs k

  unfoldable pub starting : List M
  starting = o.begun ∷ replicate 63 o.lost

  -- the bits decoded, and the metric with which state 0 ends
  unfoldable pub decoded : List W → List ℕ
  decoded vs = path starting vs 0

  unfoldable pub strength : List W → M
  strength vs = get_or (metrics_after starting vs) 0 o.blank

-- byte i of bits, most significant first, and n bytes of them
unfoldable pub byte_at : List ℕ → ℕ → ℕ
byte_at bs i =
    get_or bs (8 * i) 0 * 128 + get_or bs (8 * i + 1) 0 * 64 + get_or bs (8 * i + 2) 0 * 32 + get_or bs (8 * i + 3) 0 * 16
    + get_or bs (8 * i + 4) 0 * 8 + get_or bs (8 * i + 5) 0 * 4 + get_or bs (8 * i + 6) 0 * 2 + get_or bs (8 * i + 7) 0

unfoldable pub bytes_of : ℕ → List ℕ → List ℕ
bytes_of n bs = tab (byte_at bs) n
