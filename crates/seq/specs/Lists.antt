-- Lists by their places: made by a function, filled up to a place, put together of lines, changed in a part; and sums in index
-- order. Definitions only.
use Rattle.std.specs.Prelude.{List, [], ◌∷◌, ◌++◌, ℕ, zero, suc, take, drop}
use Rattle.std.proofs.Math.Seq.{paste}

module _ {A : Type 0} where
  -- f 0, f 1, .. f (n - 1)
  unfoldable pub tab : (ℕ → A) → ℕ → List A
  tab f zero = []
  tab f (suc n) = tab f n ++ (f n ∷ [])

  -- the list d with its first n places made by f
  unfoldable pub filled : (ℕ → A) → ℕ → List A → List A
  filled f n d = tab f n ++ drop n d

  -- l 0, l 1, .. l (n - 1), one after another
  unfoldable pub lines : (ℕ → List A) → ℕ → List A
  lines l zero = []
  lines l (suc n) = lines l n ++ l n

  -- d with l 0 pasted at `at 0`, l 1 at `at 1`, and so on to l (n - 1), w places each
  unfoldable pub pasted : ℕ → (ℕ → ℕ) → (ℕ → List A) → ℕ → List A → List A
  pasted w at l zero d = d
  pasted w at l (suc n) d = paste (pasted w at l n d) (at n) (l n) w

  -- the n places of d from a on, put through f
  unfoldable pub on_part : ℕ → ℕ → (List A → List A) → List A → List A
  on_part a n f d = take a d ++ (f (take n (drop a d)) ++ drop n (drop a d))

module _ {A : Type 0} (plus : A → A → A) (start : A) where
  -- (..((start + f 0) + f 1) + ..) + f (n - 1)
  unfoldable pub sum_to : ℕ → (ℕ → A) → A
  sum_to zero f = start
  sum_to (suc n) f = plus (sum_to n f) (f n)
