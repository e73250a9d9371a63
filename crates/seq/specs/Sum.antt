-- A sum in index order, over any addition and from any start.
use Rattle.std.specs.Prelude.{◌≡◌}
use Rattle.std.proofs.Math.Path.{refl}
use Prim.Native.Nat.{ℕ, zero, suc, ◌+◌, ◌<◌}
use Rattle.std.proofs.Common.{add-one, arith}
use Rattle.seq.specs.Lists.{sum_to}

module _ {A : Type 0} (plus : A → A → A) (start : A) where
  pub sum-none : (f : ℕ → A) → start ≡ sum_to plus start 0 f
  unfolding sum_to
  sum-none f = refl

  pub sum_more : (f : ℕ → A) (n : ℕ) (t : A) → t ≡ sum_to plus start n f → plus t (f n) ≡ sum_to plus start (n + 1) f
  unfolding sum_to
  sum_more f n t e = rw (add-one, e) refl

  pub sum_same : (f g : ℕ → A) (n : ℕ) → ((i : ℕ) → i < n → f i ≡ g i) → sum_to plus start n f ≡ sum_to plus start n g
  unfolding sum_to
  sum_same f g zero h = refl
  sum_same f g (suc n) h = rw (sum_same f g n (λ i k. h i (omega arith)), h n (omega arith)) refl
