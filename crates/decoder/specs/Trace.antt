-- The decoder's path by its packed decisions, and its metrics and decisions one step at a time. Over any sums.
use Rattle.std.specs.Prelude.{◌≡◌, Bool, length}
use Rattle.std.proofs.Math.Path.{refl, ap, ap₂}
use Rattle.std.proofs.Common.{◌∙◌}
use Rattle.std.proofs.Math.Bool.{true, false}
use mathlib.Core.List.{List, [], ◌∷◌, ◌++◌}
use Prim.Native.Nat.{ℕ, zero, suc, ◌+◌, ◌*◌, ◌/◌, ◌<◌}
use native.Mathlib.Omega.{arith}
use Rattle.decoder.specs.Packed.{unpacked}
use Rattle.decoder.specs.Decisions.{packed, decision_rows, traced_from, traced_path}
use Rattle.encoder.specs.Ccsds131.{Bits, none, one}
use Rattle.decoder.specs.Decoder.{Sums, pick, cand, even_at, odd_at, next_metrics, metrics_after, origin, path, starting, decoded}

module _ {M W : Type 0} (o : Sums M W) where
  pub odd-two : (m : List M) (v w : W) (k : ℕ) → odd_at o m v w k < 2
  unfolding odd_at
  odd-two m v w k = go (o.less (even_at o m v w k) (cand o m v w (2 * k + 1)))
    where
      go : (b : Bool) → pick b 1 0 < 2
      go true = omega arith
      go false = omega arith

  pub origin-lt : (m : List M) (vs : List W) (k : ℕ) → k < 64 → origin o m vs k < 64
  unfolding origin
  origin-lt m [] k h = h
  origin-lt m (v ∷ []) k h = h
  origin-lt m (v ∷ w ∷ vs) k h = omega arith

  pub path-bits : (m : List M) (vs : List W) (k : ℕ) → k < 64 → Bits (path o m vs k)
  unfolding path
  path-bits m [] k h = none
  path-bits m (v ∷ []) k h = none
  path-bits m (v ∷ w ∷ vs) k h =
      let J : origin o (next_metrics o m v w) vs k / 32 < 2 = omega (arith, origin-lt (next_metrics o m v w) vs k h) in
      one J (path-bits (next_metrics o m v w) vs k h)

  -- ---- packed decisions

  pub origin-rows : (m : List M) (vs : List W) (k : ℕ) → k < 64 → traced_from (decision_rows o m vs) k ≡ origin o m vs k
  unfolding origin decision_rows traced_from
  origin-rows m [] k h = refl
  origin-rows m (v ∷ []) k h = refl
  origin-rows m (v ∷ w ∷ vs) k h =
      let j = origin o (next_metrics o m v w) vs k in
      rw (origin-rows (next_metrics o m v w) vs k h, unpacked (odd_at o m v w) (odd-two m v w) 64 j (origin-lt (next_metrics o m v w) vs k h)) refl

  pub path-rows : (m : List M) (vs : List W) (k : ℕ) → k < 64 → traced_path (decision_rows o m vs) k ≡ path o m vs k
  unfolding path decision_rows traced_path
  path-rows m [] k h = refl
  path-rows m (v ∷ []) k h = refl
  path-rows m (v ∷ w ∷ vs) k h = ap₂ (λ (x : ℕ) (xs : List ℕ). x / 32 ∷ xs) (origin-rows (next_metrics o m v w) vs k h) (path-rows (next_metrics o m v w) vs k h)

  -- ---- one step more at the end

  pub metrics_after-more : (m : List M) (vs : List W) (n : ℕ) (v w : W) → length vs ≡ 2 * n
      → metrics_after o m (vs ++ (v ∷ w ∷ [])) ≡ next_metrics o (metrics_after o m vs) v w
  unfolding metrics_after
  metrics_after-more m [] n v w h = refl
  metrics_after-more m (x ∷ []) n v w h = absurd (omega arith)
  metrics_after-more m (x ∷ y ∷ vs) zero v w h = absurd (omega arith)
  metrics_after-more m (x ∷ y ∷ vs) (suc n) v w h = metrics_after-more (next_metrics o m x y) vs n v w (omega arith)

  pub decision_rows-more : (m : List M) (vs : List W) (n : ℕ) (v w : W) → length vs ≡ 2 * n
      → decision_rows o m (vs ++ (v ∷ w ∷ [])) ≡ decision_rows o m vs ++ (packed (odd_at o (metrics_after o m vs) v w) 64 ∷ [])
  unfolding metrics_after decision_rows
  decision_rows-more m [] n v w h = refl
  decision_rows-more m (x ∷ []) n v w h = absurd (omega arith)
  decision_rows-more m (x ∷ y ∷ vs) zero v w h = absurd (omega arith)
  decision_rows-more m (x ∷ y ∷ vs) (suc n) v w h =
      ap (λ (ds : List ℕ). packed (odd_at o m x y) 64 ∷ ds) (decision_rows-more (next_metrics o m x y) vs n v w (omega arith))

-- what the code's two loops make, put together
pub decoded-by : {M W : Type 0} (o : Sums M W) (vs : List W) (ds bs : List ℕ) (end : ℕ) → end ≡ 0 → ds ≡ decision_rows o (starting o) vs
    → bs ≡ traced_path ds end → bs ≡ decoded o vs
unfolding decoded
decoded-by o vs ds bs end e p q = q ∙ ap₂ traced_path p e ∙ path-rows o (starting o) vs 0 (omega arith)

pub decoded-bits : {M W : Type 0} (o : Sums M W) (vs : List W) → Bits (decoded o vs)
unfolding decoded
decoded-bits o vs = path-bits o (starting o) vs 0 (omega arith)
