-- An array made by a closure, place by place, as by `std::array::from_fn`: where each call gives f of its place, and leaves the
-- closure as it was, the array is the table of f.
use Rattle.std.specs.Prelude.{◌≡◌, List, ℕ, zero, suc, ◌+◌, ◌<◌, get_or}
use Rattle.std.proofs.Common.{◌∙◌, sym, subst, arith, add-zero, ext_get_or}
use Rattle.std.specs.Array.{IsFromFnResult, IsFromFnResultFrom}
use denote.Param.Members.{Mut, Called}
use Rattle.seq.specs.Lists.{tab}
use Rattle.seq.specs.Tab.{length-tab, get_or-tab}

module _ {C A : Type 0} (g : Mut C (ℕ × Unit {0}) A) (f : ℕ → A) (c : C)
    (gives : (i : ℕ) (y : A) (d : C) → Called g c (i, tt) y d → (d ≡ c) × (y ≡ f i)) where
  made-from : (xs : List A) (i n k : ℕ) (z : A) → k < n → IsFromFnResultFrom g c xs i n → get_or xs (i + k) z ≡ f (i + k)
  made-from xs i zero k z h m = absurd (omega arith)
  made-from xs i (suc n) zero z h m = rw add-zero (m.2.1 z ∙ (gives i m.1 m.0 m.3).1)
  made-from xs i (suc n) (suc k) z h m =
      let there : i + 1 + k ≡ i + suc k = omega arith in
      let rest = subst (λ (d : C). IsFromFnResultFrom g d xs (i + 1) n) (gives i m.1 m.0 m.3).0 m.4 in
      rw there at (made-from xs (i + 1) n k z (omega arith) rest)

  pub array_made : (xs : List A) (n : ℕ) → IsFromFnResult g c xs n → xs ≡ tab f n
  array_made xs n m =
      ext_get_or (f 0) xs (tab f n) (m.long ∙ sym (length-tab f n))
      (λ k h.
      let below : k < n = omega (arith, m.long) in
      place k below ∙ sym (get_or-tab f n k (f 0) below))
    where
      place : (k : ℕ) → k < n → get_or xs k (f 0) ≡ f k
      place k h = let zero_on : 0 + k ≡ k = omega arith in rw zero_on at (made-from xs 0 n k (f 0) h m.each)
