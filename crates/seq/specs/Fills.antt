-- A loop that fills a table: place i of d is set to f i, i rising from 0 to n. `Fills` is its invariant, and the three laws are its
-- start, a turn and its end.
use Rattle.std.specs.Prelude.{◌≡◌, List, ℕ, ◌+◌, ◌≤◌, ◌<◌, length, take, set}
use Rattle.std.proofs.Math.Path.{refl}
use Rattle.std.proofs.Common.{◌∙◌, arith, length-set}
use Rattle.seq.specs.Lists.{tab}
use Rattle.seq.specs.Tab.{prefix-more, prefix-all}

module _ {A : Type 0} where
  -- the first i of n places are made
  pub record Fills (f : ℕ → A) (n i : ℕ) (d : List A) : Type 0 where
    pub most : i ≤ n
    pub room : length d ≡ n
    pub made : take i d ≡ tab f i

  pub fills-none : (f : ℕ → A) (n : ℕ) (d : List A) → length d ≡ n → Fills f n 0 d
  unfolding tab
  fills-none f n d l = record { most = omega arith; room = l; made = refl }

  pub fills-more : {f : ℕ → A} {n i : ℕ} {d : List A} {v : A} → Fills f n i d → i < n → v ≡ f i → Fills f n (i + 1) (set d i v)
  fills-more {f} {n} {i} {d} {v} h l e = record {
    most = omega arith;
    room = length-set d i v ∙ h.room;
    made = prefix-more f i v d (omega arith) e h.made;
  }

  pub fills-all : {f : ℕ → A} {n i : ℕ} {d : List A} → Fills f n i d → n ≤ i → d ≡ tab f n
  fills-all {f} {n} {i} {d} h l =
      let e : i ≡ n = omega arith in
      prefix-all f n d h.room (rw e at h.made)
