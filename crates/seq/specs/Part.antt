-- A part of a list put through a function, the rest as it was: what a `&mut s[a..a + n]` leaves.
use Rattle.std.specs.Prelude.{◌≡◌, ℕ, ◌+◌, ◌≤◌, ◌<◌, take}
use Rattle.std.proofs.Common.{◌∙◌, drop-drop}
use Rattle.std.proofs.Math.Path.{ap}
use mathlib.Core.List.{List, ◌++◌}
use native.Mathlib.Omega.{arith}
use Rattle.std.proofs.Math.ListN.{length, drop, get_or, length-append, length-drop, get_or-append}
use Rattle.std.proofs.Math.Seq.{length-take-le, get_or-append-add, get_or-drop, get_or-take}
use Rattle.seq.specs.Lists.{on_part}

module _ {A : Type 0} where
  -- where f keeps the length of the part, so does on_part that of the list
  pub length-on_part : (a n : ℕ) (f : List A → List A) (d : List A) → a + n ≤ length d → length (f (take n (drop a d))) ≡ n → length (on_part a n f d) ≡ length d
  unfolding on_part
  length-on_part a n f d h l =
      omega (
        arith,
        length-append (take a d) (f (take n (drop a d)) ++ drop n (drop a d)),
        length-append (f (take n (drop a d))) (drop n (drop a d)),
        length-drop n (drop a d),
        length-drop a d,
        length-take-le a d (omega arith),
      )

  -- a place before the part holds what it held
  pub on_part-before : (a n : ℕ) (f : List A → List A) (d : List A) (i : ℕ) (z : A) → a ≤ length d → i < a → get_or (on_part a n f d) i z ≡ get_or d i z
  unfolding on_part
  on_part-before a n f d i z h l =
      let t : i < length (take a d) = omega (arith, length-take-le a d h) in
      get_or-append (take a d) (f (take n (drop a d)) ++ drop n (drop a d)) z i t ∙ get_or-take a d i z l

  -- and so does a place after it
  pub on_part-after : (a n : ℕ) (f : List A → List A) (d : List A) (i : ℕ) (z : A) → a + n ≤ length d → length (f (take n (drop a d))) ≡ n
      → get_or (on_part a n f d) (a + n + i) z ≡ get_or d (a + n + i) z
  unfolding on_part
  on_part-after a n f d i z h l =
      let part = f (take n (drop a d)) in
      let e₁ : length (take a d) ≡ a = length-take-le a d (omega arith) in
      let s₁ : get_or (take a d ++ (part ++ drop n (drop a d))) (length (take a d) + (length part + i)) z
      ≡ get_or (part ++ drop n (drop a d)) (length part + i) z = get_or-append-add (take a d) (part ++ drop n (drop a d)) (length part + i) z in
      let s₂ : get_or (part ++ drop n (drop a d)) (length part + i) z ≡ get_or (drop n (drop a d)) i z = get_or-append-add part (drop n (drop a d)) i z in
      let s₃ : get_or (drop n (drop a d)) i z ≡ get_or d (a + n + i) z = ap (λ (xs : List A). get_or xs i z) (drop-drop n a d) ∙ get_or-drop (a + n) d i z in
      ap (λ (k : ℕ). get_or (take a d ++ (part ++ drop n (drop a d))) k z) (omega arith) ∙ (s₁ ∙ (s₂ ∙ s₃))
