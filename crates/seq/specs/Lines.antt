-- Lines of one width w: joined one after another, and pasted each at a place of its own, the rest as it was.
use Rattle.std.specs.Prelude.{◌≡◌, ◌⊎◌, take, drop, get_or}
use Rattle.std.proofs.Math.Path.{refl, sym, ap₂}
use Rattle.std.proofs.Common.{◌∙◌, ap, suc-mul, zero-mul, eq-or-lt_of_le, length-drop, take_all, length-take-le, get_or-append-add, get_or-drop, get_or-take, ext_get_or}
use Rattle.std.proofs.Math.Logic.{inl, inr}
use mathlib.Core.List.{List, ◌++◌}
use Prim.Native.Nat.{ℕ, zero, suc, ◌+◌, ◌-◌, ◌*◌, ◌≤◌, ◌<◌}
use Rattle.std.proofs.Math.Numerals.{add-one}
use Rattle.std.proofs.Math.Nat.{mul_comm}
use native.Mathlib.Omega.{arith}
use Rattle.std.proofs.Math.ListN.{length, length-append, get_or-append}
use Rattle.std.proofs.Math.Seq.{paste, length-paste}
use Rattle.std.proofs.lemmas.List.Edits.{take-paste, drop-paste}
use Rattle.seq.specs.Tab.{length-tab, get_or-tab}
use Rattle.seq.specs.Lists.{tab, lines, pasted}
use Rattle.seq.specs.Rows.{row_fits}

module _ {A : Type 0} where
  -- the n places of d from `at` on, as a table
  pub part-tab : (d : List A) (at n : ℕ) (z : A) → at + n ≤ length d → take n (drop at d) ≡ tab (λ i. get_or d (at + i) z) n
  part-tab d at n z h =
      let l : length (take n (drop at d)) ≡ n = length-take-le n (drop at d) (omega (arith, length-drop at d)) in
      ext_get_or z (take n (drop at d)) (tab (λ i. get_or d (at + i) z) n) (l ∙ sym (length-tab (λ i. get_or d (at + i) z) n))
      (λ i k. let g : i < n = omega arith in get_or-take n (drop at d) i z g ∙ get_or-drop at d i z ∙ sym (get_or-tab (λ j. get_or d (at + j) z) n i z g))

  -- ---- joined

  pub lines_same : (l m : ℕ → List A) (n : ℕ) → ((r : ℕ) → r < n → l r ≡ m r) → lines l n ≡ lines m n
  unfolding lines
  lines_same l m zero h = refl
  lines_same l m (suc n) h = ap₂ (λ (xs ys : List A). xs ++ ys) (lines_same l m n (λ r k. h r (omega arith))) (h n (omega arith))

  module _ (w : ℕ) (l : ℕ → List A) where
    -- a list that starts with n lines, and a turn of a loop that pastes one more
    pub lines_more : (n : ℕ) (d : List A) → n * w + w ≤ length d → length (l n) ≡ w → take (n * w) d ≡ lines l n
        → take ((n + 1) * w) (paste d (n * w) (l n) w) ≡ lines l (n + 1)
    unfolding lines
    lines_more n d h k e =
        rw (add-one, suc-mul)
        (take-paste d (n * w) (l n) w (omega arith) (omega arith) ∙ ap₂ (λ (xs ys : List A). xs ++ ys) e (take_all w (l n) (omega arith)))

    module _ (wide : (r : ℕ) → length (l r) ≡ w) where
      pub length-lines : (n : ℕ) → length (lines l n) ≡ n * w
      unfolding lines
      length-lines zero = sym (zero-mul w)
      length-lines (suc n) = length-append (lines l n) (l n) ∙ (ap₂ ◌+◌ (length-lines n) (wide n) ∙ sym (suc-mul n w))

      pub get_or-lines : (n r c : ℕ) (z : A) → r < n → c < w → get_or (lines l n) (r * w + c) z ≡ get_or (l r) c z
      unfolding lines
      get_or-lines zero r c z h g = absurd (omega arith)
      get_or-lines (suc n) r c z h g =
          elim (eq-or-lt_of_le h) [
            | inl e ↦
                let f : r ≡ n = omega arith in
                rw (f, ← length-lines n) (get_or-append-add (lines l n) (l n) c z)
            | inr k ↦
                let m : r < n = omega arith in
                let i : r * w + c < length (lines l n) = omega (arith, length-lines n, row_fits r w n m, mul_comm w n) in
                get_or-append (lines l n) (l n) z (r * w + c) i ∙ get_or-lines n r c z m g
          ]

  -- ---- pasted

  module _ (d : List A) (at : ℕ) (s : List A) (n : ℕ) (room : at + n ≤ length d) (long : n ≤ length s) where
    head : (q : ℕ) (z : A) → q < at + n → get_or (paste d at s n) q z ≡ get_or (take at d ++ take n s) q z
    head q z h = sym (get_or-take (at + n) (paste d at s n) q z h) ∙ ap (λ (xs : List A). get_or xs q z) (take-paste d at s n (omega arith) long)

    pub paste-at : (c : ℕ) (z : A) → c < n → get_or (paste d at s n) (at + c) z ≡ get_or s c z
    paste-at c z h =
        let e : length (take at d) ≡ at = length-take-le at d (omega arith) in
        head (at + c) z (omega arith)
        ∙ (ap (λ (k : ℕ). get_or (take at d ++ take n s) (k + c) z) (sym e) ∙ (get_or-append-add (take at d) (take n s) c z ∙ get_or-take n s c z h))

    pub paste-other : (q : ℕ) (z : A) → (q < at) ⊎ (at + n ≤ q) → get_or (paste d at s n) q z ≡ get_or d q z
    paste-other q z (inl h) =
        let k : q < length (take at d) = omega (arith, length-take-le at d (omega arith)) in
        head q z (omega arith) ∙ (get_or-append (take at d) (take n s) z q k ∙ get_or-take at d q z h)
    paste-other q z (inr h) =
        let e : at + n + (q - (at + n)) ≡ q = omega arith in
        rw (← e) (sym (get_or-drop (at + n) (paste d at s n) (q - (at + n)) z)
        ∙ (ap (λ (xs : List A). get_or xs (q - (at + n)) z) (drop-paste d at s n (omega arith) long) ∙ get_or-drop (at + n) d (q - (at + n)) z))

  pub pasted-none : (w : ℕ) (at : ℕ → ℕ) (l : ℕ → List A) (d : List A) → d ≡ pasted w at l 0 d
  unfolding pasted
  pasted-none w at l d = refl

  pub pasted-more : (w : ℕ) (at : ℕ → ℕ) (l : ℕ → List A) (n : ℕ) (d : List A) → paste (pasted w at l n d) (at n) (l n) w ≡ pasted w at l (n + 1) d
  unfolding pasted
  pasted-more w at l n d = rw add-one refl

  module _ (w : ℕ) (at : ℕ → ℕ) (l : ℕ → List A) (wide : (r : ℕ) → length (l r) ≡ w) (d : List A) where
    pub length-pasted : (n : ℕ) → ((r : ℕ) → r < n → at r + w ≤ length d) → length (pasted w at l n d) ≡ length d
    unfolding pasted
    length-pasted zero room = refl
    length-pasted (suc n) room =
        let e : length (pasted w at l n d) ≡ length d = length-pasted n (λ r k. room r (omega arith)) in
        length-paste (pasted w at l n d) (at n) (l n) w (omega (arith, room n (omega arith))) (omega (arith, wide n)) ∙ e

    -- a place outside the lines holds what it held
    pub pasted-other : (n : ℕ) → ((r : ℕ) → r < n → at r + w ≤ length d) → (q : ℕ) (z : A) → ((r : ℕ) → r < n → (q < at r) ⊎ (at r + w ≤ q))
        → get_or (pasted w at l n d) q z ≡ get_or d q z
    unfolding pasted
    pasted-other zero room q z out = refl
    pasted-other (suc n) room q z out =
        let e : length (pasted w at l n d) ≡ length d = length-pasted n (λ r k. room r (omega arith)) in
        paste-other (pasted w at l n d) (at n) (l n) w (omega (arith, room n (omega arith))) (omega (arith, wide n)) q z (out n (omega arith))
        ∙ pasted-other n (λ r k. room r (omega arith)) q z (λ r k. out r (omega arith))

    -- a place in a line, where the lines come one behind the other, holds the line's value
    pub pasted_at : (n : ℕ) → ((r : ℕ) → r < n → at r + w ≤ length d) → ((r s : ℕ) → r < s → s < n → at r + w ≤ at s) → (r c : ℕ) (z : A) → r < n → c < w
        → get_or (pasted w at l n d) (at r + c) z ≡ get_or (l r) c z
    unfolding pasted
    pasted_at zero room apart r c z h g = absurd (omega arith)
    pasted_at (suc n) room apart r c z h g =
        let e : length (pasted w at l n d) ≡ length d = length-pasted n (λ r k. room r (omega arith)) in
        let R : at n + w ≤ length (pasted w at l n d) = omega (arith, room n (omega arith)) in
        let L : w ≤ length (l n) = omega (arith, wide n) in
        elim (eq-or-lt_of_le h) [
          | inl i ↦ (let f : r ≡ n = omega arith in rw f (paste-at (pasted w at l n d) (at n) (l n) w R L c z g))
          | inr k ↦
              let m : r < n = omega arith in
              paste-other (pasted w at l n d) (at n) (l n) w R L (at r + c) z (inl (omega (arith, apart r n m (omega arith))))
              ∙ pasted_at n (λ r k. room r (omega arith)) (λ r s k j. apart r s k (omega arith)) r c z m g
        ]
