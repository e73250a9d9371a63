-- How far apart two code words are, by a potential of the difference of the two states. Over any pattern of coded bits that count.
use Rattle.std.specs.Prelude.{◌≡◌, Bool, ◌⊎◌, ℕ, zero, suc, ◌+◌, ◌*◌, ◌/◌, ◌%◌, ◌≤◌, ◌<◌, leb, length, get_or, replicate}
use Rattle.std.proofs.Math.Path.{refl, sym, ap, ap₂, subst}
use Rattle.std.proofs.Common.{◌∙◌, leb→le, lit≤, eqb-true}
use Rattle.std.proofs.Math.Bool.{true, false}
use Rattle.std.proofs.Math.Logic.{inl, inr}
use mathlib.Core.List.{List, [], ◌∷◌}
use native.Mathlib.Omega.{arith}
use Rattle.std.proofs.Math.Dec.{T, eqb}
use Rattle.std.specs.Int.Count.{ones}
use Rattle.std.proofs.lemmas.Bool.{eqb-false}
use Rattle.std.specs.Int.Bits.{differ, bit_xor, xor_self}
use Rattle.std.proofs.lemmas.Nat.{xor_lt}
use Rattle.correction.specs.Demand3.{unlike}
use Rattle.seq.specs.Table.{every, at}
use Rattle.encoder.specs.Bits.{parity-lt}
use Rattle.encoder.specs.Ccsds131.{parity, out1, out2, register, next_state, code, run, Bits, one}
use Rattle.correction.specs.Linear.{parity-xor, register-xor, next-xor}

-- in how many coded bits two words differ, where the coded bit i counts k i times, from the bit i on
unfoldable pub hamming_by : (ℕ → ℕ) → ℕ → List ℕ → List ℕ → ℕ
hamming_by k i [] ds = 0
hamming_by k i (c ∷ cs) [] = 0
hamming_by k i (c ∷ cs) (d ∷ ds) = k i * unlike c d + hamming_by k (suc i) cs ds

unlike-differ : (c d : ℕ) → c < 2 → d < 2 → unlike c d ≡ differ c d
unlike-differ zero zero h k = refl
unlike-differ zero (suc zero) h k = refl
unlike-differ zero (suc (suc d)) h k = absurd (omega arith)
unlike-differ (suc zero) zero h k = refl
unlike-differ (suc zero) (suc zero) h k = refl
unlike-differ (suc zero) (suc (suc d)) h k = absurd (omega arith)
unlike-differ (suc (suc c)) d h k = absurd (omega arith)

-- the outputs of two registers differ as the difference's
unlike-out : (g b d s t : ℕ) → s < 64 → t < 64 → unlike (parity g (register b s)) (parity g (register d t)) ≡ parity g (register (bit_xor b d) (bit_xor s t))
unlike-out g b d s t h k =
    unlike-differ (parity g (register b s)) (parity g (register d t)) (parity-lt g (register b s)) (parity-lt g (register d t))
    ∙ parity-xor g (register b s) (register d t)
    ∙ ap (λ (x : ℕ). parity g x) (register-xor b d s t h k)

-- what the step from the state s by the bit e, from the coded bit i on, counts
abbrev pub step_weight : (ℕ → ℕ) → ℕ → ℕ → ℕ → ℕ
step_weight k i e s = k i * out1 (register e s) + k (suc i) * out2 (register e s)

-- φ i s is at most what any way from the state s to 0 counts
pub record Potential (k : ℕ → ℕ) (φ : ℕ → ℕ → ℕ) (least : ℕ) : Type 0 where
  pub home : (i : ℕ) → φ i 0 ≡ 0
  pub step : (i e s : ℕ) → i % 2 ≡ 0 → e < 2 → s < 64 → φ i s ≤ step_weight k i e s + φ (suc (suc i)) (next_state e s)
  pub leave : (i : ℕ) → i % 2 ≡ 0 → least ≤ step_weight k i 1 0 + φ (suc (suc i)) 32

xor-two : (b d : ℕ) → b < 2 → d < 2 → bit_xor b d < 2
xor-two b d h k = xor_lt 1 b d h k

xor-64 : (s t : ℕ) → s < 64 → t < 64 → bit_xor s t < 64
xor-64 s t h k = xor_lt 6 s t h k

next_64 : (b s : ℕ) → b < 2 → s < 64 → next_state b s < 64
next_64 b s h k = omega arith

chain : {p w₁ w₂ q q' u v r : ℕ} → p ≤ w₁ + w₂ + q → q' ≤ r → q' ≡ q → u ≡ w₁ → v ≡ w₂ → p ≤ u + (v + r)
chain a b c d e = omega arith

later : {p r : ℕ} (u v : ℕ) → p ≤ r → p ≤ u + (v + r)
later u v h = omega arith

apart-bits : (b d : ℕ) → b < 2 → d < 2 → (b ≡ d → ⊥) → bit_xor b d ≡ 1
apart-bits zero zero h k n = absurd (n refl)
apart-bits zero (suc zero) h k n = refl
apart-bits zero (suc (suc d)) h k n = absurd (omega arith)
apart-bits (suc zero) zero h k n = refl
apart-bits (suc zero) (suc zero) h k n = absurd (n refl)
apart-bits (suc zero) (suc (suc d)) h k n = absurd (omega arith)
apart-bits (suc (suc b)) d h k n = absurd (omega arith)

module _ (k : ℕ → ℕ) (φ : ℕ → ℕ → ℕ) (least : ℕ) (P : Potential k φ least) where
  -- two ways from two states to one state
  meet : (i s t : ℕ) (bs ds : List ℕ) → i % 2 ≡ 0 → s < 64 → t < 64 → Bits bs → Bits ds → length bs ≡ length ds → run s bs ≡ run t ds
      → φ i (bit_xor s t) ≤ hamming_by k i (code s bs) (code t ds)
  unfolding hamming_by code run
  meet i s t [] [] I S T n m l e =
      let z : φ i (bit_xor s t) ≡ 0 = ap (λ (y : ℕ). φ i (bit_xor s y)) (sym e) ∙ ap (λ (y : ℕ). φ i y) (xor_self s) ∙ P.home i in
      omega arith
  meet i s t [] (d ∷ ds) I S T n m l e = absurd (omega arith)
  meet i s t (b ∷ bs) [] I S T n m l e = absurd (omega arith)
  meet i s t (b ∷ bs) (d ∷ ds) I S T (one B n) (one D m) l e =
      let x = bit_xor s t in
      let f = bit_xor b d in
      let one-step : φ i x ≤ step_weight k i f x + φ (suc (suc i)) (next_state f x) = P.step i f x I (xor-two b d B D) (xor-64 s t S T) in
      let rest : φ (suc (suc i)) (bit_xor (next_state b s) (next_state d t)) ≤ hamming_by k (suc (suc i)) (code (next_state b s) bs) (code (next_state d t) ds) =
      meet (suc (suc i)) (next_state b s) (next_state d t) bs ds (omega arith) (next_64 b s B S) (next_64 d t D T) n m (omega arith) e in
      let a : φ (suc (suc i)) (bit_xor (next_state b s) (next_state d t)) ≡ φ (suc (suc i)) (next_state f x) =
      ap (λ (y : ℕ). φ (suc (suc i)) y) (next-xor b d s t S T) in
      let u : k i * unlike (out1 (register b s)) (out1 (register d t)) ≡ k i * out1 (register f x) = ap (λ (y : ℕ). k i * y) (unlike-out 0o171 b d s t S T) in
      let v : k (suc i) * unlike (out2 (register b s)) (out2 (register d t)) ≡ k (suc i) * out2 (register f x) =
      ap (λ (y : ℕ). k (suc i) * y) (unlike-out 0o133 b d s t S T) in
      chain one-step rest a u v

  -- two ways from one state to one state are the same, or at least so far apart
  pub split : (i s : ℕ) (bs ds : List ℕ) → i % 2 ≡ 0 → s < 64 → Bits bs → Bits ds → length bs ≡ length ds → run s bs ≡ run s ds
      → (bs ≡ ds) ⊎ (least ≤ hamming_by k i (code s bs) (code s ds))
  unfolding hamming_by code run
  split i s [] [] I S n m l e = inl refl
  split i s [] (d ∷ ds) I S n m l e = absurd (omega arith)
  split i s (b ∷ bs) [] I S n m l e = absurd (omega arith)
  split i s (b ∷ bs) (d ∷ ds) I S (one B n) (one D m) l e =
      go (eqb b d) refl (λ (E : run (next_state b s) bs ≡ run (next_state b s) ds). split (suc (suc i)) (next_state b s) bs ds (omega arith)
      (next_64 b s B S) n m (omega arith) E)
    where
      go : (q : Bool) → eqb b d ≡ q
          → (run (next_state b s) bs ≡ run (next_state b s) ds
          → (bs ≡ ds) ⊎ (least ≤ hamming_by k (suc (suc i)) (code (next_state b s) bs) (code (next_state b s) ds)))
          → (b ∷ bs ≡ d ∷ ds) ⊎ (least ≤ hamming_by k i (code s (b ∷ bs)) (code s (d ∷ ds)))
      go true q rec =
          let E : d ≡ b = sym (eqb-true b d q) in
          elim (rec (e ∙ ap (λ (y : ℕ). run (next_state y s) ds) E)) [
            | inl f ↦ inl (ap₂ (λ (x : ℕ) (xs : List ℕ). x ∷ xs) (sym E) f)
            | inr h ↦
                let g : least ≤ hamming_by k (suc (suc i)) (code (next_state b s) bs) (code (next_state d s) ds) =
                subst (λ (y : ℕ). least ≤ hamming_by k (suc (suc i)) (code (next_state b s) bs) (code (next_state y s) ds)) (sym E) h in
                inr (later (k i * unlike (out1 (register b s)) (out1 (register d s))) (k (suc i) * unlike (out2 (register b s)) (out2 (register d s))) g)
          ]
      go false q rec =
          let f = bit_xor b d in
          let x = bit_xor s s in
          let F : f ≡ 1 = apart-bits b d B D (eqb-false b d q) in
          let rest : φ (suc (suc i)) (bit_xor (next_state b s) (next_state d s)) ≤ hamming_by k (suc (suc i)) (code (next_state b s) bs) (code (next_state d s) ds) =
          meet (suc (suc i)) (next_state b s) (next_state d s) bs ds (omega arith) (next_64 b s B S) (next_64 d s D S) n m (omega arith) e in
          let a : φ (suc (suc i)) (bit_xor (next_state b s) (next_state d s)) ≡ φ (suc (suc i)) 32 =
          ap (λ (y : ℕ). φ (suc (suc i)) y) (next-xor b d s s S S ∙ ap₂ (λ (y z : ℕ). next_state y z) F (xor_self s)) in
          let u : k i * unlike (out1 (register b s)) (out1 (register d s)) ≡ k i * out1 64 =
          ap (λ (y : ℕ). k i * y) (unlike-out 0o171 b d s s S S ∙ ap₂ (λ (y z : ℕ). out1 (register y z)) F (xor_self s)) in
          let v : k (suc i) * unlike (out2 (register b s)) (out2 (register d s)) ≡ k (suc i) * out2 64 =
          ap (λ (y : ℕ). k (suc i) * y) (unlike-out 0o133 b d s s S S ∙ ap₂ (λ (y z : ℕ). out2 (register y z)) F (xor_self s)) in
          inr (chain (P.leave i I) rest a u v)

-- ---- every coded bit counts: ten. By the state, the least weight on a way home

abbrev pub to_home : List ℕ
to_home = 0 ∷ 2 ∷ 3 ∷ 3 ∷ 3 ∷ 5 ∷ 4 ∷ 4 ∷ 5 ∷ 3 ∷ 6 ∷ 6 ∷ 6 ∷ 4 ∷ 5 ∷ 5 ∷ 7 ∷ 5 ∷ 4 ∷ 4 ∷ 6 ∷ 6 ∷ 7 ∷ 7 ∷ 6 ∷ 6 ∷ 5 ∷ 5 ∷ 5 ∷ 7 ∷ 6 ∷ 6
    ∷ 8 ∷ 8 ∷ 7 ∷ 5 ∷ 5 ∷ 5 ∷ 6 ∷ 4 ∷ 7 ∷ 7 ∷ 6 ∷ 6 ∷ 6 ∷ 6 ∷ 7 ∷ 7 ∷ 7 ∷ 7 ∷ 6 ∷ 6 ∷ 6 ∷ 6 ∷ 5 ∷ 7 ∷ 6 ∷ 6 ∷ 7 ∷ 7 ∷ 7 ∷ 7 ∷ 6 ∷ 6 ∷ []

-- the register r = 64 * e + s of a step
step_test : ℕ → ℕ → Bool
step_test r _ = leb (get_or to_home (r % 64) 0) (1 * out1 r + 1 * out2 r + get_or to_home (r / 2) 0)

all_steps : T (every step_test 0 (replicate 128 0))
unfolding step_test parity ones
all_steps = tt

pub ten : Potential (λ _. 1) (λ _ s. get_or to_home s 0) 10
unfolding step_test parity ones
ten = record {
  home = λ i. refl;
  step = λ i e s I E S.
      let r = register e s in
      let R : r < 128 = omega arith in
      let h : r % 64 ≡ s = omega arith in
      subst (λ (x : ℕ). get_or to_home x 0 ≤ step_weight (λ _. 1) i e s + get_or to_home (next_state e s) 0) h
      (leb→le (get_or to_home (r % 64) 0) (1 * out1 r + 1 * out2 r + get_or to_home (r / 2) 0) (at step_test (replicate 128 0) 0 all_steps r R));
  leave = λ i I. lit≤ tt;
}
