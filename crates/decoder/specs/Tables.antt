-- The outputs of the registers 2 * k and 2 * k + 1 by which state k is reached: a table of the first, and the second its complement.
use Rattle.std.specs.Prelude.{◌≡◌, Bool, true, ◌&&◌, List, [], ◌∷◌, ℕ, zero, suc, ◌+◌, ◌-◌, ◌*◌, ◌%◌, ◌<◌, T, eqb, length, get_or, Float}
use Rattle.std.proofs.Math.Path.{refl, sym, ap, ap₂}
use Rattle.std.proofs.Common.{◌∙◌}
use native.Mathlib.Omega.{arith}
use Rattle.std.proofs.Math.Dec.{eqb→eq}
use Rattle.std.specs.Int.Count.{ones}
use Rattle.std.specs.Float.{nan, inf}
use Rattle.std.specs.Float.Ieee.{binary32, add, sub, neg, lt}
use Rattle.std.specs.Float.Ieee.Fits.{and_l, and_r}
use Rattle.float.specs.Whole.{neg-neg}
use Rattle.seq.specs.Table.{every, at}
use Rattle.encoder.specs.Ccsds131.{parity, out1, out2}
use Rattle.encoder.specs.Bits.{parity-lt}
use Rattle.decoder.specs.Decoder.{floats, pick, voted, cand, even_at, best_at, odd_at}

unfoldable pub outs1 : List ℕ
outs1 =
    0 ∷ 0 ∷ 0 ∷ 0 ∷ 1 ∷ 1 ∷ 1 ∷ 1 ∷ 1 ∷ 1 ∷ 1 ∷ 1 ∷ 0 ∷ 0 ∷ 0 ∷ 0 ∷ 1 ∷ 1 ∷ 1 ∷ 1 ∷ 0 ∷ 0 ∷ 0 ∷ 0 ∷ 0 ∷ 0 ∷ 0 ∷ 0 ∷ 1 ∷ 1 ∷ 1 ∷ 1
    ∷ 1 ∷ 1 ∷ 1 ∷ 1 ∷ 0 ∷ 0 ∷ 0 ∷ 0 ∷ 0 ∷ 0 ∷ 0 ∷ 0 ∷ 1 ∷ 1 ∷ 1 ∷ 1 ∷ 0 ∷ 0 ∷ 0 ∷ 0 ∷ 1 ∷ 1 ∷ 1 ∷ 1 ∷ 1 ∷ 1 ∷ 1 ∷ 1 ∷ 0 ∷ 0 ∷ 0 ∷ 0 ∷ []

unfoldable pub outs2 : List ℕ
outs2 =
    0 ∷ 1 ∷ 0 ∷ 1 ∷ 1 ∷ 0 ∷ 1 ∷ 0 ∷ 1 ∷ 0 ∷ 1 ∷ 0 ∷ 0 ∷ 1 ∷ 0 ∷ 1 ∷ 0 ∷ 1 ∷ 0 ∷ 1 ∷ 1 ∷ 0 ∷ 1 ∷ 0 ∷ 1 ∷ 0 ∷ 1 ∷ 0 ∷ 0 ∷ 1 ∷ 0 ∷ 1
    ∷ 1 ∷ 0 ∷ 1 ∷ 0 ∷ 0 ∷ 1 ∷ 0 ∷ 1 ∷ 0 ∷ 1 ∷ 0 ∷ 1 ∷ 1 ∷ 0 ∷ 1 ∷ 0 ∷ 1 ∷ 0 ∷ 1 ∷ 0 ∷ 0 ∷ 1 ∷ 0 ∷ 1 ∷ 0 ∷ 1 ∷ 0 ∷ 1 ∷ 1 ∷ 0 ∷ 1 ∷ 0 ∷ []

-- the entry k is the output of register 2 * k under the generator g, and that of 2 * k + 1 is its complement
rule : ℕ → ℕ → ℕ → Bool
rule g k c = eqb c (parity g (2 * k)) && eqb (parity g (2 * k + 1)) (1 - parity g (2 * k))

all1 : T (every (rule 0o171) 0 outs1)
unfolding rule outs1 parity ones
all1 = tt

all2 : T (every (rule 0o133) 0 outs2)
unfolding rule outs2 parity ones
all2 = tt

module _ (g : ℕ) (outs : List ℕ) (pass : T (every (rule g) 0 outs)) (k : ℕ) (K : k < length outs) where
  entry-is : get_or outs k 0 ≡ parity g (2 * k)
  unfolding rule
  entry-is = eqb→eq _ _ (and_l (eqb (get_or outs k 0) (parity g (2 * k))) (eqb (parity g (2 * k + 1)) (1 - parity g (2 * k))) (at (rule g) outs 0 pass k K))

  other-is : parity g (2 * k + 1) ≡ 1 - parity g (2 * k)
  unfolding rule
  other-is = eqb→eq _ _ (and_r (eqb (get_or outs k 0) (parity g (2 * k))) (eqb (parity g (2 * k + 1)) (1 - parity g (2 * k))) (at (rule g) outs 0 pass k K))

module _ (k : ℕ) (K : k < 64) where
  pub table1 : get_or outs1 k 0 ≡ out1 (2 * k)
  table1 = entry-is 0o171 outs1 all1 k (unfold outs1 in K)

  pub table2 : get_or outs2 k 0 ≡ out2 (2 * k)
  table2 = entry-is 0o133 outs2 all2 k (unfold outs2 in K)

  pub odd1 : out1 (2 * k + 1) ≡ 1 - out1 (2 * k)
  odd1 = other-is 0o171 outs1 all1 k (unfold outs1 in K)

  pub odd2 : out2 (2 * k + 1) ≡ 1 - out2 (2 * k)
  odd2 = other-is 0o133 outs2 all2 k (unfold outs2 in K)

voted-other : (c : ℕ) (v : Float) → c < 2 → voted neg (1 - c) v ≡ neg (voted neg c v)
voted-other zero v h = refl
voted-other (suc zero) v h = sym (neg-neg v)
voted-other (suc (suc c)) v h = absurd (omega arith)

-- the candidates of state k, with both votes as its even register has them
module _ (m : List Float) (v w : Float) (k : ℕ) (K : k < 64) where
  pub cand-even : add binary32 (add binary32 (get_or m (2 * k % 64) nan) (voted neg (out1 (2 * k)) v)) (voted neg (out2 (2 * k)) w) ≡ cand floats m v w (2 * k)
  unfolding cand
  cand-even = refl

  pub cand-odd : sub binary32 (sub binary32 (get_or m (2 * k % 64 + 1) nan) (voted neg (out1 (2 * k)) v)) (voted neg (out2 (2 * k)) w)
      ≡ cand floats m v w (2 * k + 1)
  unfolding cand sub
  cand-odd =
      let i : 2 * k % 64 + 1 ≡ (2 * k + 1) % 64 = omega arith in
      let p : neg (voted neg (out1 (2 * k)) v) ≡ voted neg (out1 (2 * k + 1)) v =
      sym (ap (λ (c : ℕ). voted neg c v) (odd1 k K) ∙ voted-other (out1 (2 * k)) v (parity-lt 0o171 (2 * k))) in
      let q : neg (voted neg (out2 (2 * k)) w) ≡ voted neg (out2 (2 * k + 1)) w =
      sym (ap (λ (c : ℕ). voted neg c w) (odd2 k K) ∙ voted-other (out2 (2 * k)) w (parity-lt 0o133 (2 * k))) in
      ap (λ (j : ℕ). add binary32 (add binary32 (get_or m j nan) (neg (voted neg (out1 (2 * k)) v))) (neg (voted neg (out2 (2 * k)) w))) i
      ∙ ap₂ (λ (x y : Float). add binary32 (add binary32 (get_or m ((2 * k + 1) % 64) nan) x) y) p q

pub voted-one : (c : ℕ) (v : Float) → (c ≡ 0 → ⊥) → voted neg c v ≡ neg v
voted-one zero v h = absurd (h refl)
voted-one (suc c) v h = refl

-- the winner of state k, by the two tests that the code makes
pub winner-law : (m : List Float) (v w : Float) (k e : ℕ) (a b even : Float) (t : Bool) → k < 64 → e ≡ 2 * k % 64 → a ≡ voted neg (out1 (2 * k)) v
    → b ≡ voted neg (out2 (2 * k)) w
    → even ≡ pick (lt (inf true) (add binary32 (add binary32 (get_or m e nan) a) b)) (add binary32 (add binary32 (get_or m e nan) a) b) (inf true)
    → lt even (sub binary32 (sub binary32 (get_or m (e + 1) nan) a) b) ≡ t
    → (pick t (sub binary32 (sub binary32 (get_or m (e + 1) nan) a) b) even ≡ best_at floats m v w k) × (pick t 1 0 ≡ odd_at floats m v w k)
unfolding best_at odd_at even_at
winner-law m v w k e a b even t K E A B N h =
    let c₀ : add binary32 (add binary32 (get_or m e nan) a) b ≡ cand floats m v w (2 * k) = rw (E, A, B) (cand-even m v w k K) in
    let c₁ : sub binary32 (sub binary32 (get_or m (e + 1) nan) a) b ≡ cand floats m v w (2 * k + 1) = rw (E, A, B) (cand-odd m v w k K) in
    let q : even ≡ even_at floats m v w k = N ∙ ap (λ (x : Float). pick (lt (inf true) x) x (inf true)) c₀ in
    let s : t ≡ lt (even_at floats m v w k) (cand floats m v w (2 * k + 1)) = sym h ∙ ap₂ (λ (x y : Float). lt x y) q c₁ in (
      ap₂ (λ (x y : Float). pick t x y) c₁ q ∙ ap (λ (u : Bool). pick u (cand floats m v w (2 * k + 1)) (even_at floats m v w k)) s,
      ap (λ (u : Bool). pick u 1 0) s,
    )
