-- Over whole numbers the decoder is best: no path from state 0 to state 0 scores above the one that it returns.
use Rattle.std.specs.Prelude.{◌≡◌, Bool, true, false, not, T, length, replicate, ℤ, pos, ◌+ℤ◌, ◌≤ℤ◌}
use Rattle.std.proofs.Math.Path.{refl, ap}
use Rattle.std.proofs.Common.{sym, ◌∙◌, subst}
use mathlib.Core.List.{List, [], ◌∷◌}
use Prim.Native.Nat.{ℕ, zero, suc, ◌+◌, ◌*◌, ◌/◌, ◌%◌, ◌<◌}
use native.Mathlib.Omega.{arith}
use Rattle.std.proofs.Math.ListN.{get_or}
use Rattle.std.proofs.lemmas.List.{get_or-replicate, length-replicate}
use Rattle.std.proofs.Math.IntN.{neg_ℤ, +ℤ_assoc, +ℤ_idl, +ℤ_idr}
use Rattle.std.specs.Int.Signed.{lt_z_yes, lt_z_no, ≤ℤ_refl}
use Rattle.float_laws.specs.Score.{Score, out, at, plus, lt_s}
use Rattle.seq.specs.Tab.{get_or-tab}
use Rattle.encoder.specs.Ccsds131.{out1, out2, register, next_state, code, run, Bits, none, one}
use Rattle.correction.specs.Order.{≤ℤ-trans, ≤ℤ-add, <ℤ-le}
use Rattle.decoder.specs.Trace.{odd-two, origin-lt, path-bits}
use Rattle.decoder.specs.Decoder.{Sums, pick, voted, cand, even_at, odd_at, best_at, next_metrics, metrics_after, origin, path, starting, decoded, strength}

-- the sums over whole numbers, with what a lost path has below all of them
abbrev pub wholes : Sums Score ℤ
wholes = record { blank = out; lost = out; begun = at (pos 0); plus = plus; turn = neg_ℤ; less = lt_s }

-- a word's score: the sum of the votes where it has a 0, less the sum where it has a 1
unfoldable pub score : List ℕ → List ℤ → ℤ
score [] zs = pos 0
score (c ∷ cs) [] = pos 0
score (c ∷ cs) (z ∷ zs) = voted neg_ℤ c z +ℤ score cs zs

-- ---- the path, over any sums

module _ {M W : Type 0} (o : Sums M W) where
  pub path-length : (m : List M) (vs : List W) (n k : ℕ) → length vs ≡ 2 * n → length (path o m vs k) ≡ n
  unfolding path
  path-length m [] n k h = omega arith
  path-length m (v ∷ []) n k h = absurd (omega arith)
  path-length m (v ∷ w ∷ vs) zero k h = absurd (omega arith)
  path-length m (v ∷ w ∷ vs) (suc n) k h = ap suc (path-length (next_metrics o m v w) vs n k (omega arith))

  pub path-run : (m : List M) (vs : List W) (n k : ℕ) → length vs ≡ 2 * n → k < 64 → run (origin o m vs k) (path o m vs k) ≡ k
  unfolding path origin run
  path-run m [] n k l h = refl
  path-run m (v ∷ []) n k l h = absurd (omega arith)
  path-run m (v ∷ w ∷ vs) zero k l h = absurd (omega arith)
  path-run m (v ∷ w ∷ vs) (suc n) k l h =
      let j = origin o (next_metrics o m v w) vs k in
      let J : j < 64 = origin-lt o (next_metrics o m v w) vs k h in
      let d = odd_at o m v w j in
      let D : d < 2 = odd-two o m v w j in
      let e : next_state (j / 32) ((2 * j + d) % 64) ≡ j = omega arith in
      rw e (path-run (next_metrics o m v w) vs n k (omega arith) h)

-- ---- the order of metrics

abbrev pub LeS : Score → Score → Type 0
LeS out t = Unit
LeS (at z) out = ⊥
LeS (at z) (at w) = z ≤ℤ w

LeS-refl : (s : Score) → LeS s s
LeS-refl out = tt
LeS-refl (at z) = ≤ℤ_refl z

LeS-trans : (s t u : Score) → LeS s t → LeS t u → LeS s u
LeS-trans out t u h k = tt
LeS-trans (at z) out u h k = absurd h
LeS-trans (at z) (at w) out h k = absurd k
LeS-trans (at z) (at w) (at x) h k = ≤ℤ-trans h k

LeS-plus : (s t : Score) (c : ℤ) → LeS s t → LeS (plus s c) (plus t c)
LeS-plus out t c h = tt
LeS-plus (at z) out c h = absurd h
LeS-plus (at z) (at w) c h = ≤ℤ-add c h

pub plus-plus : (s : Score) (a b : ℤ) → plus (plus s a) b ≡ plus s (a +ℤ b)
plus-plus out a b = refl
plus-plus (at z) a b = ap at (+ℤ_assoc z a b)

pub plus_none : (s : Score) → plus s (pos 0) ≡ s
plus_none out = refl
plus_none (at z) = ap at (+ℤ_idr z)

lt_s-yes : (s t : Score) → T (lt_s s t) → LeS s t
lt_s-yes out t h = tt
lt_s-yes (at z) out h = absurd h
lt_s-yes (at z) (at w) h = <ℤ-le (lt_z_yes h)

lt_s-no : (s t : Score) → T (not (lt_s s t)) → LeS t s
lt_s-no out out h = tt
lt_s-no out (at w) h = absurd h
lt_s-no (at z) out h = tt
lt_s-no (at z) (at w) h = lt_z_no h

-- the winner is at least each of the two
pub pick_even : (s t : Score) → LeS s (pick (lt_s s t) t s)
pick_even s t = go (lt_s s t) (lt_s-yes s t)
  where
    go : (b : Bool) → (T b → LeS s t) → LeS s (pick b t s)
    go true h = h tt
    go false h = LeS-refl s

pub pick_odd : (s t : Score) → LeS t (pick (lt_s s t) t s)
pick_odd s t = go (lt_s s t) (lt_s-no s t)
  where
    go : (b : Bool) → (T (not b) → LeS t s) → LeS t (pick b t s)
    go true h = LeS-refl t
    go false h = h tt

-- over whole numbers the even candidate takes a lost state's place in value, so the rule is: the odd one wins only if strictly greater
lost-less : (s : Score) → pick (lt_s out s) s out ≡ s
lost-less out = refl
lost-less (at z) = refl

module _ (m : List Score) (v w : ℤ) where
  even_is : (k : ℕ) → even_at wholes m v w k ≡ cand wholes m v w (2 * k)
  unfolding even_at
  even_is k = lost-less (cand wholes m v w (2 * k))

  pub odd_is : (k : ℕ) → odd_at wholes m v w k ≡ pick (lt_s (cand wholes m v w (2 * k)) (cand wholes m v w (2 * k + 1))) 1 0
  unfolding odd_at
  odd_is k = ap (λ (s : Score). pick (lt_s s (cand wholes m v w (2 * k + 1))) 1 0) (even_is k)

  pub best-is : (k : ℕ)
      → best_at wholes m v w k
      ≡ pick (lt_s (cand wholes m v w (2 * k)) (cand wholes m v w (2 * k + 1))) (cand wholes m v w (2 * k + 1)) (cand wholes m v w (2 * k))
  unfolding best_at
  best-is k = ap (λ (s : Score). pick (lt_s s (cand wholes m v w (2 * k + 1))) (cand wholes m v w (2 * k + 1)) s) (even_is k)

  -- every register's candidate is at most the winner of the state that it leads to
  at_most : (r : ℕ) → LeS (cand wholes m v w r) (best_at wholes m v w (r / 2))
  at_most r = rw (best-is (r / 2)) (go (r % 2) refl)
    where
      go : (d : ℕ) → r % 2 ≡ d
          → LeS (cand wholes m v w r)
          (pick (lt_s (cand wholes m v w (2 * (r / 2))) (cand wholes m v w (2 * (r / 2) + 1))) (cand wholes m v w (2 * (r / 2) + 1))
          (cand wholes m v w (2 * (r / 2))))
      go zero e =
          let f : 2 * (r / 2) ≡ r = omega arith in
          subst (λ (x : ℕ). LeS (cand wholes m v w x)
          (pick (lt_s (cand wholes m v w (2 * (r / 2))) (cand wholes m v w (2 * (r / 2) + 1))) (cand wholes m v w (2 * (r / 2) + 1))
          (cand wholes m v w (2 * (r / 2))))) f (pick_even (cand wholes m v w (2 * (r / 2))) (cand wholes m v w (2 * (r / 2) + 1)))
      go (suc d) e =
          let f : 2 * (r / 2) + 1 ≡ r = omega arith in
          subst (λ (x : ℕ). LeS (cand wholes m v w x)
          (pick (lt_s (cand wholes m v w (2 * (r / 2))) (cand wholes m v w (2 * (r / 2) + 1))) (cand wholes m v w (2 * (r / 2) + 1))
          (cand wholes m v w (2 * (r / 2))))) f (pick_odd (cand wholes m v w (2 * (r / 2))) (cand wholes m v w (2 * (r / 2) + 1)))

  -- the winner is a candidate
  is-cand : (k : ℕ) → best_at wholes m v w k ≡ cand wholes m v w (2 * k + odd_at wholes m v w k)
  is-cand k = best-is k ∙ go (lt_s (cand wholes m v w (2 * k)) (cand wholes m v w (2 * k + 1))) ∙ ap (λ (d : ℕ). cand wholes m v w (2 * k + d)) (sym (odd_is k))
    where
      go : (b : Bool) → pick b (cand wholes m v w (2 * k + 1)) (cand wholes m v w (2 * k)) ≡ cand wholes m v w (2 * k + pick b 1 0)
      go true = refl
      go false = ap (λ (x : ℕ). cand wholes m v w x) (let e : 2 * k ≡ 2 * k + 0 = omega arith in e)

  -- a candidate followed by a score is the register's state, followed by the score with the two votes
  pub cand-then : (r : ℕ) (z : ℤ) → plus (cand wholes m v w r) z ≡ plus (get_or m (r % 64) out) (voted neg_ℤ (out1 r) v +ℤ (voted neg_ℤ (out2 r) w +ℤ z))
  unfolding cand
  cand-then r z =
      let s = get_or m (r % 64) out in
      let a = voted neg_ℤ (out1 r) v in
      let b = voted neg_ℤ (out2 r) w in
      plus-plus (plus s a) b z ∙ plus-plus s a (b +ℤ z)

  step-at : (k : ℕ) → k < 64 → get_or (next_metrics wholes m v w) k out ≡ best_at wholes m v w k
  unfolding next_metrics
  step-at k h = get_or-tab (best_at wholes m v w) 64 k out h

-- ---- no path scores above the metric of the state in which it ends

pub upper : (m : List Score) (bs : List ℕ) (zs : List ℤ) (i : ℕ) → i < 64 → Bits bs → length zs ≡ 2 * length bs
    → LeS (plus (get_or m i out) (score (code i bs) zs)) (get_or (metrics_after wholes m zs) (run i bs) out)
unfolding score code run metrics_after
upper m [] [] i h o l = rw (plus_none (get_or m i out)) (LeS-refl (get_or m i out))
upper m [] (v ∷ zs) i h o l = absurd (omega arith)
upper m (b ∷ bs) [] i h o l = absurd (omega arith)
upper m (b ∷ bs) (v ∷ []) i h o l = absurd (omega arith)
upper m (b ∷ bs) (v ∷ w ∷ zs) i h (one o os) l =
    let r = register b i in
    let k = next_state b i in
    let K : k < 64 = omega arith in
    let I : r % 64 ≡ i = omega arith in
    let z = score (code k bs) zs in
    let one-step : LeS (plus (cand wholes m v w r) z) (plus (get_or (next_metrics wholes m v w) k out) z) =
    rw (step-at m v w k K) (LeS-plus (cand wholes m v w r) (best_at wholes m v w k) z (at_most m v w r)) in
    let first : LeS (plus (get_or m i out) (voted neg_ℤ (out1 r) v +ℤ (voted neg_ℤ (out2 r) w +ℤ z))) (plus (get_or (next_metrics wholes m v w) k out) z) =
    subst (λ (x : ℕ). LeS (plus (get_or m x out) (voted neg_ℤ (out1 r) v +ℤ (voted neg_ℤ (out2 r) w +ℤ z))) (plus (get_or (next_metrics wholes m v w) k out) z)) I
    (rw (cand-then m v w r z) at one-step) in
    LeS-trans (plus (get_or m i out) (voted neg_ℤ (out1 r) v +ℤ (voted neg_ℤ (out2 r) w +ℤ z))) (plus (get_or (next_metrics wholes m v w) k out) z)
    (get_or (metrics_after wholes (next_metrics wholes m v w) zs) (run k bs) out) first (upper (next_metrics wholes m v w) bs zs k K os (omega arith))

-- ---- the path traced back leads to the state, and its score makes the metric

pub back_register : (j d : ℕ) → j < 64 → d < 2 → register (j / 32) ((2 * j + d) % 64) ≡ 2 * j + d
back_register j d h e = omega arith

pub lower : (m : List Score) (zs : List ℤ) (n k : ℕ) → length zs ≡ 2 * n → k < 64
    → get_or (metrics_after wholes m zs) k out ≡ plus (get_or m (origin wholes m zs k) out) (score (code (origin wholes m zs k) (path wholes m zs k)) zs)
unfolding score code metrics_after origin path
lower m [] n k l h = sym (plus_none (get_or m k out))
lower m (v ∷ []) n k l h = absurd (omega arith)
lower m (v ∷ w ∷ zs) zero k l h = absurd (omega arith)
lower m (v ∷ w ∷ zs) (suc n) k l h =
    let j = origin wholes (next_metrics wholes m v w) zs k in
    let J : j < 64 = origin-lt wholes (next_metrics wholes m v w) zs k h in
    let d = odd_at wholes m v w j in
    let D : d < 2 = odd-two wholes m v w j in
    let r = 2 * j + d in
    let z = score (code j (path wholes (next_metrics wholes m v w) zs k)) zs in
    let R : register (j / 32) (r % 64) ≡ r = back_register j d J D in
    let K : next_state (j / 32) (r % 64) ≡ j = omega arith in
    lower (next_metrics wholes m v w) zs n k (omega arith) h
    ∙ ap (λ (s : Score). plus s z) (step-at m v w j J ∙ is-cand m v w j)
    ∙ cand-then m v w r z
    ∙ rw (K, R) refl

-- ---- from the start

pub after-start : (zs : List ℤ) (j : ℕ) (z w : ℤ) → j < 64 → plus (get_or (starting wholes) j out) z ≡ at w → (j ≡ 0) × (z ≡ w)
unfolding starting
after-start zs zero z w h e = (refl, sym (+ℤ_idl z) ∙ cc)
after-start zs (suc j) z w h e =
    let g : get_or (replicate 63 out) j out ≡ out = get_or-replicate 63 j out out (omega arith) in
    let f : out ≡ at w = sym (ap (λ (s : Score). plus s z) g) ∙ e in
    absurd (let x : ◌≡◌ {A = ℕ} 0 1 = cc in omega arith)

-- what the decoder over whole numbers returns for votes that some path from 0 to 0 fits
pub record Best (zs : List ℤ) (n : ℕ) (bs : List ℕ) (s : Score) : Type 0 where
  pub bits : Bits bs
  pub long : length bs ≡ n
  pub home : run 0 bs ≡ 0
  pub strong : s ≡ at (score (code 0 bs) zs)
  pub most : (ds : List ℕ) → Bits ds → length ds ≡ n → run 0 ds ≡ 0 → score (code 0 ds) zs ≤ℤ score (code 0 bs) zs

pub reached-score : (s : Score) (z : ℤ) → LeS (at z) s → (w : ℤ) × (s ≡ at w)
reached-score out z h = absurd h
reached-score (at w) z h = (w, refl)

pub zeros-run : (n : ℕ) → run 0 (replicate n 0) ≡ 0
unfolding run
zeros-run zero = refl
zeros-run (suc n) = zeros-run n

pub zeros-bits : (n : ℕ) → Bits (replicate n 0)
zeros-bits zero = none
zeros-bits (suc n) = one {b = 0} (omega arith) (zeros-bits n)

-- a path from 0 to 0 scores at most what state 0 ends with
from_start : (zs : List ℤ) (ds : List ℕ) → Bits ds → length zs ≡ 2 * length ds → run 0 ds ≡ 0 → LeS (at (score (code 0 ds) zs)) (strength wholes zs)
unfolding starting strength
from_start zs ds o l e =
    subst (λ (z : ℤ). LeS (at z) (get_or (metrics_after wholes (starting wholes) zs) 0 out)) (+ℤ_idl (score (code 0 ds) zs))
    (rw e at (upper (starting wholes) ds zs 0 (omega arith) o l))

pub best-path : (zs : List ℤ) (n : ℕ) → length zs ≡ 2 * n → Best zs n (decoded wholes zs) (strength wholes zs)
unfolding decoded strength
best-path zs n l =
    let m = starting wholes in
    let j = origin wholes m zs 0 in
    let bs = path wholes m zs 0 in
    let J : j < 64 = origin-lt wholes m zs 0 (omega arith) in
    let low = lower m zs n 0 l (omega arith) in
    let got = reached-score (strength wholes zs) (score (code 0 (replicate n 0)) zs)
    (from_start zs (replicate n 0) (zeros-bits n) (l ∙ ap (λ (x : ℕ). 2 * x) (sym (length-replicate n 0))) (zeros-run n)) in
    let both = after-start zs j (score (code j bs) zs) got.0 J (sym low ∙ got.1) in
    let is : strength wholes zs ≡ at (score (code 0 bs) zs) = got.1 ∙ ap at (sym both.1) ∙ ap (λ (i : ℕ). at (score (code i bs) zs)) both.0 in
    record {
      bits = path-bits wholes m zs 0 (omega arith);
      long = path-length wholes m zs n 0 l;
      home = rw both.0 at (path-run wholes m zs n 0 l (omega arith));
      strong = is;
      most = λ ds o k e. subst (λ (s : Score). LeS (at (score (code 0 ds) zs)) s) is (from_start zs ds o (l ∙ ap (λ (x : ℕ). 2 * x) (sym k)) e);
    }
