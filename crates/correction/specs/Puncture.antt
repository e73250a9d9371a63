-- Words of which a pattern leaves coded bits out, and votes with a zero put in for each of those. With a pattern that leaves nothing out, both change nothing.
use Rattle.std.specs.Prelude.{◌≡◌, refl, false, List, [], ◌∷◌, ℕ, zero, suc, ◌+◌, ◌*◌, ◌≤◌, ◌<◌, length, ℤ, pos, neg_ℤ, ◌+ℤ◌, Float}
use Rattle.std.proofs.Common.{sym, ap, ap₂, ◌∙◌, one-mul, zero-mul, arith}
use Rattle.std.proofs.Math.IntN.{+ℤ_idl}
use Rattle.std.specs.Float.{fin}
use Rattle.decoder.specs.Decoder.{voted}
use Rattle.encoder.specs.Ccsds131.{Bits, none, one}
use Rattle.correction.specs.Best.{score}
use Rattle.correction.specs.Demand3.{Votes, unlike, hamming}
use Rattle.correction.specs.Carried.{sizes, nought}
use Rattle.correction.specs.Distance.{hamming_by}

-- the coded bits that are sent, from the coded bit i on: those at which k is not 0
sent_at : {A : Type 0} → ℕ → A → List A → List A
sent_at zero c cs = cs
sent_at (suc m) c cs = c ∷ cs

unfoldable pub sent : {A : Type 0} → (ℕ → ℕ) → ℕ → List A → List A
unfolding sent_at
sent k i [] = []
sent k i (c ∷ cs) = sent_at (k i) c (sent k (suc i) cs)

-- n votes from the votes of the coded bits sent: z where a bit is not sent, and where they have run out
fill_at : {A : Type 0} → A → ℕ → List A → (List A → List A) → List A
fill_at z zero vs rest = z ∷ rest vs
fill_at z (suc m) [] rest = z ∷ rest []
fill_at z (suc m) (v ∷ vs) rest = v ∷ rest vs

unfoldable pub fill : {A : Type 0} → A → (ℕ → ℕ) → ℕ → ℕ → List A → List A
unfolding fill_at
fill z k i zero vs = []
fill z k i (suc n) vs = fill_at z (k i) vs (λ ws. fill z k (suc i) n ws)

pub fill-length : {A : Type 0} (z : A) (k : ℕ → ℕ) (i n : ℕ) (vs : List A) → length (fill z k i n vs) ≡ n
unfolding fill
fill-length z k i zero vs = refl
fill-length {A} z k i (suc n) vs = go (k i) vs (λ ws. fill-length z k (suc i) n ws)
  where
    go : (m : ℕ) (us : List A) → ((ws : List A) → length (fill z k (suc i) n ws) ≡ n) → length (fill_at z m us (λ ws. fill z k (suc i) n ws)) ≡ suc n
    go zero us h = ap suc (h us)
    go (suc m) [] h = ap suc (h [])
    go (suc m) (u ∷ us) h = ap suc (h us)

-- ---- a pattern that leaves nothing out

pub sent-all : {A : Type 0} (i : ℕ) (cs : List A) → sent (λ _. 1) i cs ≡ cs
unfolding sent
sent-all i [] = refl
sent-all {A} i (c ∷ cs) = ap (λ (x : List A). c ∷ x) (sent-all (suc i) cs)

pub fill-all : {A : Type 0} (z : A) (i : ℕ) (vs : List A) → fill z (λ _. 1) i (length vs) vs ≡ vs
unfolding fill
fill-all z i [] = refl
fill-all {A} z i (v ∷ vs) = ap (λ (x : List A). v ∷ x) (fill-all z (suc i) vs)

-- ---- words

pub sent-length : {A B : Type 0} (k : ℕ → ℕ) (i : ℕ) (cs : List A) (ds : List B) → length cs ≡ length ds → length (sent k i cs) ≡ length (sent k i ds)
unfolding sent
sent-length k i [] [] l = refl
sent-length k i [] (d ∷ ds) l = absurd (omega arith)
sent-length k i (c ∷ cs) [] l = absurd (omega arith)
sent-length k i (c ∷ cs) (d ∷ ds) l = go (k i) (sent-length k (suc i) cs ds (omega arith))
  where
    go : (m : ℕ) → length (sent k (suc i) cs) ≡ length (sent k (suc i) ds) → length (sent_at m c (sent k (suc i) cs)) ≡ length (sent_at m d (sent k (suc i) ds))
    go zero h = h
    go (suc m) h = ap suc h

pub sent-bits : (k : ℕ → ℕ) (i : ℕ) {cs : List ℕ} → Bits cs → Bits (sent k i cs)
unfolding sent
sent-bits k i none = none
sent-bits k i (one {b = c} {bs = cs} h t) = go (k i) (sent-bits k (suc i) t)
  where
    go : (m : ℕ) → Bits (sent k (suc i) cs) → Bits (sent_at m c (sent k (suc i) cs))
    go zero b = b
    go (suc m) b = one h b

-- each coded bit counts once or not at all
pub sent-apart : (k : ℕ → ℕ) (i : ℕ) (cs ds : List ℕ) → ((j : ℕ) → k j < 2) → length cs ≡ length ds → hamming (sent k i cs) (sent k i ds) ≡ hamming_by k i cs ds
unfolding sent hamming_by hamming
sent-apart k i [] [] K l = refl
sent-apart k i [] (d ∷ ds) K l = absurd (omega arith)
sent-apart k i (c ∷ cs) [] K l = absurd (omega arith)
sent-apart k i (c ∷ cs) (d ∷ ds) K l = go (k i) (K i) (sent-apart k (suc i) cs ds K (omega arith))
  where
    go : (m : ℕ) → m < 2 → hamming (sent k (suc i) cs) (sent k (suc i) ds) ≡ hamming_by k (suc i) cs ds
        → hamming (sent_at m c (sent k (suc i) cs)) (sent_at m d (sent k (suc i) ds)) ≡ m * unlike c d + hamming_by k (suc i) cs ds
    go zero h e = e ∙ (let f : hamming_by k (suc i) cs ds ≡ 0 * unlike c d + hamming_by k (suc i) cs ds = omega (arith, zero-mul (unlike c d)) in f)
    go (suc zero) h e = ap₂ (λ (x y : ℕ). x + y) (sym (one-mul (unlike c d))) e
    go (suc (suc m)) h e = absurd (omega arith)

-- ---- scores, sizes and floats

voted-nought : (c : ℕ) → voted neg_ℤ c (pos 0) ≡ pos 0
voted-nought zero = refl
voted-nought (suc c) = refl

score-none : (cs : List ℕ) → score cs [] ≡ pos 0
unfolding score
score-none [] = refl
score-none (c ∷ cs) = refl

pub fill-score : (k : ℕ → ℕ) (i : ℕ) (cs : List ℕ) (zs : List ℤ) → score cs (fill (pos 0) k i (length cs) zs) ≡ score (sent k i cs) zs
unfolding score sent fill
fill-score k i [] zs = refl
fill-score k i (c ∷ cs) zs = go (k i) zs (λ ws. fill-score k (suc i) cs ws)
  where
    go : (m : ℕ) (us : List ℤ) → ((ws : List ℤ) → score cs (fill (pos 0) k (suc i) (length cs) ws) ≡ score (sent k (suc i) cs) ws)
        → score (c ∷ cs) (fill_at (pos 0) m us (λ ws. fill (pos 0) k (suc i) (length cs) ws)) ≡ score (sent_at m c (sent k (suc i) cs)) us
    go zero us h = ap₂ (λ (x y : ℤ). x +ℤ y) (voted-nought c) (h us) ∙ +ℤ_idl (score (sent k (suc i) cs) us)
    go (suc m) [] h = ap₂ (λ (x y : ℤ). x +ℤ y) (voted-nought c) (h []) ∙ +ℤ_idl (score (sent k (suc i) cs) []) ∙ score-none (sent k (suc i) cs)
    go (suc m) (u ∷ us) h = ap (λ (y : ℤ). voted neg_ℤ c u +ℤ y) (h us)

pub fill-sizes : (k : ℕ → ℕ) (i n : ℕ) (zs : List ℤ) → sizes (fill (pos 0) k i n zs) ≤ sizes zs
unfolding sizes fill
fill-sizes k i zero zs = omega arith
fill-sizes k i (suc n) zs = go (k i) zs (λ ws. fill-sizes k (suc i) n ws)
  where
    go : (m : ℕ) (us : List ℤ) → ((ws : List ℤ) → sizes (fill (pos 0) k (suc i) n ws) ≤ sizes ws)
        → sizes (fill_at (pos 0) m us (λ ws. fill (pos 0) k (suc i) n ws)) ≤ sizes us
    go zero us h = omega (arith, h us)
    go (suc m) [] h = omega (arith, h [])
    go (suc m) (u ∷ us) h = omega (arith, h us)

pub fill-votes : (c : ℕ) (k : ℕ → ℕ) (i n : ℕ) {xs : List Float} {zs : List ℤ} → Votes c xs zs
    → Votes c (fill (fin false 0 (pos 0)) k i n xs) (fill (pos 0) k i n zs)
unfolding fill
fill-votes c k i zero v = Votes.none
fill-votes c k i (suc n) {xs} {zs} v = go (k i) v (λ ps qs w. fill-votes c k (suc i) n w)
  where
    go : (m : ℕ) {us : List Float} {ws : List ℤ} → Votes c us ws
        → ((ps : List Float) (qs : List ℤ) → Votes c ps qs → Votes c (fill (fin false 0 (pos 0)) k (suc i) n ps) (fill (pos 0) k (suc i) n qs))
        → Votes c (fill_at (fin false 0 (pos 0)) m us (λ ps. fill (fin false 0 (pos 0)) k (suc i) n ps))
        (fill_at (pos 0) m ws (λ qs. fill (pos 0) k (suc i) n qs))
    go zero {us} {ws} w h = Votes.one (nought c false) (h us ws w)
    go (suc m) Votes.none h = Votes.one (nought c false) (h [] [] Votes.none)
    go (suc m) (Votes.one {xs = us} {zs = ws} x w) h = Votes.one x (h us ws w)
