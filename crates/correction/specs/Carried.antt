-- Where each vote is a whole number of 1 / 2 ^ l and the sums stay within 2 ^ 24 of them, the decoder over floats goes as the decoder over whole numbers.
use Rattle.std.specs.Prelude.{◌≡◌, Bool, List, [], ◌∷◌, ℕ, zero, suc, ◌+◌, ◌*◌, ◌%◌, ◌^◌, ◌≤◌, ◌<◌, length, get_or, ℤ, pos, neg_ℤ, ◌≤ℤ◌, Float}
use Rattle.std.proofs.Math.Path.{refl, ap}
use Rattle.std.proofs.Common.{sym, ◌∙◌, subst, zero-mul, le_refl, arith, pow_pos}
use Rattle.std.proofs.Math.Bool.{true, false}
use Rattle.std.proofs.lemmas.List.{get_or-replicate}
use Rattle.std.proofs.Math.IntN.{nat_abs}
use Rattle.std.specs.Float.Ieee.{nan, prec, low, add, neg, lt}
use Rattle.std.specs.Float.{inf, fin, binary32}
use Rattle.float_laws.specs.Values.{Is}
use Rattle.float_laws.specs.Exact.{is-neg}
use Rattle.float_laws.specs.Score.{Score, out, at, Scored, plus, lt_s, Bounded}
use Rattle.float_laws.specs.Scoring.{scored-add, scored-lt}
use Rattle.seq.specs.Tab.{get_or-tab}
use Rattle.encoder.specs.Ccsds131.{out1, out2, code, run, Bits}
use Rattle.correction.specs.Order.{size-add, size-neg}
use Rattle.decoder.specs.Decoder.{floats, pick, voted, cand, even_at, odd_at, best_at, next_metrics, metrics_after, origin, path, starting, decoded, strength}
use Rattle.correction.specs.Best.{wholes, score, best-path}
use Rattle.correction.specs.Demand3.{Votes, none, one}

pub votes-length : {c : ℕ} {xs : List Float} {zs : List ℤ} → Votes c xs zs → length xs ≡ length zs
votes-length none = refl
votes-length (one h v) = ap suc (votes-length v)

-- the sum of the sizes
unfoldable pub sizes : List ℤ → ℕ
sizes [] = 0
sizes (z ∷ zs) = nat_abs z + sizes zs

bounded-mono : (s : Score) (a b : ℕ) → a ≤ b → Bounded a s → Bounded b s
bounded-mono out a b h k = tt
bounded-mono (at z) a b h k = omega arith

bounded-plus : (s : Score) (z : ℤ) (a b : ℕ) → Bounded a s → nat_abs z ≤ b → Bounded (a + b) (plus s z)
bounded-plus out z a b h k = tt
bounded-plus (at w) z a b h k = omega (arith, size-add w z)

pub voted-is : (n : ℕ) {c : ℕ} {x : Float} {z : ℤ} → Is c x z → Is c (voted neg n x) (voted neg_ℤ n z)
voted-is zero h = h
voted-is (suc n) h = is-neg h

pub voted-size : (n b : ℕ) (z : ℤ) → nat_abs z ≤ b → nat_abs (voted neg_ℤ n z) ≤ b
voted-size zero b z h = h
voted-size (suc n) b z h = omega (arith, size-neg z)

pub record KeptMetric (c a : ℕ) (x : Float) (s : Score) : Type 0 where
  pub means : Scored c x s
  pub within : Bounded a s

abbrev pub Metrics : ℕ → ℕ → List Float → List Score → Type 0
Metrics c a fm sm = (k : ℕ) → k < 64 → KeptMetric c a (get_or fm k nan) (get_or sm k out)

kept-add : (l a : ℕ) {x y : Float} {s : Score} (z : ℤ) (n : ℕ) → l ≤ low binary32 → a + nat_abs z ≤ 2 ^ prec binary32 → KeptMetric (2 ^ l) a x s → Is (2 ^ l) y z
    → KeptMetric (2 ^ l) (a + nat_abs z) (add binary32 x (voted neg n y)) (plus s (voted neg_ℤ n z))
kept-add l a {x} {y} {s} z n L h k i =
    let b = nat_abs z in
    let w = bounded-plus s (voted neg_ℤ n z) a b k.within (voted-size n b z (le_refl b)) in
    record {
      means = scored-add binary32 l x (voted neg n y) s (voted neg_ℤ n z) L k.means (voted-is n i)
          (bounded-mono (plus s (voted neg_ℤ n z)) (a + b) (2 ^ prec binary32) h w);
      within = w;
    }

module _ (l a : ℕ) (fm : List Float) (sm : List Score) (x y : Float) (z w : ℤ) (L : l ≤ low binary32) (A : a + nat_abs z + nat_abs w ≤ 2 ^ prec binary32)
    (M : Metrics (2 ^ l) a fm sm) (X : Is (2 ^ l) x z) (Y : Is (2 ^ l) y w) where
  kept-cand : (r : ℕ) → KeptMetric (2 ^ l) (a + nat_abs z + nat_abs w) (cand floats fm x y r) (cand wholes sm z w r)
  unfolding cand
  kept-cand r = kept-add l (a + nat_abs z) w (out2 r) L A (kept-add l a z (out1 r) L (omega arith) (M (r % 64) (omega arith)) X) Y

  -- a metric that is lost or a number keeps its value in the place of a lost one
  kept-even : (k : ℕ) → KeptMetric (2 ^ l) (a + nat_abs z + nat_abs w) (even_at floats fm x y k) (even_at wholes sm z w k)
  unfolding even_at
  kept-even k =
      rw (scored-lt (2 ^ l) (inf true) (cand floats fm x y (2 * k)) out (cand wholes sm z w (2 * k)) (pow_pos l) refl (kept-cand (2 * k)).means)
      (go (lt_s out (cand wholes sm z w (2 * k))))
    where
      go : (t : Bool) → KeptMetric (2 ^ l) (a + nat_abs z + nat_abs w) (pick t (cand floats fm x y (2 * k)) (inf true)) (pick t (cand wholes sm z w (2 * k)) out)
      go true = kept-cand (2 * k)
      go false = record { means = refl; within = tt }

  same-less : (k : ℕ) → lt (even_at floats fm x y k) (cand floats fm x y (2 * k + 1)) ≡ lt_s (even_at wholes sm z w k) (cand wholes sm z w (2 * k + 1))
  same-less k = scored-lt (2 ^ l) (even_at floats fm x y k) (cand floats fm x y (2 * k + 1)) (even_at wholes sm z w k) (cand wholes sm z w (2 * k + 1))
      (pow_pos l) (kept-even k).means (kept-cand (2 * k + 1)).means

  pub same-odd : (k : ℕ) → odd_at floats fm x y k ≡ odd_at wholes sm z w k
  unfolding odd_at
  same-odd k = ap (λ (t : Bool). pick t 1 0) (same-less k)

  kept-best : (k : ℕ) → KeptMetric (2 ^ l) (a + nat_abs z + nat_abs w) (best_at floats fm x y k) (best_at wholes sm z w k)
  unfolding best_at
  kept-best k = rw (same-less k) (go (lt_s (even_at wholes sm z w k) (cand wholes sm z w (2 * k + 1))))
    where
      go : (t : Bool) → KeptMetric (2 ^ l) (a + nat_abs z + nat_abs w) (pick t (cand floats fm x y (2 * k + 1)) (even_at floats fm x y k))
          (pick t (cand wholes sm z w (2 * k + 1)) (even_at wholes sm z w k))
      go true = kept-cand (2 * k + 1)
      go false = kept-even k

  pub kept_step : Metrics (2 ^ l) (a + nat_abs z + nat_abs w) (next_metrics floats fm x y) (next_metrics wholes sm z w)
  unfolding next_metrics
  kept_step k h = rw (get_or-tab (best_at floats fm x y) 64 k nan h, get_or-tab (best_at wholes sm z w) 64 k out h) (kept-best k)

-- ---- all steps

-- both decoders trace the same path, and end with the same metrics
pub record Same (c a : ℕ) (fm : List Float) (sm : List Score) (xs : List Float) (zs : List ℤ) (k : ℕ) : Type 0 where
  pub ends : Metrics c a (metrics_after floats fm xs) (metrics_after wholes sm zs)
  pub from : origin floats fm xs k ≡ origin wholes sm zs k
  pub by : path floats fm xs k ≡ path wholes sm zs k

pub kept_more : {c a b : ℕ} {x : Float} {s : Score} → a ≤ b → KeptMetric c a x s → KeptMetric c b x s
kept_more {c} {a} {b} {x} {s} h k = record { means = k.means; within = bounded-mono s a b h k.within }

pub same : (l a : ℕ) (fm : List Float) (sm : List Score) {xs : List Float} {zs : List ℤ} (k : ℕ) → l ≤ low binary32 → a + sizes zs ≤ 2 ^ prec binary32
    → Metrics (2 ^ l) a fm sm → Votes (2 ^ l) xs zs → Same (2 ^ l) (a + sizes zs) fm sm xs zs k
unfolding metrics_after origin path sizes
same l a fm sm k L A M none = record { ends = λ j h. kept_more (omega arith) (M j h); from = refl; by = refl }
same l a fm sm k L A M (one X none) = record { ends = λ j h. kept_more (omega arith) (M j h); from = refl; by = refl }
same l a fm sm k L A M (one {x = x} {z = z} X (one {x = y} {z = w} {xs = xs} {zs = zs} Y v)) =
    let A' : a + nat_abs z + nat_abs w ≤ 2 ^ prec binary32 = omega arith in
    let M' = kept_step l a fm sm x y z w L A' M X Y in
    let rest = same l (a + nat_abs z + nat_abs w) (next_metrics floats fm x y) (next_metrics wholes sm z w) k L (omega arith) M' v in
    let odd = same-odd l a fm sm x y z w L A' M X Y (origin wholes (next_metrics wholes sm z w) zs k) in
    record { ends = λ j h. kept_more (omega arith) (rest.ends j h); from = rw (rest.from, odd) refl; by = rw (rest.from, rest.by) refl }

-- ---- from the start

pub nought : (c : ℕ) (s : Bool) → Is c (fin s 0 (pos 0)) (pos 0)
nought c true = record { sign = true; size = 0; value = (refl, zero-mul c); whole = refl }
nought c false = record { sign = false; size = 0; value = (refl, zero-mul c); whole = refl }

pub start-kept : (c : ℕ) → Metrics c 0 (starting floats) (starting wholes)
unfolding starting
start-kept c zero h = record { means = nought c false; within = omega arith }
start-kept c (suc k) h =
    rw (get_or-replicate 63 k (inf true) nan (omega arith), get_or-replicate 63 k out out (omega arith)) (record { means = refl; within = tt })

module _ (l : ℕ) (xs : List Float) (zs : List ℤ) (L : l ≤ low binary32) (B : sizes zs ≤ 2 ^ prec binary32) (v : Votes (2 ^ l) xs zs) where
  all : Same (2 ^ l) (0 + sizes zs) (starting floats) (starting wholes) xs zs 0
  all = same l 0 (starting floats) (starting wholes) 0 L (omega arith) (start-kept (2 ^ l)) v

  pub same-decoded : decoded floats xs ≡ decoded wholes zs
  unfolding decoded
  same-decoded = all.by

  pub same-strength : Scored (2 ^ l) (strength floats xs) (strength wholes zs)
  unfolding strength
  same-strength = (all.ends 0 (omega arith)).means

-- what the decoder returns on such votes, with the metric that state 0 ends with: a path from state 0 to state 0, whose score no other such path passes
pub record BestOf (c : ℕ) (zs : List ℤ) (n : ℕ) (bs : List ℕ) (s : Float) : Type 0 where
  pub bits : Bits bs
  pub long : length bs ≡ n
  pub home : run 0 bs ≡ 0
  pub strong : Is c s (score (code 0 bs) zs)
  pub most : (ds : List ℕ) → Bits ds → length ds ≡ n → run 0 ds ≡ 0 → score (code 0 ds) zs ≤ℤ score (code 0 bs) zs

pub decoded-best : (l n : ℕ) (xs : List Float) (zs : List ℤ) → l ≤ low binary32 → sizes zs ≤ 2 ^ prec binary32 → length xs ≡ 2 * n → Votes (2 ^ l) xs zs
    → BestOf (2 ^ l) zs n (decoded floats xs) (strength floats xs)
decoded-best l n xs zs L B N v =
    let h = best-path zs n (sym (votes-length v) ∙ N) in
    rw (same-decoded l xs zs L B v) (record {
      bits = h.bits;
      long = h.long;
      home = h.home;
      strong = subst (λ (s : Score). Scored (2 ^ l) (strength floats xs) s) h.strong (same-strength l xs zs L B v);
      most = h.most;
    })
