-- Damage that the decoder undoes: e votes made zero and f others reversed, with e + 2 f below the distance. Any number of places and of coded bits.
use Rattle.std.specs.Prelude.{◌≡◌, Bool, true, not, ◌⊎◌, T, ltb, ℤ, negsuc, nat_abs, ◌+ℤ◌, ◌≤ℤ◌, Float}
use Rattle.std.proofs.Math.Path.{refl, sym, ap, ap₂, subst}
use Rattle.std.proofs.Common.{◌∙◌, mod-eq_of_lt, add-zero, add-suc, le_refl, le_of_eq, add-sub_of_le, add-one, ltb→lt, nltb→le, lit<, lit≤, leb→le}
use Rattle.std.proofs.Math.Bool.{false}
use Rattle.std.proofs.Math.Logic.{inl, inr}
use mathlib.Core.List.{List, [], ◌∷◌, ◌++◌}
use Prim.Native.Nat.{ℕ, zero, suc, ◌+◌, ◌*◌, ◌-◌, ◌%◌, ◌^◌, ◌≤◌, ◌<◌}
use Rattle.std.proofs.Math.Nat.{le_trans}
use native.Mathlib.Omega.{arith}
use Rattle.std.proofs.Math.ListN.{length, get_or, get_or-eq_default}
use Rattle.std.proofs.Math.IntN.{pos, neg_ℤ, +ℤ_assoc, +ℤ_comm, +ℤ_idr, +ℤ_invr}
use Rattle.std.specs.Int.Signed.{le_z_yes}
use Rattle.std.specs.Float.{fin}
use Rattle.std.specs.Float.Ieee.{binary32, prec}
use Rattle.seq.specs.Sum.{sum_same}
use Rattle.seq.specs.Lists.{sum_to, tab}
use Rattle.float_laws.specs.Values.{Is}
use Rattle.seq.specs.Tab.{length-tab, get_or-tab}
use Rattle.correction.specs.Order.{≤ℤ-trans, ≤ℤ-add}
use Rattle.decoder.specs.Decoder.{voted, floats, decoded}
use Rattle.encoder.specs.Ccsds131.{code, run, Bits}
use Rattle.encoder.specs.Bits.{bits_at}
use Rattle.correction.specs.RecordBits.{code-length, code-bits}
use Rattle.correction.specs.Best.{score}
use Rattle.correction.specs.Demand3.{Votes, none, one, unlike, hamming, Fate, kept, zeroed, reversed, voted_f, zeroed_count, reversed_count}
use Rattle.correction.specs.Carried.{nought, sizes, decoded-best}
use Rattle.layout.specs.Places.{gather_f}
use Rattle.correction.specs.Gathered.{gather_z, placed, regroup, gather-sizes, gather-votes}
use Rattle.correction.specs.Distance.{Potential, split}
use Rattle.correction.specs.Puncture.{sent, fill, fill-length, sent-length, sent-bits, sent-apart, fill-score, fill-sizes, fill-votes}

-- the votes of n places, of which place j carries bit j mod p of the word cs
unfoldable pub laid_votes : ℕ → ℕ → List ℕ → List Fate → List Float
laid_votes p n cs ts = tab (λ j. voted_f (get_or cs (j % p) 0) (get_or ts j kept)) n

-- ---- sums over places

abbrev pub cost : Fate → ℕ
cost kept = 0
cost (zeroed s) = 1
cost reversed = 2

abbrev pub upto : (ℕ → ℕ) → ℕ → ℕ
upto f n = sum_to (λ a b. a + b) 0 n f

upto-front : (f : ℕ → ℕ) (n : ℕ) → upto f (suc n) ≡ f 0 + upto (λ j. f (suc j)) n
unfolding sum_to
upto-front f zero = omega arith
upto-front f (suc n) = let h : upto f (suc n) ≡ f 0 + upto (λ j. f (suc j)) n = upto-front f n in omega arith

upto-more : (f : ℕ → ℕ) (m n : ℕ) → upto f m ≤ upto f (m + n)
unfolding sum_to
upto-more f m zero = rw add-zero (le_refl (upto f m))
upto-more f m (suc n) = rw add-suc (let h = upto-more f m n in omega arith)

pub total-cost : (ts : List Fate) (n : ℕ) → upto (λ j. cost (get_or ts j kept)) n ≤ zeroed_count ts + 2 * reversed_count ts
unfolding sum_to zeroed_count reversed_count
total-cost [] zero = omega arith
total-cost [] (suc n) = let h = total-cost [] n in omega arith
total-cost (t ∷ ts) zero = omega arith
total-cost (kept ∷ ts) (suc n) = let h = total-cost ts n in omega (arith, upto-front (λ j. cost (get_or (kept ∷ ts) j kept)) n)
total-cost (zeroed s ∷ ts) (suc n) = let h = total-cost ts n in omega (arith, upto-front (λ j. cost (get_or (zeroed s ∷ ts) j kept)) n)
total-cost (reversed ∷ ts) (suc n) = let h = total-cost ts n in omega (arith, upto-front (λ j. cost (get_or (reversed ∷ ts) j kept)) n)

-- the coded bits in which two words differ are among the places in which they do
apart-upto : (cs ds : List ℕ) → length cs ≡ length ds → hamming cs ds ≡ upto (λ j. unlike (get_or cs j 0) (get_or ds j 0)) (length cs)
unfolding hamming sum_to
apart-upto [] [] l = refl
apart-upto [] (d ∷ ds) l = absurd (omega arith)
apart-upto (c ∷ cs) [] l = absurd (omega arith)
apart-upto (c ∷ cs) (d ∷ ds) l =
    ap (λ (x : ℕ). unlike c d + x) (apart-upto cs ds (omega arith)) ∙ sym (upto-front (λ j. unlike (get_or (c ∷ cs) j 0) (get_or (d ∷ ds) j 0)) (length cs))

pub apart-places : (p n : ℕ) (cs ds : List ℕ) → p ≤ n → length cs ≡ p → length ds ≡ p
    → hamming cs ds ≤ upto (λ j. unlike (get_or cs (j % p) 0) (get_or ds (j % p) 0)) n
apart-places p n cs ds h l m =
    let f : ℕ → ℕ = λ j. unlike (get_or cs j 0) (get_or ds j 0) in
    let g : ℕ → ℕ = λ j. unlike (get_or cs (j % p) 0) (get_or ds (j % p) 0) in
    let a : hamming cs ds ≡ upto f p = rw l at (apart-upto cs ds (l ∙ sym m)) in
    let b : upto f p ≡ upto g p = sum_same (λ a b. a + b) 0 f g p (λ j k. ap f (sym (mod-eq_of_lt k))) in
    let d : upto g p ≤ upto g n = subst (λ (x : ℕ). upto g p ≤ upto g x) (add-sub_of_le h) (upto-more g p (n - p)) in
    omega arith

-- ---- the votes as whole numbers

abbrev voted_z : ℕ → Fate → ℤ
voted_z c kept = voted neg_ℤ c (pos 1)
voted_z c (zeroed s) = pos 0
voted_z c reversed = neg_ℤ (voted neg_ℤ c (pos 1))

laid_z : ℕ → ℕ → List ℕ → List Fate → List ℤ
laid_z p n cs ts = tab (λ j. voted_z (get_or cs (j % p) 0) (get_or ts j kept)) n

one-is : Is 1 (fin false 1 (pos 0)) (pos 1)
one-is = record { sign = false; size = 1; value = (refl, refl); whole = refl }

minus_is : Is 1 (fin true 1 (pos 0)) (negsuc 0)
minus_is = record { sign = true; size = 1; value = (refl, refl); whole = refl }

voted-same : (c : ℕ) (t : Fate) → Is 1 (voted_f c t) (voted_z c t)
voted-same zero kept = one-is
voted-same (suc c) kept = minus_is
voted-same c (zeroed s) = nought 1 s
voted-same zero reversed = minus_is
voted-same (suc c) reversed = one-is

pub votes-snoc : {c : ℕ} {xs : List Float} {zs : List ℤ} {x : Float} {z : ℤ} → Votes c xs zs → Is c x z → Votes c (xs ++ (x ∷ [])) (zs ++ (z ∷ []))
votes-snoc none i = one i none
votes-snoc (one h v) i = one h (votes-snoc v i)

pub votes-tab : (c : ℕ) (f : ℕ → Float) (g : ℕ → ℤ) (n : ℕ) → ((j : ℕ) → Is c (f j) (g j)) → Votes c (tab f n) (tab g n)
unfolding tab
votes-tab c f g zero h = none
votes-tab c f g (suc n) h = votes-snoc (votes-tab c f g n h) (h n)

-- ---- what a place adds

own : (c : ℕ) (t : Fate) → voted neg_ℤ c (voted_z c t) +ℤ pos (cost t) ≡ pos 1
own zero kept = refl
own (suc c) kept = refl
own zero (zeroed s) = refl
own (suc c) (zeroed s) = refl
own zero reversed = refl
own (suc c) reversed = refl

other : (c d : ℕ) (t : Fate) → c < 2 → d < 2 → (voted neg_ℤ d (voted_z c t) +ℤ pos (2 * unlike c d)) ≤ℤ pos (1 + cost t)
other zero zero kept h k = le_z_yes tt
other zero zero (zeroed s) h k = le_z_yes tt
other zero zero reversed h k = le_z_yes tt
other zero (suc zero) kept h k = le_z_yes tt
other zero (suc zero) (zeroed s) h k = le_z_yes tt
other zero (suc zero) reversed h k = le_z_yes tt
other (suc zero) zero kept h k = le_z_yes tt
other (suc zero) zero (zeroed s) h k = le_z_yes tt
other (suc zero) zero reversed h k = le_z_yes tt
other (suc zero) (suc zero) kept h k = le_z_yes tt
other (suc zero) (suc zero) (zeroed s) h k = le_z_yes tt
other (suc zero) (suc zero) reversed h k = le_z_yes tt
other zero (suc (suc d)) t h k = absurd (omega arith)
other (suc zero) (suc (suc d)) t h k = absurd (omega arith)
other (suc (suc c)) d t h k = absurd (omega arith)

pub interleave : (a b c d : ℤ) → a +ℤ b +ℤ (c +ℤ d) ≡ a +ℤ c +ℤ (b +ℤ d)
interleave a b c d =
    +ℤ_assoc a b (c +ℤ d)
    ∙ ap (λ (x : ℤ). a +ℤ x) (sym (+ℤ_assoc b c d) ∙ ap (λ (x : ℤ). x +ℤ d) (+ℤ_comm b c) ∙ +ℤ_assoc c b d)
    ∙ sym (+ℤ_assoc a c (b +ℤ d))

≤ℤ-both : {a b c d : ℤ} → a ≤ℤ b → c ≤ℤ d → (a +ℤ c) ≤ℤ (b +ℤ d)
≤ℤ-both {a} {b} {c} {d} h k =
    ≤ℤ-trans (≤ℤ-add c h) (subst (λ (x : ℤ). x ≤ℤ (b +ℤ d)) (+ℤ_comm c b) (subst (λ (x : ℤ). (c +ℤ b) ≤ℤ x) (+ℤ_comm d b) (≤ℤ-add b k)))

strip : (a x : ℤ) → a +ℤ x +ℤ neg_ℤ a ≡ x
strip a x = ap (λ (y : ℤ). y +ℤ neg_ℤ a) (+ℤ_comm a x) ∙ +ℤ_assoc x a (neg_ℤ a) ∙ ap (λ (y : ℤ). x +ℤ y) (+ℤ_invr a) ∙ +ℤ_idr x

cancel : (a : ℤ) (m n : ℕ) → (a +ℤ pos m) ≤ℤ (a +ℤ pos n) → m ≤ n
cancel a m n h =
    leb→le m n (subst (λ (x : ℤ). x ≤ℤ pos n) (strip a (pos m)) (subst (λ (x : ℤ). (a +ℤ pos m +ℤ neg_ℤ a) ≤ℤ x) (strip a (pos n)) (≤ℤ-add (neg_ℤ a) h))).le

module _ (p N : ℕ) (cs : List ℕ) (ts : List Fate) where
  C : ℕ → ℕ
  C n = upto (λ j. cost (get_or ts j kept)) n

  zs : List ℤ
  zs = laid_z p N cs ts

  vote-at : (j : ℕ) → j < N → get_or zs j (pos 0) ≡ voted_z (get_or cs (j % p) 0) (get_or ts j kept)
  unfolding zs laid_z
  vote-at j h = get_or-tab (λ j. voted_z (get_or cs (j % p) 0) (get_or ts j kept)) N j (pos 0) h

  own_sum : (n : ℕ) → n ≤ N → placed p cs zs n +ℤ pos (C n) ≡ pos n
  unfolding C sum_to
  own_sum zero h = refl
  own_sum (suc n) h =
      let c = get_or cs (n % p) 0 in
      let t = get_or ts n kept in
      let a = placed p cs zs n in
      ap (λ (x : ℤ). a +ℤ voted neg_ℤ c x +ℤ (pos (C n) +ℤ pos (cost t))) (vote-at n h)
      ∙ interleave a (voted neg_ℤ c (voted_z c t)) (pos (C n)) (pos (cost t))
      ∙ ap₂ (λ (x y : ℤ). x +ℤ y) (own_sum n (omega arith)) (own c t)
      ∙ ap pos (add-one n)

  module _ (ds : List ℕ) (B : Bits cs) (E : Bits ds) where
    D : ℕ → ℕ
    D n = upto (λ j. unlike (get_or cs (j % p) 0) (get_or ds (j % p) 0)) n

    other_sum : (n : ℕ) → n ≤ N → (placed p ds zs n +ℤ pos (2 * D n)) ≤ℤ pos (n + C n)
    unfolding C D sum_to
    other_sum zero h = le_z_yes tt
    other_sum (suc n) h =
        let c = get_or cs (n % p) 0 in
        let d = get_or ds (n % p) 0 in
        let t = get_or ts n kept in
        let a = placed p ds zs n in
        let both : (a +ℤ pos (2 * D n) +ℤ (voted neg_ℤ d (voted_z c t) +ℤ pos (2 * unlike c d))) ≤ℤ (pos (n + C n) +ℤ pos (1 + cost t)) =
        ≤ℤ-both (other_sum n (omega arith)) (other c d t (bits_at cs (n % p) B) (bits_at ds (n % p) E)) in
        let left : a +ℤ voted neg_ℤ d (get_or zs n (pos 0)) +ℤ pos (2 * (D n + unlike c d))
        ≡ a +ℤ pos (2 * D n) +ℤ (voted neg_ℤ d (voted_z c t) +ℤ pos (2 * unlike c d)) =
        ap (λ (x : ℤ). a +ℤ voted neg_ℤ d x +ℤ pos (2 * (D n + unlike c d))) (vote-at n h)
        ∙ ap (λ (x : ℕ). a +ℤ voted neg_ℤ d (voted_z c t) +ℤ pos x) (let e : 2 * (D n + unlike c d) ≡ 2 * D n + 2 * unlike c d = omega arith in e)
        ∙ interleave a (voted neg_ℤ d (voted_z c t)) (pos (2 * D n)) (pos (2 * unlike c d)) in
        let right : n + C n + (1 + cost t) ≡ suc n + (C n + cost t) = omega arith in
        rw left (subst (λ (x : ℕ). (a +ℤ pos (2 * D n) +ℤ (voted neg_ℤ d (voted_z c t) +ℤ pos (2 * unlike c d))) ≤ℤ pos x) right both)

    -- a word that scores no less than the one laid differs from it in no more places than the damage costs
    near : (placed p cs zs N) ≤ℤ (placed p ds zs N) → D N ≤ C N
    near h =
        let a = placed p cs zs N in
        let s : (a +ℤ pos (2 * D N)) ≤ℤ pos (N + C N) = ≤ℤ-trans (≤ℤ-add (pos (2 * D N)) h) (other_sum N (le_refl N)) in
        let e : pos (N + C N) ≡ a +ℤ pos (C N + C N) = ap (λ (x : ℤ). x +ℤ pos (C N)) (sym (own_sum N (le_refl N))) ∙ +ℤ_assoc a (pos (C N)) (pos (C N)) in
        let k : 2 * D N ≤ C N + C N = cancel a (2 * D N) (C N + C N) (rw e at s) in
        omega arith

sure-size : (c : ℕ) (t : Fate) → nat_abs (voted_z c t) ≤ 1
sure-size zero kept = lit≤ tt
sure-size (suc c) kept = lit≤ tt
sure-size c (zeroed s) = lit≤ tt
sure-size zero reversed = lit≤ tt
sure-size (suc c) reversed = lit≤ tt

pub lt-or-ge : (j n : ℕ) → (j < n) ⊎ (n ≤ j)
lt-or-ge j n = go (ltb j n) (ltb→lt j n) (nltb→le j n)
  where
    go : (b : Bool) → (T b → j < n) → (T (not b) → n ≤ j) → (j < n) ⊎ (n ≤ j)
    go true h k = inl (h tt)
    go false h k = inr (k tt)

laid-sizes : (p N : ℕ) (cs : List ℕ) (ts : List Fate) (j : ℕ) → nat_abs (get_or (laid_z p N cs ts) j (pos 0)) ≤ 1
unfolding laid_z
laid-sizes p N cs ts j =
    let f : ℕ → ℤ = λ j. voted_z (get_or cs (j % p) 0) (get_or ts j kept) in
    elim (lt-or-ge j N) [
      | inl h ↦ subst (λ (x : ℤ). nat_abs x ≤ 1) (sym (get_or-tab f N j (pos 0) h)) (sure-size (get_or cs (j % p) 0) (get_or ts j kept))
      | inr h ↦ subst (λ (x : ℤ). nat_abs x ≤ 1) (sym (get_or-eq_default (tab f N) (pos 0) (subst (λ (x : ℕ). x ≤ j) (sym (length-tab f N)) h))) (lit≤ tt)
    ]

laid-votes : (p n : ℕ) (cs : List ℕ) (ts : List Fate) → Votes 1 (laid_votes p n cs ts) (laid_z p n cs ts)
unfolding laid_votes laid_z
laid-votes p n cs ts =
    votes-tab 1 (λ j. voted_f (get_or cs (j % p) 0) (get_or ts j kept)) (λ j. voted_z (get_or cs (j % p) 0) (get_or ts j kept)) n
    (λ j. voted-same (get_or cs (j % p) 0) (get_or ts j kept))

laid-length : (p n : ℕ) (cs : List ℕ) (ts : List Fate) → length (laid_z p n cs ts) ≡ n
unfolding laid_z
laid-length p n cs ts = length-tab (λ j. voted_z (get_or cs (j % p) 0) (get_or ts j kept)) n

-- bits bs that lead from state 0 to state 0, sent by a pattern, laid over n places and damaged, are decoded
module _ (k : ℕ → ℕ) (φ : ℕ → ℕ → ℕ) (least : ℕ) (K : (i : ℕ) → k i < 2) (P : Potential k φ least) where
  pub undone-by : (bs : List ℕ) (p n : ℕ) (ts : List Fate) → Bits bs → run 0 bs ≡ 0 → length (sent k 0 (code 0 bs)) ≡ p → 0 < p → p ≤ n → n ≤ 2 ^ 24
      → upto (λ j. cost (get_or ts j kept)) n < least
      → decoded floats (fill (fin false 0 (pos 0)) k 0 (2 * length bs) (gather_f p n (laid_votes p n (sent k 0 (code 0 bs)) ts))) ≡ bs
  unfolding C D zs
  undone-by bs p n ts b e L some fits small ok =
      let cs = sent k 0 (code 0 bs) in
      let us = laid_votes p n cs ts in
      let ws = laid_z p n cs ts in
      let sm : 1 * n ≤ 2 ^ prec binary32 = omega arith in
      let gs = gather_f p n us in
      let gz = gather_z p n ws in
      let m = 2 * length bs in
      let U = gather-votes 0 p n 1 us ws (lit≤ tt) some (le_of_eq (sym (laid-length p n cs ts))) sm (laid-sizes p n cs ts) (laid-votes p n cs ts) in
      let S : sizes (fill (pos 0) k 0 m gz) ≤ 2 ^ prec binary32 =
      le_trans (fill-sizes k 0 m gz) (le_trans (gather-sizes p n 1 ws some (laid-sizes p n cs ts)) sm) in
      let best = decoded-best 0 (length bs) (fill (fin false 0 (pos 0)) k 0 m gs) (fill (pos 0) k 0 m gz) (lit≤ tt) S
      (fill-length (fin false 0 (pos 0)) k 0 m gs) (fill-votes 1 k 0 m U) in
      let hat = decoded floats (fill (fin false 0 (pos 0)) k 0 m gs) in
      let ds = sent k 0 (code 0 hat) in
      let H : length (code 0 hat) ≡ m = code-length 0 hat ∙ ap (λ (x : ℕ). 2 * x) best.long in
      let Q : length ds ≡ p = sent-length k 0 (code 0 hat) (code 0 bs) (H ∙ sym (code-length 0 bs)) ∙ L in
      let one-score : (xs : List ℕ) → length (code 0 xs) ≡ m → length (sent k 0 (code 0 xs)) ≡ p
      → score (code 0 xs) (fill (pos 0) k 0 m gz) ≡ placed p (sent k 0 (code 0 xs)) ws n =
      λ xs h q. ap (λ (x : ℕ). score (code 0 xs) (fill (pos 0) k 0 x gz)) (sym h) ∙ fill-score k 0 (code 0 xs) gz
      ∙ regroup p n (sent k 0 (code 0 xs)) ws some q in
      let most : (placed p cs ws n) ≤ℤ (placed p ds ws n) =
      subst (λ (x : ℤ). x ≤ℤ (placed p ds ws n)) (one-score bs (code-length 0 bs) L)
      (subst (λ (x : ℤ). (score (code 0 bs) (fill (pos 0) k 0 m gz)) ≤ℤ x) (one-score hat H Q) (best.most bs b refl e)) in
      let few : upto (λ j. unlike (get_or cs (j % p) 0) (get_or ds (j % p) 0)) n ≤ upto (λ j. cost (get_or ts j kept)) n =
      near p n cs ts ds (sent-bits k 0 (code-bits 0 bs)) (sent-bits k 0 (code-bits 0 hat)) most in
      let far = apart-places p n cs ds fits L Q in
      let cnt = sent-apart k 0 (code 0 bs) (code 0 hat) K (code-length 0 bs ∙ sym H) in
      elim (split k φ least P 0 0 bs hat refl (lit< tt) b best.bits (sym best.long) (e ∙ sym best.home)) [
        | inl same ↦ sym same
        | inr far' ↦ absurd (omega arith)
      ]
