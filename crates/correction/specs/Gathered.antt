-- The votes of places gathered to those of coded bits: place j carries the coded bit j mod p. Any number of places and of coded bits.
use Rattle.std.specs.Prelude.{◌≡◌, refl, false, List, [], ◌∷◌, ℕ, zero, suc, ◌+◌, ◌*◌, ◌%◌, ◌^◌, ◌≤◌, ◌<◌, length, get_or, set, replicate, ℤ, pos, neg_ℤ, nat_abs, ◌+ℤ◌, Float}
use Rattle.std.proofs.Common.{sym, ap, ap₂, ◌∙◌, subst, mod-lt, mul-suc, arith}
use Rattle.std.proofs.Math.IntN.{+ℤ_assoc, +ℤ_comm, neg_ℤ-+ℤ}
use Rattle.std.specs.Float.{nan, fin, binary32}
use Rattle.std.specs.Float.Ieee.{prec, low}
use Rattle.seq.specs.Lists.{sum_to}
use Rattle.layout.specs.Places.{gather, gather_f}
use Rattle.layout.specs.Sums.{gather-length}
use Rattle.float_laws.specs.Exact.{is-add}
use Rattle.float_laws.specs.Values.{Is}
use Rattle.correction.specs.Order.{size-add}
use Rattle.decoder.specs.Decoder.{voted}
use Rattle.correction.specs.Best.{score}
use Rattle.correction.specs.Demand3.{Votes, none, one}
use Rattle.correction.specs.Carried.{sizes, nought}

abbrev pub gather_z : ℕ → ℕ → List ℤ → List ℤ
gather_z = gather (pos 0) (pos 0) (λ a b. a +ℤ b)

-- the score of a word over the first n places
abbrev pub placed : ℕ → List ℕ → List ℤ → ℕ → ℤ
placed p cs zs n = sum_to (λ a b. a +ℤ b) (pos 0) n (λ j. voted neg_ℤ (get_or cs (j % p) 0) (get_or zs j (pos 0)))

-- ---- one sum more

pub voted-plus : (c : ℕ) (a b : ℤ) → voted neg_ℤ c (a +ℤ b) ≡ voted neg_ℤ c a +ℤ voted neg_ℤ c b
voted-plus zero a b = refl
voted-plus (suc c) a b = neg_ℤ-+ℤ a b

shuffle : (a b c : ℤ) → a +ℤ b +ℤ c ≡ a +ℤ c +ℤ b
shuffle a b c = +ℤ_assoc a b c ∙ ap (λ (x : ℤ). a +ℤ x) (+ℤ_comm b c) ∙ sym (+ℤ_assoc a c b)

pub score-set : (cs : List ℕ) (zs : List ℤ) (k : ℕ) (z : ℤ) → length cs ≡ length zs → k < length zs
    → score cs (set zs k (get_or zs k (pos 0) +ℤ z)) ≡ score cs zs +ℤ voted neg_ℤ (get_or cs k 0) z
unfolding score
score-set [] [] k z l h = absurd (omega arith)
score-set [] (y ∷ zs) k z l h = absurd (omega arith)
score-set (c ∷ cs) [] k z l h = absurd (omega arith)
score-set (c ∷ cs) (y ∷ zs) zero z l h = ap (λ (x : ℤ). x +ℤ score cs zs) (voted-plus c y z) ∙ shuffle (voted neg_ℤ c y) (voted neg_ℤ c z) (score cs zs)
score-set (c ∷ cs) (y ∷ zs) (suc k) z l h =
    ap (λ (x : ℤ). voted neg_ℤ c y +ℤ x) (score-set cs zs k z (omega arith) (omega arith))
    ∙ sym (+ℤ_assoc (voted neg_ℤ c y) (score cs zs) (voted neg_ℤ (get_or cs k 0) z))

voted-zero : (c : ℕ) → voted neg_ℤ c (pos 0) ≡ pos 0
voted-zero zero = refl
voted-zero (suc c) = refl

pub score-zeros : (cs : List ℕ) (p : ℕ) → score cs (replicate p (pos 0)) ≡ pos 0
unfolding score
score-zeros [] p = refl
score-zeros (c ∷ cs) zero = refl
score-zeros (c ∷ cs) (suc p) = ap₂ (λ (x y : ℤ). x +ℤ y) (voted-zero c) (score-zeros cs p)

-- the coded bits' score is the places'
pub regroup : (p n : ℕ) (cs : List ℕ) (zs : List ℤ) → 0 < p → length cs ≡ p → score cs (gather_z p n zs) ≡ placed p cs zs n
unfolding gather sum_to
regroup p zero cs zs P l = score-zeros cs p
regroup p (suc j) cs zs P l =
    let g = gather_z p j zs in
    let G : length g ≡ p = gather-length (pos 0) (pos 0) (λ a b. a +ℤ b) p j zs in
    score-set cs g (j % p) (get_or zs j (pos 0)) (l ∙ sym G) (subst (λ (x : ℕ). j % p < x) (sym G) (mod-lt j P))
    ∙ ap (λ (x : ℤ). x +ℤ voted neg_ℤ (get_or cs (j % p) 0) (get_or zs j (pos 0))) (regroup p j cs zs P l)

-- ---- sizes

sizes-set : (zs : List ℤ) (k : ℕ) (z : ℤ) → k < length zs → sizes (set zs k (get_or zs k (pos 0) +ℤ z)) ≤ sizes zs + nat_abs z
unfolding sizes
sizes-set [] k z h = absurd (omega arith)
sizes-set (y ∷ zs) zero z h = omega (arith, size-add y z)
sizes-set (y ∷ zs) (suc k) z h = omega (arith, sizes-set zs k z (omega arith))

pub size-at : (zs : List ℤ) (k : ℕ) → nat_abs (get_or zs k (pos 0)) ≤ sizes zs
unfolding sizes
size-at [] k = omega arith
size-at (z ∷ zs) zero = omega arith
size-at (z ∷ zs) (suc k) = omega (arith, size-at zs k)

pub sizes-zeros : (p : ℕ) → sizes (replicate p (pos 0)) ≡ 0
unfolding sizes
sizes-zeros zero = refl
sizes-zeros (suc p) = omega (arith, sizes-zeros p)

pub gather-sizes : (p n b : ℕ) (zs : List ℤ) → 0 < p → ((j : ℕ) → nat_abs (get_or zs j (pos 0)) ≤ b) → sizes (gather_z p n zs) ≤ b * n
unfolding gather
gather-sizes p zero b zs P h = omega (arith, sizes-zeros p)
gather-sizes p (suc j) b zs P h =
    let g = gather_z p j zs in
    let G : length g ≡ p = gather-length (pos 0) (pos 0) (λ a b. a +ℤ b) p j zs in
    omega (arith, mul-suc b j, gather-sizes p j b zs P h, h j, sizes-set g (j % p) (get_or zs j (pos 0)) (subst (λ (x : ℕ). j % p < x) (sym G) (mod-lt j P)))

-- ---- floats

pub votes-set : {c : ℕ} {xs : List Float} {zs : List ℤ} {x : Float} {z : ℤ} (k : ℕ) → Votes c xs zs → Is c x z → Votes c (set xs k x) (set zs k z)
votes-set k none i = none
votes-set zero (one h v) i = one i v
votes-set (suc k) (one h v) i = one h (votes-set k v i)

pub votes-at : {c : ℕ} {xs : List Float} {zs : List ℤ} (k : ℕ) → Votes c xs zs → k < length zs → Is c (get_or xs k nan) (get_or zs k (pos 0))
votes-at k none h = absurd (omega arith)
votes-at zero (one i v) h = i
votes-at (suc k) (one i v) h = votes-at k v (omega arith)

pub begins : (c p : ℕ) → Votes c (replicate p (fin false 0 (pos 0))) (replicate p (pos 0))
begins c zero = none
begins c (suc p) = one (nought c false) (begins c p)

-- where each place's vote is a whole number of 1 / 2 ^ l, at most b of them, and b * n is at most 2 ^ 24, so is each coded bit's, exactly
pub gather-votes : (l p n b : ℕ) (us : List Float) (zs : List ℤ) → l ≤ low binary32 → 0 < p → n ≤ length zs → b * n ≤ 2 ^ prec binary32
    → ((j : ℕ) → nat_abs (get_or zs j (pos 0)) ≤ b) → Votes (2 ^ l) us zs → Votes (2 ^ l) (gather_f p n us) (gather_z p n zs)
unfolding gather
gather-votes l p zero b us zs L P N B h v = begins (2 ^ l) p
gather-votes l p (suc j) b us zs L P N B h v =
    let g = gather_z p j zs in
    let z = get_or zs j (pos 0) in
    let M = mul-suc b j in
    let B' : b * j ≤ 2 ^ prec binary32 = omega arith in
    let G : length g ≡ p = gather-length (pos 0) (pos 0) (λ a b. a +ℤ b) p j zs in
    let rest = gather-votes l p j b us zs L P (omega arith) B' h v in
    let K : j % p < length g = subst (λ (x : ℕ). j % p < x) (sym G) (mod-lt j P) in
    let fits : nat_abs (get_or g (j % p) (pos 0) +ℤ z) ≤ 2 ^ prec binary32 =
    omega (arith, size-add (get_or g (j % p) (pos 0)) z, size-at g (j % p), gather-sizes p j b zs P h, h j) in
    votes-set (j % p) rest (is-add binary32 l L (votes-at (j % p) rest K) (votes-at j v (omega arith)) fits)
