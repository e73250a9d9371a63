-- A rule's strings are those that fit one of its forms, by induction over the rule.
use Rattle.std.specs.Prelude.{◌≡◌, refl, Bool, true, false, ◌&&◌, ◌⊎◌, ℕ, ◌≤◌, leb}
use Rattle.std.proofs.Common.{ap, subst, inl, inr, ⊎_elim, leb-true, le-leb}
use Rattle.std.proofs.lemmas.Bool.{false≢true}
use mathlib.Core.List.{List, [], ◌∷◌, ◌++◌, map, flat_map}
use Rattle.utf8.specs.Abnf.{Rule, %◌-◌, ◌·◌, ◌//◌, Of, byte, joined, first, second}
use Rattle.utf8.specs.Forms.{Range, ◌‥◌, Form, ranges, join, forms, in_range}

pub and-true : (a b : Bool) → (a && b) ≡ true → (a ≡ true) × (b ≡ true)
and-true true b e = (refl, e)
and-true false b e = absurd (false≢true e)

abbrev pub In : Range → ℕ → Type 0
In (a ‥ z) b = (a ≤ b) × (b ≤ z)

pub lies : (r : Range) (b : ℕ) → In r b → in_range r b ≡ true
unfolding in_range
lies (a ‥ z) b h = rw (le-leb a b h.0, le-leb b z h.1)

pub lies-from : (r : Range) (b : ℕ) → in_range r b ≡ true → In r b
unfolding in_range
lies-from (a ‥ z) b e = let h = and-true (leb a b) (leb b z) e in (leb-true a b h.0, leb-true b z h.1)

pub misses : (r : Range) (b : ℕ) → (In r b → ⊥) → in_range r b ≡ false
misses r b h = go (in_range r b) refl
  where
    go : (t : Bool) → in_range r b ≡ t → t ≡ false
    go true e = absurd (h (lies-from r b e))
    go false e = refl

-- each byte lies in its range
pub data Fits : List Range → List ℕ → Type 0 where
  done : Fits [] []
  next : {r : Range} {b : ℕ} {rs : List Range} {bs : List ℕ} → in_range r b ≡ true → Fits rs bs → Fits (r ∷ rs) (b ∷ bs)

-- one of the forms fits
pub data Some : List Form → List ℕ → Type 0 where
  here : {f : Form} {fs : List Form} {bs : List ℕ} → Fits (ranges f) bs → Some (f ∷ fs) bs
  there : {f : Form} {fs : List Form} {bs : List ℕ} → Some fs bs → Some (f ∷ fs) bs

-- ---- alternatives

some_left : {fs : List Form} (gs : List Form) {bs : List ℕ} → Some fs bs → Some (fs ++ gs) bs
some_left gs (here d) = here d
some_left gs (there d) = there (some_left gs d)

some_right : (fs : List Form) {gs : List Form} {bs : List ℕ} → Some gs bs → Some (fs ++ gs) bs
some_right [] d = d
some_right (f ∷ fs) d = there (some_right fs d)

some-cases : (fs : List Form) {gs : List Form} {bs : List ℕ} → Some (fs ++ gs) bs → Some fs bs ⊎ Some gs bs
some-cases [] d = inr d
some-cases (f ∷ fs) (here d) = inl (here d)
some-cases (f ∷ fs) {gs} {bs} (there d) = ⊎_elim {C = Some (f ∷ fs) bs ⊎ Some gs bs} (λ e. inl (there e)) (λ e. inr e) (some-cases fs d)

-- ---- concatenations: of two lists of ranges, of a form and one of the forms gs, of one of fs and one of gs

fits-joined : {rs qs : List Range} {s t : List ℕ} → Fits rs s → Fits qs t → Fits (rs ++ qs) (s ++ t)
fits-joined done e = e
fits-joined (next h d) e = next h (fits-joined d e)

join-joined : {f : Form} {gs : List Form} {s t : List ℕ} → Fits (ranges f) s → Some gs t → Some (map (join f) gs) (s ++ t)
join-joined d (here e) = here (fits-joined d e)
join-joined d (there e) = there (join-joined d e)

pairs-joined : {fs gs : List Form} {s t : List ℕ} → Some fs s → Some gs t → Some (flat_map (λ f. map (join f) gs) fs) (s ++ t)
unfolding flat_map
pairs-joined (here d) e = some_left _ (join-joined d e)
pairs-joined {gs} (there {f} d) e = some_right (map (join f) gs) (pairs-joined d e)

-- the bytes are two parts, one such and one such
abbrev Parts : (List ℕ → Type 0) → (List ℕ → Type 0) → List ℕ → Type 0
Parts P Q bs = (s : List ℕ) × (t : List ℕ) × P s × Q t × (s ++ t ≡ bs)

fits-parts : (rs : List Range) {qs : List Range} {bs : List ℕ} → Fits (rs ++ qs) bs → Parts (Fits rs) (Fits qs) bs
fits-parts [] {qs} {bs} d = ([], bs, done, d, refl)
fits-parts (r ∷ rs) (next {b} h d) = let k = fits-parts rs d in (b ∷ k.0, k.1, next h k.2, k.3, ap (λ (x : List ℕ). b ∷ x) k.4)

join-parts : (f : Form) (gs : List Form) {bs : List ℕ} → Some (map (join f) gs) bs → Parts (Fits (ranges f)) (Some gs) bs
join-parts f [] {bs = bs} x' = elim x' [ ]
join-parts f (g ∷ gs) (here d) = let k = fits-parts (ranges f) d in (k.0, k.1, k.2, here k.3, k.4)
join-parts f (g ∷ gs) (there d) = let k = join-parts f gs d in (k.0, k.1, k.2, there k.3, k.4)

pairs-parts : (fs gs : List Form) {bs : List ℕ} → Some (flat_map (λ f. map (join f) gs) fs) bs → Parts (Some fs) (Some gs) bs
unfolding flat_map
pairs-parts [] gs {bs = bs} d = elim d [ ]
pairs-parts (f ∷ fs) gs {bs} d =
    ⊎_elim {C = Parts (Some (f ∷ fs)) (Some gs) bs}
    (λ e. let k = join-parts f gs e in (k.0, k.1, here k.2, k.3, k.4))
    (λ e. let k = pairs-parts fs gs e in (k.0, k.1, there k.2, k.3, k.4))
    (some-cases (map (join f) gs) d)

-- ---- rules

pub form_of : {p : Rule} {bs : List ℕ} → Of p bs → Some (forms p) bs
unfolding forms
form_of (byte {a} {z} {b} l h) = here (next (lies (a ‥ z) b (l, h)) done)
form_of (joined d e) = pairs-joined (form_of d) (form_of e)
form_of (first {q} d) = some_left (forms q) (form_of d)
form_of (second {p} d) = some_right (forms p) (form_of d)

pub of-form : (p : Rule) {bs : List ℕ} → Some (forms p) bs → Of p bs
unfolding forms
of-form (% a - z) (here d) = one d
  where
    one : {bs : List ℕ} → Fits ((a ‥ z) ∷ []) bs → Of (% a - z) bs
    one (next {b} h done) = let k = lies-from (a ‥ z) b h in byte k.0 k.1
of-form (% a - z) {bs = bs} (there x5) = elim x5 [ ]
of-form (p · q) d =
    let k = pairs-parts (forms p) (forms q) d in
    subst (λ (x : List ℕ). Of (p · q) x) k.4 (joined (of-form p k.2) (of-form q k.3))
of-form (p // q) {bs} d = ⊎_elim {C = Of (p // q) bs} (λ e. first (of-form p e)) (λ e. second (of-form q e)) (some-cases (forms p) d)
