-- The laws of the two grammars: that the decisions are the languages, that a text of RFC 3629 is read in one way, as section 4's characters and as section 3's
-- values, and that the check on writing takes it too. They hold of any list of numbers: none above F7 is in a range.
use Rattle.std.specs.Prelude.{◌≡◌, refl, true, ◌↔◌, ℕ, ◌≤◌}
use Rattle.std.proofs.Common.{ap, ap₂, ◌∙◌, le_trans, arith}
use mathlib.Core.List.{List, [], ◌∷◌, map, flatten, head-eq_of_cons-eq, tail-eq_of_cons-eq}
use Rattle.utf8.specs.Abnf.{%◌-◌, ◌·◌, 2⟨◌⟩, 3⟨◌⟩, Of, byte, joined, first, second, Each, none, more, *⟨◌⟩}
use Rattle.utf8.specs.Forms.{forms}
use Rattle.utf8.specs.Rfc3629.{UTF8-tail, UTF8-3, UTF8-4, UTF8-char, UTF8-octets, well_formed, Scalar, encoded_scalar}
use Rattle.utf8.specs.Counted.{counted_char, counted}
use Rattle.utf8.specs.Deciding.{distinct, each, decides, one-division}
use Rattle.utf8.specs.Scalars.{scalar-char, one_value}

-- ---- section 4

utf8-distinct : distinct (forms UTF8-char) ≡ true
unfolding forms
utf8-distinct = refl

pub well_formed-is : (bs : List ℕ) → (well_formed bs ≡ true) ↔ UTF8-octets bs
unfolding well_formed
well_formed-is = decides UTF8-char utf8-distinct

-- the syntax is unambiguous
pub one-reading : {cs ds : List (List ℕ)} → Each (Of UTF8-char) cs → Each (Of UTF8-char) ds → flatten cs ≡ flatten ds → cs ≡ ds
one-reading = one-division UTF8-char utf8-distinct

-- ---- section 3: the same texts are the encodings of scalar values, one after the other, and of one list of them

values : {cs : List (List ℕ)} → Each (Of UTF8-char) cs → (vs : List ℕ) × Each Scalar vs × (map encoded_scalar vs ≡ cs)
values none = ([], none, refl)
values (more {x} d m) =
    let k = (scalar-char x).0 d in
    let ks = values m in
    (k.0 ∷ ks.0, more k.1 ks.1, ap₂ (λ (c : List ℕ) (cs : List (List ℕ)). c ∷ cs) k.2 ks.2)

characters : {vs : List ℕ} → Each Scalar vs → Each (Of UTF8-char) (map encoded_scalar vs)
characters none = none
characters (more {x} s m) = more ((scalar-char (encoded_scalar x)).1 (x, s, refl)) (characters m)

pub scalar-text : (bs : List ℕ) → UTF8-octets bs ↔ ((vs : List ℕ) × Each Scalar vs × (flatten (map encoded_scalar vs) ≡ bs))
scalar-text bs =
    (λ d. let k = values d.1 in (k.0, k.1, ap flatten k.2 ∙ d.2), λ k. (map encoded_scalar k.0, characters k.1, k.2))

same-values : (vs ws : List ℕ) → map encoded_scalar vs ≡ map encoded_scalar ws → vs ≡ ws
same-values [] [] e = refl
same-values [] (w ∷ ws) e = cc
same-values (v ∷ vs) [] e = cc
same-values (v ∷ vs) (w ∷ ws) e =
    ap₂ (λ (x : ℕ) (xs : List ℕ). x ∷ xs) (one_value v w (head-eq_of_cons-eq e)) (same-values vs ws (tail-eq_of_cons-eq e))

pub one_list : {vs ws : List ℕ} → Each Scalar vs → Each Scalar ws → flatten (map encoded_scalar vs) ≡ flatten (map encoded_scalar ws) → vs ≡ ws
one_list {vs} {ws} s t e = same-values vs ws (one-reading (characters s) (characters t) e)

-- ---- the check on writing

counted-distinct : distinct (forms counted_char) ≡ true
unfolding forms
counted-distinct = refl

pub counted_is : (bs : List ℕ) → (counted bs ≡ true) ↔ *⟨ counted_char ⟩ bs
unfolding counted
counted_is = decides counted_char counted-distinct

wider : {a z : ℕ} {s : List ℕ} (c y : ℕ) → (c ≤ a) × (z ≤ y) → Of (% a - z) s → Of (% c - y) s
wider c y h (byte l k) = byte (le_trans h.0 l) (le_trans k h.1)

-- each form of RFC 3629 lies within one of the check's
counted_of : (c : List ℕ) → Of UTF8-char c → Of counted_char c
counted_of c (first d) = first d
counted_of c (second (first (joined d e))) = second (first (joined (wider 0xC0 0xDF (omega arith) d) e))
counted_of c (second (second (first d))) = second (second (first (three d)))
  where
    three : {s : List ℕ} → Of UTF8-3 s → Of (% 0xE0 - 0xEF · 2⟨ UTF8-tail ⟩) s
    three (first (joined d (joined e f))) = joined (wider 0xE0 0xEF (omega arith) d) (joined (wider 0x80 0xBF (omega arith) e) f)
    three (second (first (joined d e))) = joined (wider 0xE0 0xEF (omega arith) d) e
    three (second (second (first (joined d (joined e f))))) = joined (wider 0xE0 0xEF (omega arith) d) (joined (wider 0x80 0xBF (omega arith) e) f)
    three (second (second (second (joined d e)))) = joined (wider 0xE0 0xEF (omega arith) d) e
counted_of c (second (second (second d))) = second (second (second (four d)))
  where
    four : {s : List ℕ} → Of UTF8-4 s → Of (% 0xF0 - 0xF7 · 3⟨ UTF8-tail ⟩) s
    four (first (joined d (joined e f))) = joined (wider 0xF0 0xF7 (omega arith) d) (joined (wider 0x80 0xBF (omega arith) e) f)
    four (second (first (joined d e))) = joined (wider 0xF0 0xF7 (omega arith) d) e
    four (second (second (joined d (joined e f)))) = joined (wider 0xF0 0xF7 (omega arith) d) (joined (wider 0x80 0xBF (omega arith) e) f)

pub well_formed-counted : (bs : List ℕ) → well_formed bs ≡ true → counted bs ≡ true
well_formed-counted bs e = let d = (well_formed-is bs).0 e in (counted_is bs).1 (d.0, each counted_of d.1, d.2)
