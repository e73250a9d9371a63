-- The decision by a table is the grammar's language, and a text has one division into characters, where no two forms start with the same byte:
-- the first byte of a character alone says which form the rest has to fit.
use Rattle.std.specs.Prelude.{◌≡◌, refl, Bool, true, false, ◌&&◌, ◌||◌, cond, ◌⊎◌, ◌↔◌, ℕ, ltb}
use Rattle.std.proofs.Common.{sym, ap, ap₂, subst, ◌∙◌, inl, inr, ⊎_elim, arith, ltb-true}
use Rattle.std.proofs.lemmas.Bool.{false≢true}
use mathlib.Core.List.{List, [], ◌∷◌, ◌++◌, flatten, head-eq_of_cons-eq, tail-eq_of_cons-eq}
use Rattle.utf8.specs.Abnf.{Rule, Of, Each, none, more, *⟨◌⟩}
use Rattle.utf8.specs.Forms.{Range, ◌‥◌, Form, forms, in_range, never, following, accepts}
use Rattle.utf8.specs.Strings.{and-true, lies-from, misses, Fits, done, next, Some, here, there, form_of, of-form}

pub each : {A : Type 0} {P Q : A → Type 0} → ((x : A) → P x → Q x) → {xs : List A} → Each P xs → Each Q xs
each f none = none
each f (more {x} d m) = more (f x d) (each f m)

-- ---- the first byte says what has to follow

-- no byte lies in both ranges
abbrev apart : Range → Range → Bool
apart (a ‥ z) (c ‥ y) = ltb z c || ltb y a

abbrev fresh : Range → List Form → Bool
fresh r [] = true
fresh r (f ∷ fs) = apart r f.lead && fresh r fs

-- no two forms start with the same byte
abbrev pub distinct : List Form → Bool
distinct [] = true
distinct (f ∷ fs) = fresh f.lead fs && distinct fs

not-both : (r s : Range) (b : ℕ) → apart r s ≡ true → in_range s b ≡ true → in_range r b ≡ false
not-both (a ‥ z) (c ‥ y) b t h =
    let k = lies-from (c ‥ y) b h in
    misses (a ‥ z) b (λ j. ⊎_elim (λ e. omega (arith, ltb-true z c e)) (λ e. omega (arith, ltb-true y a e)) (or-true (ltb z c) (ltb y a) t))
  where
    or-true : (p q : Bool) → (p || q) ≡ true → (p ≡ true) ⊎ (q ≡ true)
    or-true true q e = inl refl
    or-true false q e = inr e

missed : (r : Range) {b : ℕ} {c : List ℕ} {fs : List Form} → fresh r fs ≡ true → Some fs (b ∷ c) → in_range r b ≡ false
missed r {b} t (here {f} {fs} (next h d)) = not-both r f.lead b (and-true (apart r f.lead) (fresh r fs) t).0 h
missed r t (there {f} {fs} d) = missed r (and-true (apart r f.lead) (fresh r fs) t).1 d

-- a character, by its first byte
data Char (fs : List Form) : List ℕ → Type 0 where
  char : {b : ℕ} {c : List ℕ} → Fits (following fs b) c → Char fs (b ∷ c)

some-char : {fs : List Form} {bs : List ℕ} → distinct fs ≡ true → Some fs bs → Char fs bs
unfolding following
some-char t (here {f} {fs} (next {b} {bs = c} h d)) = char {b = b} {c = c} (rw h d)
some-char t (there {f} {fs} d) = let k = and-true (fresh f.lead fs) (distinct fs) t in past k.0 d (some-char k.1 d)
  where
    past : {bs : List ℕ} → fresh f.lead fs ≡ true → Some fs bs → Char fs bs → Char (f ∷ fs) bs
    past t d (char {b} {c} e) = char {b = b} {c = c} (rw (missed f.lead t d) e)

following-some : (fs : List Form) (b : ℕ) {c : List ℕ} → Fits (following fs b) c → Some fs (b ∷ c)
unfolding following
following-some [] b (next {b = e} h done) = absurd (omega (arith, lies-from never e h))
following-some (f ∷ fs) b {c} d = pick (in_range f.lead b) refl d (following-some fs b)
  where
    pick : (t : Bool) → in_range f.lead b ≡ t → Fits (cond t f.rest (following fs b)) c → (Fits (following fs b) c → Some fs (b ∷ c))
        → Some (f ∷ fs) (b ∷ c)
    pick true e d rest = here (next e d)
    pick false e d rest = there (rest d)

-- ---- the decision

-- what is due is read, and nothing else
accepts-due : (fs : List Form) {due : List Range} {c : List ℕ} → Fits due c → (t : List ℕ) → accepts fs due (c ++ t) ≡ accepts fs [] t
unfolding accepts
accepts-due fs done t = refl
accepts-due fs (next h d) t = rw h (accepts-due fs d t)

complete : {fs : List Form} {cs : List (List ℕ)} → Each (Char fs) cs → accepts fs [] (flatten cs) ≡ true
unfolding accepts flatten
complete none = refl
complete {fs} (more {xs} (char d) e) = accepts-due fs d (flatten xs) ∙ complete e

sound : (fs : List Form) (due : List Range) (bs : List ℕ) → accepts fs due bs ≡ true
    → (c : List ℕ) × (cs : List (List ℕ)) × Fits due c × Each (Char fs) cs × (c ++ flatten cs ≡ bs)
unfolding accepts flatten
sound fs [] [] e = ([], [], done, none, refl)
sound fs (r ∷ due) [] e = absurd (false≢true e)
sound fs [] (b ∷ bs) e =
    let k = sound fs (following fs b) bs e in
    ([], (b ∷ k.0) ∷ k.1, done, more (char k.2) k.3, ap (λ (x : List ℕ). b ∷ x) k.4)
sound fs (r ∷ due) (b ∷ bs) e =
    let h = and-true (in_range r b) (accepts fs due bs) e in
    let k = sound fs due bs h.1 in
    (b ∷ k.0, k.1, next h.0 k.2, k.3, ap (λ (x : List ℕ). b ∷ x) k.4)

-- ---- one division

-- what fits one form ends at the same place
same_end : {rs : List Range} {c d s t : List ℕ} → Fits rs c → Fits rs d → c ++ s ≡ d ++ t → (c ≡ d) × (s ≡ t)
same_end done done e = (refl, e)
same_end (next h d) (next h' d') e =
    let k = same_end d d' (tail-eq_of_cons-eq e) in
    (ap₂ (λ (x : ℕ) (xs : List ℕ). x ∷ xs) (head-eq_of_cons-eq e) k.0, k.1)

same-division : {fs : List Form} {cs ds : List (List ℕ)} → Each (Char fs) cs → Each (Char fs) ds → flatten cs ≡ flatten ds → cs ≡ ds
unfolding flatten
same-division none none e = refl
same-division none (more (char d) m) e = cc
same-division (more (char d) m) none e = cc
same-division {fs} (more (char {b} d) m) (more (char {c} d') m') e =
    let f = subst (λ (x : ℕ). Fits (following fs x) c) (sym (head-eq_of_cons-eq e)) d' in
    let k = same_end d f (tail-eq_of_cons-eq e) in
    let rest = same-division m m' k.1 in
    let h = head-eq_of_cons-eq e in
    cc

-- ---- the laws, over a rule

module _ (p : Rule) (t : distinct (forms p) ≡ true) where
  of_char : (bs : List ℕ) → Char (forms p) bs → Of p bs
  of_char bs (char {b} d) = of-form p (following-some (forms p) b d)

  char_of : (bs : List ℕ) → Of p bs → Char (forms p) bs
  char_of bs d = some-char t (form_of d)

  -- the decision is the language
  pub decides : (bs : List ℕ) → (accepts (forms p) [] bs ≡ true) ↔ *⟨ p ⟩ bs
  decides bs = (λ e. whole (sound (forms p) [] bs e), λ d. subst (λ (x : List ℕ). accepts (forms p) [] x ≡ true) d.2 (complete (each char_of d.1)))
    where
      none_left : {c : List ℕ} → Fits [] c → (cs : List (List ℕ)) → c ++ flatten cs ≡ bs → flatten cs ≡ bs
      none_left done cs e = e

      whole : (c : List ℕ) × (cs : List (List ℕ)) × Fits [] c × Each (Char (forms p)) cs × (c ++ flatten cs ≡ bs) → *⟨ p ⟩ bs
      whole k = (k.1, each of_char k.3, none_left k.2 k.1 k.4)

  -- and a text has one division into characters
  pub one-division : {cs ds : List (List ℕ)} → Each (Of p) cs → Each (Of p) ds → flatten cs ≡ flatten ds → cs ≡ ds
  one-division m n e = same-division (each char_of m) (each char_of n) e
