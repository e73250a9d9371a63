-- RFC 5234's notation for grammars, as far as RFC 3629 uses it: the rules, and the byte strings that a rule describes. Definitions only.
use Rattle.std.specs.Prelude.{◌≡◌, ℕ, ◌≤◌}
use mathlib.Core.List.{List, [], ◌∷◌, ◌++◌, flatten}

infix 80 %◌-◌ %◌
infixr 70 ◌·◌
infixr 60 ◌//◌
pub data Rule : Type 0 where
  -- 3.4: a byte from a to z
  %◌-◌ : ℕ → ℕ → Rule
  -- 3.1: the one, then the other
  ◌·◌ : Rule → Rule → Rule
  -- 3.2: the one or the other; written / there
  ◌//◌ : Rule → Rule → Rule

-- the bytes are a string of the rule
pub data Of : Rule → List ℕ → Type 0 where
  byte : {a z b : ℕ} → a ≤ b → b ≤ z → Of (% a - z) (b ∷ [])
  joined : {p q : Rule} {s t : List ℕ} → Of p s → Of q t → Of (p · q) (s ++ t)
  first : {p q : Rule} {s : List ℕ} → Of p s → Of (p // q) s
  second : {p q : Rule} {s : List ℕ} → Of q s → Of (p // q) s

-- 2.3: one byte
abbrev pub %◌ : ℕ → Rule
% a = % a - a

-- 3.7: exactly two, exactly three
abbrev pub 2⟨◌⟩ : Rule → Rule
2⟨ p ⟩ = p · p

abbrev pub 3⟨◌⟩ : Rule → Rule
3⟨ p ⟩ = p · p · p

-- the list's entries are all such
pub data Each {A : Type 0} (P : A → Type 0) : List A → Type 0 where
  none : Each P []
  more : {x : A} {xs : List A} → P x → Each P xs → Each P (x ∷ xs)

-- 3.6: the bytes are strings of the rule, one after the other, any number of them
abbrev pub *⟨◌⟩ : Rule → List ℕ → Type 0
*⟨ p ⟩ bs = (cs : List (List ℕ)) × Each (Of p) cs × (flatten cs ≡ bs)
