-- A grammar as a table, and the decision of a text by it, byte by byte. Definitions only.
use Rattle.std.specs.Prelude.{Bool, true, false, ◌&&◌, cond, ℕ, leb}
use mathlib.Core.List.{List, [], ◌∷◌, ◌++◌, map, flat_map}
use Rattle.utf8.specs.Abnf.{Rule, %◌-◌, ◌·◌, ◌//◌}

infix 80 ◌‥◌
pub data Range : Type 0 where
  ◌‥◌ : ℕ → ℕ → Range

unfoldable pub in_range : Range → ℕ → Bool
in_range (a ‥ z) b = leb a b && leb b z

-- the ranges of a character's bytes: of the first, and of those that follow
pub record Form : Type 0 where
  pub lead : Range
  pub rest : List Range

abbrev pub ranges : Form → List Range
ranges f = f.lead ∷ f.rest

abbrev pub join : Form → Form → Form
join f g = record { lead = f.lead; rest = f.rest ++ ranges g }

-- the forms of a rule's strings
unfoldable pub forms : Rule → List Form
unfolding flat_map
forms (% a - z) = record { lead = a ‥ z; rest = [] } ∷ []
forms (p · q) = flat_map (λ f. map (join f) (forms q)) (forms p)
forms (p // q) = forms p ++ forms q

-- no byte lies here
abbrev pub never : Range
never = 1 ‥ 0

-- what has to follow byte b at the start of a character: the rest of the first form that starts with it, and where there is none, a byte that there isn't
unfoldable pub following : List Form → ℕ → List Range
following [] b = never ∷ []
following (f ∷ fs) b = cond (in_range f.lead b) f.rest (following fs b)

-- the bytes are a text of these forms, where `due` has to come first, of a character that has begun
unfoldable pub accepts : List Form → List Range → List ℕ → Bool
accepts fs [] [] = true
accepts fs (r ∷ due) [] = false
accepts fs [] (b ∷ bs) = accepts fs (following fs b) bs
accepts fs (r ∷ due) (b ∷ bs) = in_range r b && accepts fs due bs
