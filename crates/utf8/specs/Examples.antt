-- RFC 3629, section 7: its four examples, character numbers and their encoding; and bytes on which the two checks differ. By computing.
use Rattle.std.specs.Prelude.{◌≡◌, refl, true, false, ℕ}
use mathlib.Core.List.{List, [], ◌∷◌, map, flatten}
use Rattle.utf8.specs.Forms.{forms, in_range, following, accepts}
use Rattle.utf8.specs.Rfc3629.{encoded_scalar, tail, above, well_formed}
use Rattle.utf8.specs.Counted.{counted}

abbrev pub Encodes : List ℕ → List ℕ → Type 0
Encodes vs bs = flatten (map encoded_scalar vs) ≡ bs

-- "A", not identical to, alpha, "."; Korean for the Korean language; Japanese for Japanese; a byte order mark and a stump of tree
pub section-7 :
    Encodes (0x41 ∷ 0x2262 ∷ 0x391 ∷ 0x2E ∷ []) (0x41 ∷ 0xE2 ∷ 0x89 ∷ 0xA2 ∷ 0xCE ∷ 0x91 ∷ 0x2E ∷ []) ×
    Encodes (0xD55C ∷ 0xAD6D ∷ 0xC5B4 ∷ []) (0xED ∷ 0x95 ∷ 0x9C ∷ 0xEA ∷ 0xB5 ∷ 0xAD ∷ 0xEC ∷ 0x96 ∷ 0xB4 ∷ []) ×
    Encodes (0x65E5 ∷ 0x672C ∷ 0x8A9E ∷ []) (0xE6 ∷ 0x97 ∷ 0xA5 ∷ 0xE6 ∷ 0x9C ∷ 0xAC ∷ 0xE8 ∷ 0xAA ∷ 0x9E ∷ []) ×
    Encodes (0xFEFF ∷ 0x233B4 ∷ []) (0xEF ∷ 0xBB ∷ 0xBF ∷ 0xF0 ∷ 0xA3 ∷ 0x8E ∷ 0xB4 ∷ [])
unfolding flatten encoded_scalar tail above
section-7 = (refl, refl, refl, refl)

-- a surrogate passes on writing, and is refused on reading
pub checks-differ : (counted (0xED ∷ 0xA0 ∷ 0x80 ∷ []) ≡ true) × (well_formed (0xED ∷ 0xA0 ∷ 0x80 ∷ []) ≡ false)
unfolding counted well_formed accepts following in_range forms
checks-differ = (refl, refl)
