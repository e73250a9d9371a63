-- The matrix's rule, computed over whole numbers: each constant scaled by 2 ^ 27 is whole, and the sum of the products of two
-- rows is within 2 ^ 31 of 2 ^ 54 for a row with itself, of 0 for two rows.
use Rattle.std.specs.Prelude.{Bool, true, false, ◌&&◌, cond, List, [], ◌∷◌, ℕ, suc, ◌+◌, ◌*◌, ◌/◌, ◌%◌, ◌^◌, T, eqb, leb, pos, negsuc, Float}
use Rattle.std.specs.Float.{nan, inf, fin}
use Rattle.std.specs.Float.Ieee.{unlike, of_bits}
use Rattle.seq.specs.Table.{every}
use Rattle.dct.specs.Matrix.{matrix}

-- a value scaled by 2 ^ 27, in size, and whether that is whole
abbrev scaled : Float → ℕ
scaled nan = 0
scaled (inf s) = 0
scaled (fin s m (pos k)) = m * 2 ^ k * 2 ^ 27
scaled (fin s m (negsuc k)) = m * 2 ^ 27 / 2 ^ suc k

abbrev is_whole : Float → Bool
is_whole nan = false
is_whole (inf s) = false
is_whole (fin s m (pos k)) = true
is_whole (fin s m (negsuc k)) = eqb (m * 2 ^ 27 % 2 ^ suc k) 0

abbrev is_negative : Float → Bool
is_negative nan = false
is_negative (inf s) = s
is_negative (fin s m e) = s

-- the sum of the products that are not negative, and of the sizes of those that are
abbrev parts : Bool → List Float → List Float → ℕ
parts s [] ys = 0
parts s (x ∷ xs) [] = 0
parts s (x ∷ xs) (y ∷ ys) = cond (unlike (unlike (is_negative x) (is_negative y)) s) 0 (scaled x * scaled y) + parts s xs ys

-- |plus - minus - target| <= 2 ^ 31
abbrev near : ℕ → ℕ → ℕ → Bool
near target plus minus = leb plus (minus + target + 2 ^ 31) && leb (minus + target) (plus + 2 ^ 31)

abbrev near_row : ℕ → List Float → ℕ → List Float → Bool
near_row k x l y = near (cond (eqb k l) (2 ^ 54) 0) (parts false x y) (parts true x y)

pub constants-whole : T (every (λ k row. every (λ i x. is_whole x) 0 row) 0 matrix)
unfolding of_bits
constants-whole = tt

pub rows-orthogonal : T (every (λ k x. every (λ l y. near_row k x l y) 0 matrix) 0 matrix)
unfolding of_bits
rows-orthogonal = tt
