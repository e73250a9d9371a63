-- The shift register, as the code works it: a turn, the register after a message, and a table of what its turns make of four
-- bits. Definitions only.
use Rattle.std.specs.Prelude.{Bool, cond, List, [], ◌∷◌, ℕ, zero, suc, ◌+◌, ◌*◌, ◌/◌, ◌%◌, eqb}
use Rattle.std.specs.Int.Bits.{bit_xor}
use Rattle.seq.specs.Lists.{tab}
use Rattle.crc32.specs.Ieee8023.{transmitted}

-- a turn of the register: it shifts down by one, and where a 1 falls out the generator is added
unfoldable pub register_turn : ℕ → ℕ → ℕ
register_turn g y = bit_xor (y / 2) (cond (eqb (y % 2) 1) g 0)

-- the register after the bits of m: each is added at its low end, and it turns
unfoldable pub register_of : ℕ → ℕ → List Bool → ℕ
register_of g x [] = x
register_of g x (b ∷ m) = register_of g (register_turn g (bit_xor (cond b 1 0) x)) m

-- the generator without its leading term, as a number whose low bit is the coefficient of x^31
abbrev pub reflected : ℕ
reflected = 0xedb88320

-- k turns
unfoldable pub register_turns : ℕ → ℕ → ℕ → ℕ
register_turns g zero y = y
register_turns g (suc k) y = register_turns g k (register_turn g y)

-- the register after more bytes
unfoldable pub register_after : ℕ → List ℕ → ℕ
register_after x bytes = register_of reflected x (transmitted bytes)

-- 16 entries for each number of turns: entry 16 k + i is what 4 (k + 1) turns make of the four bits i
unfoldable pub table_entry : ℕ → ℕ
table_entry m = register_turns reflected (4 * (m / 16 + 1)) (m % 16)

unfoldable pub table : List ℕ
table = tab table_entry 256
