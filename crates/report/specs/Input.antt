-- What the program votes reads (section 20 of the scope): 4,096 bytes as 1,024 little-endian f32, no key. Definitions only.
use Rattle.std.specs.Prelude.{not, cond, List, ℕ, eqb, length, Float, Result, Err, None}
use Rattle.std.specs.Float.{binary32}
use Rattle.std.specs.Float.Ieee.{of_bits}
use Rattle.seq.specs.Lists.{tab}
use Rattle.refusal.specs.declared.Refusal.{Refusal}
use Rattle.refusal.specs.declared.Refusal.TheVariants.{BadLength}
use Rattle.seq.specs.Bytes.{word}
use Rattle.picture.specs.Sizes.{block_count}
use Rattle.extract.specs.Extract.{votes_reading}

-- vote k is the f32 whose pattern is word k of the bytes, the lowest byte first
unfoldable pub vote_from : List ℕ → ℕ → Float
vote_from bytes k = of_bits binary32 (word bytes k)

unfoldable pub bytes_reading : List ℕ → Result (List ℕ) Refusal
bytes_reading bytes =
    cond (not (eqb (length bytes) 4096)) (Err (BadLength (length bytes)))
    (votes_reading (tab (vote_from bytes) block_count) None)
