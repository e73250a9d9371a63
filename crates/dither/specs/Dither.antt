-- The dither: the layout's key, nonce 1 then eleven zeros, 4,096 little-endian words; each is the word shifted right by 8,
-- divided by 2^24. Block b, coefficient k uses number 4 b + k.
-- Definitions only.
use Rattle.std.specs.Prelude.{List, ◌∷◌, ℕ, ◌/◌, ◌%◌, ◌^◌, pos, replicate, Float}
use Rattle.std.specs.Float.{binary32}
use Rattle.std.specs.Float.Ieee.{div, of_int}
use Rattle.shuffle.specs.Shuffle.{layout_key}
use Rattle.chacha20.specs.Rfc8439.{chacha_block}
use Rattle.seq.specs.Bytes.{word}
use Rattle.float.specs.Base.{two_to}

unfoldable pub dither_nonce : List ℕ
dither_nonce = 1 ∷ replicate 11 0

-- word k of a block's bytes as a number of the dither
unfoldable pub dithered : List ℕ → ℕ → Float
unfolding div of_int
dithered bytes k = div binary32 (of_int binary32 (pos (word bytes k / 2 ^ 8))) (two_to 24)

-- number n: word n of the keystream, which is word n mod 16 of block n / 16
unfoldable pub dither_of : ℕ → Float
dither_of n = dithered (chacha_block layout_key (n / 16) dither_nonce) (n % 16)
