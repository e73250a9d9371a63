-- The draw and the shuffle on chosen values, which no key at hand would bring about. Computed by the definitions.
use Rattle.std.specs.Prelude.{◌≡◌, ℕ, ◌-◌, ◌^◌, true, false, [], ◌∷◌, ◌++◌, take, replicate, nat_lt, slice_index, refl}
use Rattle.seq.specs.Lists.{tab}
use Rattle.chacha20.specs.Rfc8439.{quarter, quarter_round, inner_block, rounds, initial, sums, serialized, block_from, chacha_block, keystream}
use Rattle.seq.specs.Bytes.{word, little_endian}
use Rattle.layout.specs.Layout.{layout}
use Rattle.picture.specs.Sizes.{block_count}
use Rattle.std.specs.Prelude.{Ok, Err}
use Rattle.shuffle.specs.Shuffle.{value_at, limit, drawn, made, shuffled, layout_key}

-- a range of 1 and the powers of two take every number
limit-whole : (limit 1 ≡ 2 ^ 64) × (limit 2 ≡ 2 ^ 64) × (limit 1024 ≡ 2 ^ 64) × (limit 4096 ≡ 2 ^ 64)
unfolding limit
limit-whole = (refl, refl, refl, refl)

-- at the limit and one below it
limit-3 : (nat_lt (2 ^ 64 - 1) (limit 3) ≡ false) × (nat_lt (2 ^ 64 - 2) (limit 3) ≡ true)
unfolding limit
limit-3 = (refl, refl)

limit-1000 : (nat_lt (2 ^ 64 - 616) (limit 1000) ≡ false) × (nat_lt (2 ^ 64 - 617) (limit 1000) ≡ true)
unfolding limit
limit-1000 = (refl, refl)

limit-4095 : (nat_lt (2 ^ 64 - 16) (limit 4095) ≡ false) × (nat_lt (2 ^ 64 - 17) (limit 4095) ≡ true)
unfolding limit
limit-4095 = (refl, refl)

-- a stream of eight bytes 255, whose number is 2^64 - 1, and then of 2, 1 and zeros
highest : ℕ → ℕ
highest p = slice_index (replicate 8 255 ++ 2 ∷ 1 ∷ []) p

-- the bytes are taken lowest first
lowest-first : value_at highest 8 ≡ 258
unfolding value_at highest
lowest-first = refl

-- for a range of 3 the first number is drawn again, for one of 4 it is not, and where no draw is left the stream ends
drawn-again : (drawn highest 3 2 0 ≡ Ok (0, 16)) × (drawn highest 4 2 0 ≡ Ok (3, 8)) × (drawn highest 3 1 0 ≡ Err (record {}))
unfolding value_at limit drawn highest
drawn-again = (refl, refl, refl)

-- entry 0 is exchanged with entry 258 mod 4; a list that is not shuffled further keeps its order from there
exchanged-once : made highest 2 0 8 (7 ∷ 8 ∷ 9 ∷ 6 ∷ []) ≡ 9 ∷ 8 ∷ []
unfolding value_at limit drawn made highest
exchanged-once = refl

-- the layout begins as the shuffle of 1,024 with its key does; that it is that shuffle to its end is run
layout-begins : shuffled layout_key block_count 2 ≡ take 2 layout
unfolding layout layout_key shuffled made drawn value_at limit tab keystream chacha_block block_from serialized little_endian sums rounds inner_block
    quarter_round quarter initial word
layout-begins = refl
