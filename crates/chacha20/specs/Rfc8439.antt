-- ChaCha20 as RFC 8439 defines it, sections 2.1 to 2.4. A word is a number below 2^32, a byte one below 256, and a key, a
-- nonce, a state, a block and a message are lists of them. `tab f n` is the list f 0, f 1, .. f (n - 1), and `slice_index l k`
-- is what stands at place k of l, 0 where l ends before. Definitions only.
use Rattle.std.specs.Prelude.{ℕ, zero, suc, ◌+◌, ◌-◌, ◌*◌, ◌/◌, ◌%◌, ◌^◌, List, [], ◌∷◌, ◌++◌, length, bit_xor, slice_index, slice_set}
use Rattle.seq.specs.Lists.{tab}
use Rattle.seq.specs.Bytes.{word, little_endian}

-- 2.1: addition modulo 2^32, and the roll of a word by n bits towards its high end (`<<<`). `^` is `bit_xor`.
abbrev pub plus_word : ℕ → ℕ → ℕ
plus_word a b = (a + b) % 2 ^ 32

abbrev pub roll : ℕ → ℕ → ℕ
roll n x = x * 2 ^ n % 2 ^ 32 + x / 2 ^ (32 - n)

-- 2.1: the quarter round
unfoldable pub quarter : ℕ → ℕ → ℕ → ℕ → List ℕ
quarter a b c d =
    let a = plus_word a b in
    let d = roll 16 (bit_xor d a) in
    let c = plus_word c d in
    let b = roll 12 (bit_xor b c) in
    let a = plus_word a b in
    let d = roll 8 (bit_xor d a) in
    let c = plus_word c d in
    let b = roll 7 (bit_xor b c) in
    a ∷ b ∷ c ∷ d ∷ []

-- 2.2: the quarter round on the words x, y, z, w of the state
unfoldable pub quarter_round : ℕ → ℕ → ℕ → ℕ → List ℕ → List ℕ
quarter_round x y z w s =
    let q = quarter (slice_index s x) (slice_index s y) (slice_index s z) (slice_index s w) in
    slice_set (slice_set (slice_set (slice_set s x (slice_index q 0)) y (slice_index q 1)) z (slice_index q 2)) w (slice_index q 3)

-- 2.3: a column round and a diagonal round
unfoldable pub inner_block : List ℕ → List ℕ
inner_block s =
    let s = quarter_round 0 4 8 12 s in
    let s = quarter_round 1 5 9 13 s in
    let s = quarter_round 2 6 10 14 s in
    let s = quarter_round 3 7 11 15 s in
    let s = quarter_round 0 5 10 15 s in
    let s = quarter_round 1 6 11 12 s in
    let s = quarter_round 2 7 8 13 s in
    quarter_round 3 4 9 14 s

-- 2.3: n times the inner block
unfoldable pub rounds : ℕ → List ℕ → List ℕ
rounds zero s = s
rounds (suc n) s = inner_block (rounds n s)

-- 2.3: constants, the words of the key, block count, the words of the nonce; a word is four bytes, the lowest first
unfoldable pub initial : List ℕ → ℕ → List ℕ → List ℕ
initial key counter nonce =
    (0x61707865 ∷ 0x3320646e ∷ 0x79622d32 ∷ 0x6b206574 ∷ []) ++ tab (word key) 8 ++ (counter ∷ []) ++ tab (word nonce) 3

-- 2.3: the words of two states added
unfoldable pub sums : List ℕ → List ℕ → List ℕ
sums s t = tab (λ k. plus_word (slice_index s k) (slice_index t k)) 16

-- 2.3: the words of a state one after the other, each as four bytes, the lowest first
unfoldable pub serialized : List ℕ → List ℕ
serialized [] = []
serialized (w ∷ ws) = little_endian w ++ serialized ws

-- 2.3: the block function
unfoldable pub block_from : List ℕ → List ℕ
block_from state = serialized (sums (rounds 10 state) state)

unfoldable pub chacha_block : List ℕ → ℕ → List ℕ → List ℕ
chacha_block key counter nonce = block_from (initial key counter nonce)

-- 2.4: the keystream is the blocks of the counters 0, 1, 2 and so on, one after the other: the first n of them, and byte p
-- of them all, which is byte p mod 64 of block p / 64 (`keystream-blocks` of Blocks.antt says that the two agree)
unfoldable pub chacha_blocks : List ℕ → List ℕ → ℕ → List ℕ
chacha_blocks key nonce zero = []
chacha_blocks key nonce (suc n) = chacha_blocks key nonce n ++ chacha_block key n nonce

unfoldable pub keystream : List ℕ → List ℕ → ℕ → ℕ
keystream key nonce p = slice_index (chacha_block key (p / 64) nonce) (p % 64)

-- 2.4: a message and the bytes p, p + 1, .. of a stream, by exclusive or
unfoldable pub xored : (ℕ → ℕ) → ℕ → List ℕ → List ℕ
xored stream p bs = tab (λ k. bit_xor (slice_index bs k) (stream (p + k))) (length bs)

-- 2.4: the encryption of a message from byte p of the keystream on; it is the decryption too
unfoldable pub encrypted : List ℕ → List ℕ → ℕ → List ℕ → List ℕ
encrypted key nonce p bs = xored (keystream key nonce) p bs
