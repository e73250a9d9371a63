-- Blocks: their bytes word by word, how many there are, and that the keystream is one block after the other.
use Rattle.std.specs.Prelude.{◌≡◌, ℕ, zero, suc, ◌+◌, ◌*◌, ◌/◌, ◌%◌, ◌<◌, List, [], ◌∷◌, ◌++◌, length, slice_index, slice_set, refl}
use Rattle.std.proofs.Common.{sym, ◌∙◌, ap, ap₂, append_assoc, append-nil, mod-lt, add-one, arith, lit<}
use Rattle.seq.specs.Tab.{length-tab, tab-same, tab-append, tab-get_or}
use Rattle.seq.specs.Lists.{tab}
use Rattle.chacha20.specs.Rfc8439.{initial, sums, serialized, block_from, chacha_block, chacha_blocks, keystream}
use Rattle.seq.specs.Bytes.{little_endian}

-- a block is block 0 with the counter put into word 12 of its state
pub block-counted : (key : List ℕ) (counter : ℕ) (nonce : List ℕ) → block_from (slice_set (initial key 0 nonce) 12 counter) ≡ chacha_block key counter nonce
unfolding initial tab chacha_block
block-counted key counter nonce = refl

serialized-append : (xs ys : List ℕ) → serialized (xs ++ ys) ≡ serialized xs ++ serialized ys
unfolding serialized
serialized-append [] ys = refl
serialized-append (x ∷ xs) ys =
    ap (λ (bs : List ℕ). little_endian x ++ bs) (serialized-append xs ys) ∙ sym (append_assoc (little_endian x) (serialized xs) (serialized ys))

-- one word more
pub serialized-more : (f : ℕ → ℕ) (n : ℕ) → serialized (tab f (n + 1)) ≡ serialized (tab f n) ++ little_endian (f n)
unfolding tab serialized
serialized-more f n = rw (add-one, serialized-append) (ap (λ (bs : List ℕ). serialized (tab f n) ++ bs) (append-nil (little_endian (f n))))

length-serialized : (ws : List ℕ) → length (serialized ws) ≡ 4 * length ws
unfolding serialized little_endian
length-serialized [] = refl
length-serialized (w ∷ ws) = let h : length (serialized ws) ≡ 4 * length ws = length-serialized ws in omega arith

length-block : (key : List ℕ) (counter : ℕ) (nonce : List ℕ) → length (chacha_block key counter nonce) ≡ 64
unfolding chacha_block block_from sums
length-block key counter nonce = length-serialized _ ∙ ap (λ n. 4 * n) (length-tab _ 16)

serialized-below : (ws : List ℕ) (k : ℕ) → slice_index (serialized ws) k < 256
unfolding serialized little_endian
serialized-below [] k = lit< tt
serialized-below (w ∷ ws) zero = mod-lt _ (lit< tt)
serialized-below (w ∷ ws) (suc zero) = mod-lt _ (lit< tt)
serialized-below (w ∷ ws) (suc (suc zero)) = mod-lt _ (lit< tt)
serialized-below (w ∷ ws) (suc (suc (suc zero))) = mod-lt _ (lit< tt)
serialized-below (w ∷ ws) (suc (suc (suc (suc k)))) = serialized-below ws k

-- the bytes of a block are bytes, and so are those of the keystream
pub block-below : (key : List ℕ) (counter : ℕ) (nonce : List ℕ) (k : ℕ) → slice_index (chacha_block key counter nonce) k < 256
unfolding chacha_block block_from
block-below key counter nonce k = serialized-below _ k

-- byte j of block n
pub keystream-in : (key nonce : List ℕ) (n j p : ℕ) → p ≡ 64 * n + j → j < 64 → keystream key nonce p ≡ slice_index (chacha_block key n nonce) j
unfolding keystream
keystream-in key nonce n j p e h =
    let block : p / 64 ≡ n = omega arith in
    let byte : p % 64 ≡ j = omega arith in
    rw (block, byte)

-- a block as a part of the keystream, and all blocks below n as its beginning
block-of-keystream : (key nonce : List ℕ) (n : ℕ) → tab (λ k. keystream key nonce (64 * n + k)) 64 ≡ chacha_block key n nonce
block-of-keystream key nonce n =
    tab-same _ (λ k. slice_index (chacha_block key n nonce) k) 64 (λ k h. keystream-in key nonce n k _ refl h)
    ∙ rw (← length-block key n nonce) (tab-get_or (chacha_block key n nonce) 0)

pub keystream-blocks : (key nonce : List ℕ) (n : ℕ) → tab (keystream key nonce) (64 * n) ≡ chacha_blocks key nonce n
unfolding tab chacha_blocks
keystream-blocks key nonce zero = refl
keystream-blocks key nonce (suc n) =
    let more : 64 * suc n ≡ 64 * n + 64 = omega arith in
    ap (tab (keystream key nonce)) more
    ∙ (tab-append (keystream key nonce) (64 * n) 64 ∙ ap₂ ◌++◌ (keystream-blocks key nonce n) (block-of-keystream key nonce n))
