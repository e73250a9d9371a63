-- The keyed shuffle. The scope: "for i from 0, range = len - i; draw 8 keystream bytes little-endian; draw again while the
-- value is not below the largest multiple of range that is at most 2^64; r = value mod range; exchange entries i and i + r of
-- the list 0, 1, 2 and so on." For any stream and any length of list, and what `shuffle` gives. Definitions only.
use Rattle.std.specs.Prelude.{◌≡◌, ℕ, zero, suc, ◌+◌, ◌-◌, ◌*◌, ◌/◌, ◌%◌, ◌^◌, ◌<◌, min, Bool, true, false, cond, List, [], ◌∷◌, length, take, replicate, nat_le, nat_lt, slice_index, Result, Ok, Err}
use Rattle.std.specs.List.{swap}
use Rattle.seq.specs.Lists.{tab}
use Rattle.chacha20.specs.Rfc8439.{keystream}
use Rattle.keystream.specs.Apply.{left_at}
use Rattle.keystream.specs.declared.KeystreamEnd.{KeystreamEnd}

-- eight bytes of a stream from place p on, the lowest first
unfoldable pub value_at : (ℕ → ℕ) → ℕ → ℕ
value_at stream p =
    stream p + stream (p + 1) * 2 ^ 8 + stream (p + 2) * 2 ^ 16 + stream (p + 3) * 2 ^ 24
    + stream (p + 4) * 2 ^ 32 + stream (p + 5) * 2 ^ 40 + stream (p + 6) * 2 ^ 48 + stream (p + 7) * 2 ^ 56

-- the largest multiple of range that is at most 2^64
unfoldable pub limit : ℕ → ℕ
limit range = 2 ^ 64 / range * range

-- a number r that is taken, where place q is the next; or one drawn again from there on
abbrev pub or_again : Bool → ℕ → ℕ → (ℕ → Result (ℕ × ℕ) KeystreamEnd) → Result (ℕ × ℕ) KeystreamEnd
or_again true r q again = Ok (r, q)
or_again false r q again = again q

-- drawn from place p on, where the stream has bytes for n draws: the number below range and the place after it, or that the
-- stream ends
unfoldable pub drawn : (ℕ → ℕ) → ℕ → ℕ → ℕ → Result (ℕ × ℕ) KeystreamEnd
drawn stream range zero p = Err (record {})
drawn stream range (suc n) p = or_again (nat_lt (value_at stream p) (limit range)) (value_at stream p % range) (p + 8) (drawn stream range n)

-- how many draws the keystream has bytes for from place p on
abbrev pub draws_from : ℕ → ℕ
draws_from p = left_at p / 8

-- what follows a draw, where the stream ended and where a number was found
abbrev pub onward : {A : Type 0} → Result (ℕ × ℕ) KeystreamEnd → A → (ℕ → ℕ → A) → A
onward (Ok d) ended found = found d.0 d.1
onward (Err _) ended found = ended

-- n entries more of the list l, of which i are made, drawn from place p on; those made where the stream ends
unfoldable pub made : (ℕ → ℕ) → ℕ → ℕ → ℕ → List ℕ → List ℕ
made stream zero i p l = take i l
made stream (suc n) i p l = onward (drawn stream (length l - i) (draws_from p) p) (take i l) (λ r q. made stream n (i + 1) q (swap l i (i + r)))

-- the keystream of a key, with a nonce of zeros
abbrev pub stream_of : List ℕ → ℕ → ℕ
stream_of key = keystream key (replicate 12 0)

-- the first n entries of the shuffle of len
unfoldable pub shuffled : List ℕ → ℕ → ℕ → List ℕ
shuffled key len n = made (stream_of key) n 0 0 (tab (λ k. k) len)

-- what is given: count cut to len and to the room, and nothing of a list that is longer than 4,096
abbrev pub longest_shuffle : ℕ
longest_shuffle = 4096

unfoldable pub shuffle_of : List ℕ → ℕ → ℕ → ℕ → List ℕ
shuffle_of key len count room = cond (nat_le len longest_shuffle) (shuffled key len (min (min count len) room)) []

-- the places lent: the entries, and 0 in the places beyond the last
unfoldable pub lent_for : ℕ → List ℕ → List ℕ
lent_for room entries = tab (λ k. slice_index entries k) room

-- the public key of the layout, which is the shuffle of 1,024 with it: "iwm v3 public layout key" and eight zeros
unfoldable pub layout_key : List ℕ
layout_key =
    0x69 ∷ 0x77 ∷ 0x6d ∷ 0x20 ∷ 0x76 ∷ 0x33 ∷ 0x20 ∷ 0x70 ∷ 0x75 ∷ 0x62 ∷ 0x6c ∷ 0x69 ∷ 0x63 ∷ 0x20
    ∷ 0x6c ∷ 0x61 ∷ 0x79 ∷ 0x6f ∷ 0x75 ∷ 0x74 ∷ 0x20 ∷ 0x6b ∷ 0x65 ∷ 0x79 ∷ replicate 8 0

-- a part of a permutation of the numbers below m
pub record PartOf (m : ℕ) (l : List ℕ) : Type 0 where
  pub below : (k : ℕ) → k < length l → slice_index l k < m
  pub once : (a b : ℕ) → a < length l → b < length l → slice_index l a ≡ slice_index l b → a ≡ b
