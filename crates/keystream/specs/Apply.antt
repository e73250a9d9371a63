-- A request for keystream, and its end. RFC 8439 counts blocks in 32 bits and the scope starts at block 0, so the
-- keystream has 2^32 blocks of 64 bytes, 2^38 bytes. Definitions only.
use Rattle.std.specs.Prelude.{Bool, cond, List, ℕ, ◌+◌, ◌-◌, ◌^◌, leb, length, Result, Ok, Err}
use Rattle.keystream.specs.declared.KeystreamEnd.{KeystreamEnd}
use Rattle.chacha20.specs.Rfc8439.{encrypted}

-- the bytes that the keystream has from byte p on: none where p is its end or beyond
abbrev pub left_at : ℕ → ℕ
left_at p = 2 ^ 38 - p

-- a request for n bytes from p on is granted if as many are left; so a request for no bytes always is
abbrev pub granted : ℕ → ℕ → Bool
granted p n = leb n (left_at p)

-- what a request for n bytes from p on is answered
unfoldable pub applied_of : ℕ → ℕ → Result ℕ KeystreamEnd
applied_of p n = cond (granted p n) (Ok (p + n)) (Err (record {}))

-- and what the bytes lent for it are afterwards
unfoldable pub bytes_after : List ℕ → List ℕ → ℕ → List ℕ → List ℕ
bytes_after key nonce p bs = cond (granted p (length bs)) (encrypted key nonce p bs) bs

-- the answer as a number: 0, or that of KeystreamEnd in the table of refusals
abbrev pub applied_number : Result ℕ KeystreamEnd → ℕ
applied_number (Ok _) = 0
applied_number (Err _) = 14
