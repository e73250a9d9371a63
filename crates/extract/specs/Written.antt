-- What the writer makes is a record: 46 bytes, each below 256. A text that is not refused has bytes below 256, by the check on
-- writing.
use Rattle.std.specs.Prelude.{◌≡◌, refl, leb, ltb, get_or, take, drop, Option, Some, None, IfSome, Ok, Err}
use Rattle.std.proofs.Math.Path.{ap}
use Rattle.std.proofs.Common.{◌∙◌, subst, mod-lt, arith, lit<, leb-true, ltb-true}
use mathlib.Core.Bool.{Bool, true, false, not, cond, ◌&&◌}
use mathlib.Core.List.{List, [], ◌∷◌, ◌++◌, flatten}
use Prim.Native.Nat.{ℕ, zero, suc, ◌+◌, ◌-◌, ◌/◌, ◌%◌, ◌≤◌, ◌<◌}
use Rattle.std.specs.Int.Bits.{bit_xor}
use Rattle.std.proofs.lemmas.Nat.{xor_lt}
use Rattle.std.proofs.Math.ListN.{length, replicate}
use Rattle.seq.specs.Lists.{tab, on_part}
use Rattle.crc32.specs.Ieee8023.{crc_of}
use Rattle.chacha20.specs.Rfc8439.{keystream, xored, encrypted}
use Rattle.chacha20.specs.Blocks.{block-below}
use Rattle.utf8.specs.Abnf.{Rule, %◌-◌, ◌·◌, ◌//◌, Of, byte, joined, first, second, Each, none, more}
use Rattle.utf8.specs.Counted.{counted_char, counted}
use Rattle.utf8.specs.Texts.{counted_is}
use Rattle.refusal.specs.declared.Refusal.TheVariants.{TextTooLong, TextNotUtf8}
use Rattle.record.specs.declared.Lock.{Lock}
use Rattle.record.specs.Record.{short, inner_at, outer_at, length_at, covered, head_of, laid_out, locked, record_of, built_of, with_crc}
use Rattle.seq.specs.Bytes.{big_endian, Bytes}
use Rattle.record.specs.Laws.{length-summed, length-laid, length-locked}
use Rattle.correction.specs.Demand3.{IsRecord}

-- ---- lists of bytes

bytes-none : Bytes []
bytes-none i = lit< tt

bytes_one : (x : ℕ) (xs : List ℕ) → x < 256 → Bytes xs → Bytes (x ∷ xs)
bytes_one x xs h k zero = h
bytes_one x xs h k (suc i) = k i

bytes-append : (xs ys : List ℕ) → Bytes xs → Bytes ys → Bytes (xs ++ ys)
bytes-append [] ys h k i = k i
bytes-append (x ∷ xs) ys h k zero = h 0
bytes-append (x ∷ xs) ys h k (suc i) = bytes-append xs ys (λ j. h (suc j)) k i

bytes_take : (n : ℕ) (xs : List ℕ) → Bytes xs → Bytes (take n xs)
bytes_take zero xs h i = lit< tt
bytes_take (suc n) [] h i = lit< tt
bytes_take (suc n) (x ∷ xs) h zero = h 0
bytes_take (suc n) (x ∷ xs) h (suc i) = bytes_take n xs (λ j. h (suc j)) i

bytes_drop : (n : ℕ) (xs : List ℕ) → Bytes xs → Bytes (drop n xs)
bytes_drop zero xs h i = h i
bytes_drop (suc n) [] h i = lit< tt
bytes_drop (suc n) (x ∷ xs) h i = bytes_drop n xs (λ j. h (suc j)) i

bytes-zeros : (n : ℕ) → Bytes (replicate n 0)
bytes-zeros zero i = lit< tt
bytes-zeros (suc n) zero = lit< tt
bytes-zeros (suc n) (suc i) = bytes-zeros n i

bytes-tab : (f : ℕ → ℕ) (n : ℕ) → ((k : ℕ) → f k < 256) → Bytes (tab f n)
unfolding tab
bytes-tab f zero h = bytes-none
bytes-tab f (suc n) h = bytes-append (tab f n) (f n ∷ []) (bytes-tab f n h) (bytes_one (f n) [] (h n) bytes-none)

-- ---- the text

-- no byte of the rule's strings lies above 255
below : Rule → Bool
below (% a - z) = ltb z 256
below (p · q) = below p && below q
below (p // q) = below p && below q

both : (a b : Bool) → (a && b) ≡ true → (a ≡ true) × (b ≡ true)
both true b e = (refl, e)
both false b e = absurd (mathlib.Core.Bool.false≢true e)

string_bytes : (r : Rule) {s : List ℕ} → below r ≡ true → Of r s → Bytes s
unfolding below
string_bytes (% a - z) h (byte {b = b} p q) = bytes_one b [] (omega (arith, ltb-true z 256 h)) bytes-none
string_bytes (p · q) h (joined {s = s} {t = t} a b) =
    let k = both (below p) (below q) h in bytes-append s t (string_bytes p k.0 a) (string_bytes q k.1 b)
string_bytes (p // q) h (first a) = string_bytes p (both (below p) (below q) h).0 a
string_bytes (p // q) h (second b) = string_bytes q (both (below p) (below q) h).1 b

strings-bytes : {cs : List (List ℕ)} → Each (Of counted_char) cs → Bytes (flatten cs)
unfolding below flatten
strings-bytes none = bytes-none
strings-bytes (more {x = c} {xs = cs} d m) = bytes-append c (flatten cs) (string_bytes counted_char refl d) (strings-bytes m)

counted-bytes : (text : List ℕ) → counted text ≡ true → Bytes text
counted-bytes text e =
    let k = (counted_is text).0 e in
    subst Bytes k.2 (strings-bytes k.1)

-- ---- the record

cipher-bytes : (key nonce : List ℕ) (p : ℕ) (bs : List ℕ) → Bytes bs → Bytes (encrypted key nonce p bs)
unfolding encrypted xored keystream
cipher-bytes key nonce p bs h =
    bytes-tab (λ k. bit_xor (get_or bs k 0) (keystream key nonce (p + k))) (length bs)
    (λ k. xor_lt 8 (get_or bs k 0) (keystream key nonce (p + k)) (h k) (block-below key ((p + k) / 64) nonce ((p + k) % 64)))

word_bytes : (w : ℕ) → Bytes (big_endian w)
unfolding big_endian
word_bytes w zero = mod-lt _ (lit< tt)
word_bytes w (suc zero) = mod-lt _ (lit< tt)
word_bytes w (suc (suc zero)) = mod-lt _ (lit< tt)
word_bytes w (suc (suc (suc zero))) = mod-lt _ (lit< tt)
word_bytes w (suc (suc (suc (suc i)))) = lit< tt

summed-bytes : (bs : List ℕ) → Bytes bs → Bytes (with_crc bs)
unfolding with_crc
summed-bytes bs h = bytes-append bs (big_endian (crc_of bs)) h (word_bytes (crc_of bs))

module _ (lock : Option Lock) (four : IfSome lock (λ l. length l.salt ≡ 4)) (salt : IfSome lock (λ l. Bytes l.salt)) where
  head_bytes : Bytes (head_of short lock)
  unfolding head_of
  head_bytes = go lock salt
    where
      go : (l : Option Lock) → IfSome l (λ k. Bytes k.salt) → Bytes (head_of short l)
      go (Some l) h = bytes_one short.keyed l.salt (lit< tt) h
      go None h = bytes_one short.plain (replicate 4 0) (lit< tt) (bytes-zeros 4)

  laid-bytes : (text : List ℕ) → length text ≤ short.room → Bytes text → Bytes (laid_out short text lock)
  unfolding laid_out
  laid-bytes text fits h =
      let rest : List ℕ = replicate (short.room - length text) 0 in
      bytes-append (head_of short lock) (length text ∷ text ++ rest) head_bytes
      (bytes_one (length text) (text ++ rest) (omega arith) (bytes-append text rest h (bytes-zeros (short.room - length text))))

  locked-bytes : (bs : List ℕ) → Bytes bs → Bytes (locked short lock bs)
  unfolding locked covered on_part
  locked-bytes bs h = go lock
    where
      n : ℕ
      n = outer_at short - length_at

      go : (l : Option Lock) → Bytes (locked short l bs)
      go (Some l) =
          bytes-append (take length_at bs) _ (bytes_take length_at bs h)
          (bytes-append (encrypted l.key (replicate 12 0) 0 (take n (drop length_at bs))) (drop n (drop length_at bs))
          (cipher-bytes l.key (replicate 12 0) 0 (take n (drop length_at bs)) (bytes_take n (drop length_at bs) (bytes_drop length_at bs h)))
          (bytes_drop n (drop length_at bs) (bytes_drop length_at bs h)))
      go None = h

  pub is-record : (text : List ℕ) → length text ≤ short.room → counted text ≡ true → IsRecord (record_of short text lock)
  unfolding record_of
  is-record text fits good =
      let inner = laid_out short text lock in
      let l : length inner ≡ inner_at short = length-laid short text lock four fits in
      let s : length (with_crc inner) ≡ outer_at short = length-summed inner ∙ ap (λ (n : ℕ). n + 4) l in
      record {
        long = length-summed (locked short lock (with_crc inner)) ∙ ap (λ (n : ℕ). n + 4) (length-locked short lock (with_crc inner) (omega arith) ∙ s);
        bytes = summed-bytes _ (locked-bytes (with_crc inner) (summed-bytes inner (laid-bytes text fits (counted-bytes text good))));
      }

-- a text that is not refused fits, passes the check, and has its record
pub built-is : (text : List ℕ) (lock : Option Lock) (bs : List ℕ) → built_of short text lock ≡ Ok bs
    → (length text ≤ short.room) × (counted text ≡ true) × (record_of short text lock ≡ bs)
unfolding built_of
built-is text lock bs = go (leb (length text) short.room) (counted text) refl refl
  where
    go : (a b : Bool) → leb (length text) short.room ≡ a → counted text ≡ b
        → cond (not a) (Err (TextTooLong (length text))) (cond (not b) (Err TextNotUtf8) (Ok (record_of short text lock))) ≡ Ok bs
        → (length text ≤ short.room) × (counted text ≡ true) × (record_of short text lock ≡ bs)
    go true true l c e = (leb-true _ _ l, c, cc)
    go true false l c e = let z : ◌≡◌ {A = ℕ} 0 1 = cc in absurd (omega arith)
    go false b l c e = let z : ◌≡◌ {A = ℕ} 0 1 = cc in absurd (omega arith)
