-- A record taken apart: put through the cipher again it is what was laid, with its CRC-32 behind it, so that each part can be
-- read off it.
use Rattle.std.specs.Prelude.{◌≡◌, refl, get_or, take, drop, Option, Some, None, IfSome, Ok}
use Rattle.std.proofs.Common.{sym, ◌∙◌, arith, take_at, get_or-take}
use Rattle.std.proofs.Math.Path.{ap}
use Rattle.std.proofs.Math.Bool.{true}
use mathlib.Core.List.{List, [], ◌∷◌, ◌++◌, append_assoc, append-nil}
use Prim.Native.Nat.{ℕ, zero, suc, ◌-◌, ◌≤◌, ◌<◌}
use Rattle.std.proofs.Math.ListN.{length, replicate, length-append}
use Rattle.std.proofs.lemmas.List.{length-replicate}
use Rattle.std.proofs.Math.Seq.{drop_at, get_or_at, take-append-le, drop-drop, append_snoc}
use borrow.Author.Tests.{le-leb}
use Rattle.refusal.specs.declared.Refusal.{Refusal}
use Rattle.crc32.specs.Ieee8023.{crc_of}
use Rattle.utf8.specs.Rfc3629.{well_formed}
use Rattle.record.specs.declared.Lock.{Lock}
use Rattle.record.specs.Record.{Profile, salt_at, length_at, text_at, inner_at, outer_at, with_crc, intact, head_of, laid_out, locked, record_of, text_in, padding_in, all_zero, sound, inside_of}
use Rattle.seq.specs.Bytes.{big_endian, number_at}
use Rattle.record.specs.Laws.{length-summed, intact-summed, length-head, length-laid, take-locked, locked-append, locked-twice, length-locked}

-- ---- the parts of what is laid, whatever stands behind

zeros-are : (n : ℕ) → all_zero (replicate n 0) ≡ true
zeros-are zero = refl
zeros-are (suc n) = zeros-are n

module _ (front text padding rest : List ℕ) (five : length front ≡ length_at) where
  bytes : List ℕ
  bytes = front ++ (length text ∷ (text ++ (padding ++ rest)))

  length-there : get_or bytes length_at 0 ≡ length text
  unfolding bytes
  length-there = get_or_at front (length text) _ 0 length_at five

  behind : drop text_at bytes ≡ text ++ (padding ++ rest)
  unfolding bytes
  behind =
      let six : length (front ++ (length text ∷ [])) ≡ text_at = simp length-append (omega arith) in
      rw (← append_snoc front (length text) (text ++ (padding ++ rest))) (drop_at (front ++ (length text ∷ [])) _ text_at six)

  text-there : text_in bytes ≡ text
  unfolding text_in
  text-there = rw (length-there, behind) (take_at text _ (length text) refl)

  padding-there : (p : Profile) → length padding ≡ p.room - length text → padding_in p bytes ≡ padding
  unfolding padding_in
  padding-there p e =
      rw (length-there, ← drop-drop (length text) text_at bytes, behind, drop_at text (padding ++ rest) (length text) refl) (take_at padding rest _ e)

-- ---- a record

module _ (p : Profile) (text : List ℕ) (lock : Option Lock) (four : IfSome lock (λ l. length l.salt ≡ 4)) (fits : length text ≤ p.room) where
  inner : List ℕ
  inner = with_crc (laid_out p text lock)

  outer : List ℕ
  outer = big_endian (crc_of (locked p lock inner))

  whole : length inner ≡ outer_at p
  unfolding inner
  whole = omega (arith, length-summed (laid_out p text lock), length-laid p text lock four fits)

  enough : outer_at p ≤ length inner
  enough = omega (arith, whole)

  pub outer-right : intact (outer_at p) (record_of p text lock) ≡ true
  unfolding record_of inner
  outer-right =
      rw (← append-nil (with_crc (locked p lock inner)))
      (intact-summed (outer_at p) (locked p lock inner) [] (length-locked p lock inner enough ∙ whole))

  -- mode and salt can be read
  inner-head : take length_at inner ≡ head_of p lock
  unfolding inner with_crc laid_out
  inner-head = rw append_assoc (take_at (head_of p lock) _ length_at (length-head p lock four))

  pub head-there : take length_at (record_of p text lock) ≡ head_of p lock
  unfolding record_of with_crc outer laid_out inner
  head-there =
      let long : length_at ≤ length (locked p lock inner) = omega (arith, length-locked p lock inner enough, enough) in
      take-append-le length_at (locked p lock inner) outer long ∙ (take-locked p lock inner enough ∙ inner-head)

  early : (k : ℕ) → k < length_at → get_or (record_of p text lock) k 0 ≡ get_or (head_of p lock) k 0
  early k h = sym (get_or-take length_at (record_of p text lock) k 0 h) ∙ ap (λ (l : List ℕ). get_or l k 0) head-there

  pub mode-keyed : (l : Lock) → lock ≡ Some l → get_or (record_of p text lock) 0 0 ≡ p.keyed
  unfolding head_of
  mode-keyed l e = early 0 (omega arith) ∙ rw e

  pub mode-plain : lock ≡ None → get_or (record_of p text lock) 0 0 ≡ p.plain
  unfolding head_of
  mode-plain e = early 0 (omega arith) ∙ rw e

  pub salt-there : (l : Lock) → lock ≡ Some l → number_at salt_at (record_of p text lock) ≡ number_at 0 l.salt
  unfolding head_of number_at
  salt-there l e = rw (early 1 (omega arith), early 2 (omega arith), early 3 (omega arith), early 4 (omega arith), e)

  -- and the rest once the cipher is undone
  opened : locked p lock (record_of p text lock) ≡ inner ++ outer
  unfolding record_of with_crc inner outer
  opened =
      let long : outer_at p ≤ length (locked p lock inner) = omega (arith, length-locked p lock inner enough, enough) in
      locked-append p lock (locked p lock inner) long outer ∙ ap (λ (l : List ℕ). l ++ outer) (locked-twice p lock inner enough)

  shape : inner ++ outer
      ≡ bytes (head_of p lock) text (replicate (p.room - length text) 0) (big_endian (crc_of (laid_out p text lock)) ++ outer) (length-head p lock four)
  unfolding inner with_crc laid_out bytes
  shape = simp append_assoc

  pub text-opened : text_in (locked p lock (record_of p text lock)) ≡ text
  text-opened = rw (opened, shape) (text-there _ text _ _ (length-head p lock four))

  sound-opened : well_formed text ≡ true → sound p (locked p lock (record_of p text lock)) ≡ true
  unfolding sound
  sound-opened good =
      let front : List ℕ = head_of p lock in
      let padding : List ℕ = replicate (p.room - length text) 0 in
      let rest : List ℕ = big_endian (crc_of (laid_out p text lock)) ++ outer in
      let five = length-head p lock four in
      let right : intact (inner_at p) (inner ++ outer) ≡ true = unfold inner in
      intact-summed (inner_at p) (laid_out p text lock) outer (length-laid p text lock four fits) in
      rw (
        text-opened,
        good,
        opened,
        right,
        shape,
        length-there front text padding rest five,
        padding-there front text padding rest five p (length-replicate {A = ℕ} (p.room - length text) 0),
        zeros-are (p.room - length text),
        le-leb (length text) p.room fits,
      )

  pub inside-opened : (wrong : Refusal) → well_formed text ≡ true → inside_of p wrong (locked p lock (record_of p text lock)) ≡ Ok text
  unfolding inside_of
  inside-opened wrong good = rw (sound-opened good, text-opened)
