-- Laws on the record's definitions: lengths, what stands at which place, a CRC that was put there, and that the cipher twice
-- is never.
use Rattle.std.specs.Prelude.{◌≡◌, Bool, ◌&&◌, ℕ, ◌+◌, ◌-◌, ◌*◌, ◌/◌, ◌%◌, ◌^◌, ◌≤◌, ◌<◌, get_or, Option, Some, None, IfSome}
use Rattle.std.proofs.Math.Path.{refl}
use Rattle.std.proofs.Common.{◌∙◌, add-zero, get_or-append-add, eq-eqb, leb-true}
use Rattle.std.proofs.Math.Bool.{true, false}
use mathlib.Core.List.{List, ◌++◌, append_assoc}
use native.Mathlib.Omega.{arith}
use Rattle.std.proofs.Math.ListN.{length, take, drop, replicate, length-append, length-drop, length-replicate, take-append-drop}
use Rattle.std.proofs.lemmas.List.{replicate-append-replicate}
use Rattle.std.proofs.Math.Seq.{paste, take-length, drop-append-add, length-take-le, take-append-le, drop-append-le, take_at, drop_at}
use Rattle.seq.specs.Part.{length-on_part}
use Rattle.seq.specs.Lists.{on_part}
use Rattle.crc32.specs.Ieee8023.{crc_of}
use Rattle.crc32.specs.Bytes.{crc-lt}
use Rattle.keystream.specs.Laws.{length-encrypted, encrypted-twice}
use Rattle.record.specs.declared.Lock.{Lock}
use Rattle.record.specs.Record.{Profile, inner_at, outer_at, length_at, with_crc, intact, covered, head_of, laid_out, locked, sound}
use Rattle.seq.specs.Bytes.{big_endian, number_at}

-- ---- parts

module _ {A : Type 0} (a n : ℕ) (f : List A → List A) where
  part-append : (d r : List A) → a + n ≤ length d → on_part a n f (d ++ r) ≡ on_part a n f d ++ r
  unfolding on_part
  part-append d r h =
      let rest : n ≤ length (drop a d) = omega (arith, length-drop a d) in
      let start : a ≤ length d = omega arith in
      rw (take-append-le a d r start, drop-append-le a d r start, take-append-le n (drop a d) r rest, drop-append-le n (drop a d) r rest)
      (simp append_assoc)

  part-twice : (d : List A) → a + n ≤ length d → ((xs : List A) → length (f xs) ≡ length xs) → ((xs : List A) → f (f xs) ≡ xs)
      → on_part a n f (on_part a n f d) ≡ d
  unfolding on_part
  part-twice d h same twice =
      let mid : List A = take n (drop a d) in
      let rest : List A = drop n (drop a d) in
      let start : length (take a d) ≡ a = length-take-le a d (omega arith) in
      let size : length (f mid) ≡ n = same mid ∙ length-take-le n (drop a d) (omega (arith, length-drop a d)) in
      rw (
        take_at (take a d) (f mid ++ rest) a start,
        drop_at (take a d) (f mid ++ rest) a start,
        take_at (f mid) rest n size,
        drop_at (f mid) rest n size,
        twice mid,
        take-append-drop n (drop a d),
      )
      (take-append-drop a d)

-- ---- zeros, with bytes pasted over the first of them

drop-zeros : (n m : ℕ) → n ≤ m → drop {A = ℕ} n (replicate m 0) ≡ replicate (m - n) 0
drop-zeros n m h =
    let whole : n + (m - n) ≡ m = omega arith in
    let parts : ◌≡◌ {A = List ℕ} (replicate n 0 ++ replicate (m - n) 0) (replicate m 0) = rw whole at (replicate-append-replicate {A = ℕ} n (m - n) 0) in
    rw (← parts) (drop_at (replicate n 0) (replicate (m - n) 0) n (length-replicate {A = ℕ} n 0))

pub pasted-over : (front xs : List ℕ) (k m : ℕ) → length front ≡ k → length xs ≤ m
    → paste (front ++ replicate m 0) k xs (length xs) ≡ front ++ (xs ++ replicate (m - length xs) 0)
pasted-over front xs k m e h =
    rw (← e, take_at front (replicate m 0) (length front) refl, take-length xs, drop-append-add front (replicate m 0) (length xs), drop-zeros (length xs) m h)
    (append_assoc front xs (replicate (m - length xs) 0))

-- ---- numbers and checks

digits : (w a b c : ℕ) → a ≡ w / 256 → b ≡ a / 256 → c ≡ b / 256 → c < 256 → c % 256 * 2 ^ 24 + b % 256 * 2 ^ 16 + a % 256 * 2 ^ 8 + w % 256 ≡ w
digits w a b c e₁ e₂ e₃ h = omega arith

four_bytes : (w : ℕ) → w < 2 ^ 32 → w / 2 ^ 24 % 256 * 2 ^ 24 + w / 2 ^ 16 % 256 * 2 ^ 16 + w / 2 ^ 8 % 256 * 2 ^ 8 + w % 256 ≡ w
four_bytes w h = digits w (w / 2 ^ 8) (w / 2 ^ 16) (w / 2 ^ 24) refl (omega arith) (omega arith) (omega arith)

number-there : (xs : List ℕ) (w : ℕ) (ys : List ℕ) → w < 2 ^ 32 → number_at (length xs) (xs ++ (big_endian w ++ ys)) ≡ w
unfolding number_at big_endian
number-there xs w ys h =
    let bs : List ℕ = big_endian w ++ ys in
    let first : get_or (xs ++ bs) (length xs) 0 ≡ get_or bs 0 0 = rw (← add-zero (length xs)) (get_or-append-add xs bs 0 0) in
    rw (first, get_or-append-add xs bs 1 0, get_or-append-add xs bs 2 0, get_or-append-add xs bs 3 0) (four_bytes w h)

pub length-summed : (bs : List ℕ) → length (with_crc bs) ≡ length bs + 4
unfolding with_crc big_endian
length-summed bs = length-append bs _

pub intact-summed : (k : ℕ) (bs rest : List ℕ) → length bs ≡ k → intact k (with_crc bs ++ rest) ≡ true
unfolding intact with_crc
intact-summed k bs rest e =
    rw (← e, append_assoc bs (big_endian (crc_of bs)) rest, take_at bs (big_endian (crc_of bs) ++ rest) (length bs) refl)
    (eq-eqb _ (crc_of bs) (number-there bs (crc_of bs) rest (crc-lt bs)))

-- ---- building

module _ (p : Profile) where
  -- mode and salt are five bytes, mode to padding as many as stand before the inner CRC
  pub length-head : (lock : Option Lock) → IfSome lock (λ l. length l.salt ≡ 4) → length (head_of p lock) ≡ length_at
  unfolding head_of
  length-head (Some lock) h = omega arith
  length-head None h = refl

  pub length-laid : (text : List ℕ) (lock : Option Lock) → IfSome lock (λ l. length l.salt ≡ 4) → length text ≤ p.room → length (laid_out p text lock) ≡ inner_at p
  unfolding laid_out
  length-laid text lock s h =
      simp length-append (omega (
        arith,
        length-head lock s,
        length-append text (replicate (p.room - length text) 0),
        length-replicate {A = ℕ} (p.room - length text) 0,
      ))

  -- the cipher reaches from the length to the inner CRC, and a lock puts it there or leaves all as it is
  locked-either : (lock : Option Lock) (P : (List ℕ → List ℕ) → Type 0) → ((key : List ℕ) → P (covered p key)) → P (λ bs. bs) → P (locked p lock)
  unfolding locked
  locked-either (Some lock) P keyed plain = keyed lock.key
  locked-either None P keyed plain = plain

  module _ (lock : Option Lock) (bs : List ℕ) (h : outer_at p ≤ length bs) where
    reach : ℕ
    reach = outer_at p - length_at

    within : length_at + reach ≤ length bs
    unfolding reach
    within = omega arith

    pub length-locked : length (locked p lock bs) ≡ length bs
    unfolding covered reach
    length-locked =
        let part : length (take reach (drop length_at bs)) ≡ reach = length-take-le reach (drop length_at bs) (omega (arith, within, length-drop length_at bs)) in
        locked-either lock (λ f. length (f bs) ≡ length bs) (λ key. length-on_part length_at reach _ bs within (length-encrypted key _ 0 _ ∙ part)) refl

    pub locked-append : (rest : List ℕ) → locked p lock (bs ++ rest) ≡ locked p lock bs ++ rest
    unfolding covered reach
    locked-append rest = locked-either lock (λ f. f (bs ++ rest) ≡ f bs ++ rest) (λ key. part-append length_at reach _ bs rest within) refl

    pub locked-twice : locked p lock (locked p lock bs) ≡ bs
    unfolding covered reach
    locked-twice =
        locked-either lock (λ f. f (f bs) ≡ bs)
        (λ key. part-twice length_at reach _ bs within (length-encrypted key _ 0) (encrypted-twice key _ 0)) refl

    -- mode and salt stay as they are
    pub take-locked : take length_at (locked p lock bs) ≡ take length_at bs
    unfolding covered on_part
    take-locked =
        locked-either lock (λ f. take length_at (f bs) ≡ take length_at bs)
        (λ key. take_at (take length_at bs) _ length_at (length-take-le length_at bs (omega arith))) refl

-- ---- reading

and_left : (a b : Bool) → a && b ≡ true → a ≡ true
and_left true b e = refl
and_left false b e = e

pub sound_length : (p : Profile) (bs : List ℕ) → sound p bs ≡ true → get_or bs length_at 0 ≤ p.room
unfolding sound
sound_length p bs e = leb-true _ _ (and_left _ _ (and_left _ _ (and_left _ _ e)))
