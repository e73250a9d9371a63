-- The record (section 6 of the scope): a byte for the mode, four for the salt, one for the length, the text
-- and its padding, and two CRC-32; how it is built and how it is read. Definitions only.
use Rattle.std.specs.Prelude.{Bool, not, cond, ◌&&◌, ◌||◌, List, ◌∷◌, ◌++◌, ℕ, ◌+◌, ◌-◌, leb, eqb, length, get_or, take, drop, replicate, Option, Some, None, is_some, is_none, Result, Ok, Err}
use Rattle.std.specs.List.{list_all}
use Rattle.seq.specs.Lists.{on_part}
use Rattle.refusal.specs.declared.Refusal.{Refusal}
use Rattle.refusal.specs.declared.Refusal.TheVariants.{
  TextTooLong,
  TextNotUtf8,
  NoWatermark,
  UnsupportedVersion,
  NotEncrypted,
  PasswordRequired,
  Damaged,
  WrongPasswordOrDamaged,
}
use Rattle.crc32.specs.Ieee8023.{crc_of}
use Rattle.chacha20.specs.Rfc8439.{encrypted}
use Rattle.utf8.specs.Rfc3629.{well_formed}
use Rattle.utf8.specs.Counted.{counted}
use Rattle.record.specs.declared.Lock.{Lock}
use Rattle.record.specs.declared.Key.{Key}
use Rattle.seq.specs.Bytes.{big_endian, number_at}

-- what sets one profile apart from another: its modes, and the room for text
pub record Profile : Type 0 where
  pub plain : ℕ
  pub keyed : ℕ
  pub room : ℕ

-- the record of 46 bytes
abbrev pub short : Profile
short = record { plain = 0x31; keyed = 0x32; room = 32 }

-- ---- the places: the mode is byte 0

abbrev pub salt_at : ℕ
salt_at = 1

abbrev pub length_at : ℕ
length_at = 5

abbrev pub text_at : ℕ
text_at = 6

abbrev pub inner_at : Profile → ℕ
inner_at p = text_at + p.room

abbrev pub outer_at : Profile → ℕ
outer_at p = inner_at p + 4

abbrev pub size : Profile → ℕ
size p = outer_at p + 4

-- ---- checks

-- bytes with their CRC-32 behind them
unfoldable pub with_crc : List ℕ → List ℕ
with_crc bs = bs ++ big_endian (crc_of bs)

-- the number at k is the CRC-32 of the bytes before it
unfoldable pub intact : ℕ → List ℕ → Bool
intact k bs = eqb (number_at k bs) (crc_of (take k bs))

-- length to inner CRC under a key, with a nonce of zeros and from block 0
unfoldable pub covered : Profile → List ℕ → List ℕ → List ℕ
covered p key bs = on_part length_at (outer_at p - length_at) (encrypted key (replicate 12 0) 0) bs

-- ---- building: with a lock, or plain

-- mode and salt
unfoldable pub head_of : Profile → Option Lock → List ℕ
head_of p (Some lock) = p.keyed ∷ lock.salt
head_of p None = p.plain ∷ replicate 4 0

-- mode, salt, length, text and padding
unfoldable pub laid_out : Profile → List ℕ → Option Lock → List ℕ
laid_out p text lock = head_of p lock ++ (length text ∷ text ++ replicate (p.room - length text) 0)

unfoldable pub locked : Profile → Option Lock → List ℕ → List ℕ
locked p (Some lock) bs = covered p lock.key bs
locked p None bs = bs

-- the inner CRC, then the cipher, then the outer CRC
unfoldable pub record_of : Profile → List ℕ → Option Lock → List ℕ
record_of p text lock = with_crc (locked p lock (with_crc (laid_out p text lock)))

unfoldable pub built_of : Profile → List ℕ → Option Lock → Result (List ℕ) Refusal
built_of p text lock =
    cond (not (leb (length text) p.room)) (Err (TextTooLong (length text)))
    (cond (not (counted text)) (Err TextNotUtf8)
    (Ok (record_of p text lock)))

-- ---- reading: with a key, or with none

unfoldable pub text_in : List ℕ → List ℕ
text_in bs = take (get_or bs length_at 0) (drop text_at bs)

unfoldable pub padding_in : Profile → List ℕ → List ℕ
padding_in p bs = take (p.room - get_or bs length_at 0) (drop (text_at + get_or bs length_at 0) bs)

abbrev pub all_zero : List ℕ → Bool
all_zero bs = list_all (λ b. eqb b 0) bs

-- the inside is right: length, padding, inner CRC, UTF-8
unfoldable pub sound : Profile → List ℕ → Bool
sound p bs = leb (get_or bs length_at 0) p.room && all_zero (padding_in p bs) && intact (inner_at p) bs && well_formed (text_in bs)

unfoldable pub inside_of : Profile → Refusal → List ℕ → Result (List ℕ) Refusal
inside_of p wrong bs = cond (not (sound p bs)) (Err wrong) (Ok (text_in bs))

-- the text under the key, or in the clear
unfoldable pub opened_of : Profile → List ℕ → Option Key → Result (List ℕ) Refusal
opened_of p bs (Some key) = inside_of p WrongPasswordOrDamaged (covered p key.bytes bs)
opened_of p bs None = inside_of p Damaged bs

unfoldable pub parsed_of : Profile → List ℕ → Option Key → Result (List ℕ) Refusal
parsed_of p bs key =
    let mode = get_or bs 0 0 in
    cond (not (intact (outer_at p) bs)) (Err NoWatermark)
    (cond (not (eqb mode p.plain || eqb mode p.keyed)) (Err (UnsupportedVersion mode))
    (cond (eqb mode p.plain && is_some key) (Err NotEncrypted)
    (cond (eqb mode p.keyed && is_none key) (Err (PasswordRequired (number_at salt_at bs)))
    (opened_of p bs key))))
