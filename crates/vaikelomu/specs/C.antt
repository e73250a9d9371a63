-- What C's calls leave, by what the mark's functions leave: `include/vaikelomu.h` says the same in words. Definitions only.
use Rattle.std.specs.Prelude.{Bool, not, List, ℕ, ◌+◌, ◌*◌, ◌^◌, eqb, length, replicate, Float, Result, Ok, Err}
use Rattle.refusal.specs.declared.Refusal.{Refusal}
use Rattle.record.specs.Given.{lock_from, key_from}
use Rattle.encoder.specs.Ccsds131.{record_size}
use Rattle.picture.specs.declared.Picture.{Picture}
use Rattle.extract.specs.Extract.{votes_reading}
use Rattle.resilient.specs.Resilient.{Written, written_of, Read, reading_of}

-- the version 0.1.0 as one number: the major, the minor and the patch number, the last two a byte each
abbrev pub version : ℕ
version = 0 * 2 ^ 16 + 1 * 2 ^ 8 + 0

-- C's flag: every number but 0 says yes
abbrev pub is_set : ℕ → Bool
is_set flag = not (eqb flag 0)

abbrev pub picture_of : ℕ → ℕ → ℕ → Picture
picture_of width height channels = record { width = width; height = height; channels = channels }

-- what is lent for a length becomes the text's, and what is lent for a record zeros where it is refused
abbrev pub length_of : List ℕ → ℕ
length_of text = length text

abbrev pub record_lent : Result (List ℕ) Refusal → List ℕ
record_lent (Ok bytes) = bytes
record_lent (Err _) = replicate record_size 0

abbrev pub written_for : List ℕ → ℕ → ℕ → ℕ → List ℕ → ℕ → List ℕ → List ℕ → List Float → Written
written_for samples width height channels text locked key salt work =
    written_of text (lock_from (is_set locked) key salt) (picture_of width height channels) samples work

abbrev pub read_for : List ℕ → ℕ → ℕ → ℕ → ℕ → List ℕ → List Float → Read
read_for samples width height channels keyed key work = reading_of (key_from (is_set keyed) key) (picture_of width height channels) samples work

abbrev pub votes_for : List Float → ℕ → List ℕ → Result (List ℕ) Refusal
votes_for votes keyed key = votes_reading votes (key_from (is_set keyed) key)
