-- Writing a text into a picture, and reading it from a picture (sections 3, 4 and 18 of the scope). The first refusal that
-- applies is given. Definitions only.
use Rattle.std.specs.Prelude.{List, ℕ, ◌+◌, ◌*◌, length, Float, Option, Result, Ok, Err}
use Rattle.refusal.specs.Numbers.{first}
use Rattle.refusal.specs.declared.Refusal.{Refusal}
use Rattle.record.specs.declared.Key.{Key}
use Rattle.record.specs.declared.Lock.{Lock}
use Rattle.record.specs.Record.{short, record_of, built_of}
use Rattle.layout.specs.Places.{block_bits}
use Rattle.encoder.specs.Ccsds131.{coded_bits, encode_of}
use Rattle.picture.specs.declared.Picture.{Picture}
use Rattle.admission.specs.Admission.{write_admission, read_admission}
use Rattle.carrier.specs.Carrier.{cleared, marked_samples, picture_votes}
use Rattle.extract.specs.Extract.{text_of}

-- what a thing becomes where nothing is refused; it stays as lent where there is a refusal
unfoldable pub if_done : {A : Type 0} → Result (Unit {0}) Refusal → A → A → A
if_done (Ok _) new lent = new
if_done (Err r) new lent = lent

-- ---- writing

-- the bit that each block carries
unfoldable pub text_bits : List ℕ → Option Lock → List ℕ
text_bits text lock = block_bits coded_bits (encode_of (record_of short text lock))

pub record Written : Type 0 where
  pub answer : Result (Unit {0}) Refusal
  pub samples : List ℕ
  pub work : List Float

-- 1, 2, then 3 to 7; 14 never applies, since no keystream is read to its end
unfoldable pub write_answer : List ℕ → Option Lock → Picture → ℕ → ℕ → Result (Unit {0}) Refusal
write_answer text lock p samples work = first (built_of short text lock) (write_admission p samples work)

unfoldable pub written_of : List ℕ → Option Lock → Picture → List ℕ → List Float → Written
written_of text lock p samples work =
    let a = write_answer text lock p (length samples) (length work) in
    record { answer = a; samples = if_done a (marked_samples p (text_bits text lock) samples) samples; work = if_done a (cleared work) work }

-- ---- reading

pub record Read : Type 0 where
  pub reading : Result (List ℕ) Refusal
  pub work : List Float

unfoldable pub reading_from : Result (Unit {0}) Refusal → List Float → Option Key → Result (List ℕ) Refusal
reading_from (Ok _) votes key = text_of votes key
reading_from (Err r) votes key = Err r

unfoldable pub reading_of : Option Key → Picture → List ℕ → List Float → Read
reading_of key p samples work =
    let a = read_admission p (length samples) (length work) in
    record { reading = reading_from a (picture_votes p samples) key; work = if_done a (cleared work) work }

-- ---- places

-- that of the fourth sample of pixel x of row y, where a pixel has four
abbrev pub fourth_sample : Picture → ℕ → ℕ → ℕ
fourth_sample p y x = y * (p.width * 4) + (x * 4 + 3)
