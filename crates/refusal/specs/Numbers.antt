-- The table of refusals of the scope: each refusal's number, and the number given with it; and an answer as these two
-- numbers. Definitions only.
use Rattle.std.specs.Prelude.{ℕ, Result, Ok, Err}
use Rattle.refusal.specs.declared.Refusal.{Refusal}
use Rattle.refusal.specs.declared.Refusal.TheVariants.{
  TextTooLong,
  TextNotUtf8,
  ImageTooSmall,
  ImageTooLarge,
  BadChannels,
  BadLength,
  WorkTooSmall,
  NoWatermark,
  UnsupportedVersion,
  NotEncrypted,
  PasswordRequired,
  Damaged,
  WrongPasswordOrDamaged,
  KeystreamEnd,
  BadVote,
}

abbrev pub number_of : Refusal → ℕ
number_of (TextTooLong length) = 1
number_of TextNotUtf8 = 2
number_of (ImageTooSmall side) = 3
number_of (ImageTooLarge side) = 4
number_of (BadChannels count) = 5
number_of (BadLength length) = 6
number_of (WorkTooSmall needed) = 7
number_of NoWatermark = 8
number_of (UnsupportedVersion mode) = 9
number_of NotEncrypted = 10
number_of (PasswordRequired salt) = 11
number_of Damaged = 12
number_of WrongPasswordOrDamaged = 13
number_of KeystreamEnd = 14
number_of (BadVote index) = 15

abbrev pub given_of : Refusal → ℕ
given_of (TextTooLong length) = length
given_of TextNotUtf8 = 0
given_of (ImageTooSmall side) = side
given_of (ImageTooLarge side) = side
given_of (BadChannels count) = count
given_of (BadLength length) = length
given_of (WorkTooSmall needed) = needed
given_of NoWatermark = 0
given_of (UnsupportedVersion mode) = mode
given_of NotEncrypted = 0
given_of (PasswordRequired salt) = salt
given_of Damaged = 0
given_of WrongPasswordOrDamaged = 0
given_of KeystreamEnd = 0
given_of (BadVote index) = index

-- ---- an answer, whatever it gives: 0, 0 where nothing is refused

abbrev pub code_of : {A : Type 0} → Result A Refusal → ℕ
code_of (Ok _) = 0
code_of (Err r) = number_of r

abbrev pub given_for : {A : Type 0} → Result A Refusal → ℕ
given_for (Ok _) = 0
given_for (Err r) = given_of r

-- the first of two answers that is a refusal, else the second
abbrev pub first : {A B : Type 0} → Result A Refusal → Result B Refusal → Result B Refusal
first (Ok _) b = b
first (Err r) b = Err r
