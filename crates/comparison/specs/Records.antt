-- What is lent for a record and for a text's length: zeros, and 0, where there is a refusal. Definitions only.
use Rattle.std.specs.Prelude.{List, ℕ, length, replicate, Result, Ok, Err}
use Rattle.refusal.specs.declared.Refusal.{Refusal}
use Rattle.record.specs.Record.{short, size}
use Rattle.record.specs.Answers.{text_given}

abbrev pub record_given : Result (List ℕ) Refusal → List ℕ
record_given (Ok bs) = bs
record_given (Err _) = replicate (size short) 0

abbrev pub length_given : Result (List ℕ) Refusal → ℕ
length_given read = length (text_given read)
