-- What is lent for a text: the text of an answer, none where it is refused, with zeros after it. Definitions only.
use Rattle.std.specs.Prelude.{List, [], ℕ, ◌++◌, ◌-◌, length, replicate, Result, Ok, Err}
use Rattle.refusal.specs.declared.Refusal.{Refusal}
use Rattle.record.specs.Record.{short}

abbrev pub text_given : Result (List ℕ) Refusal → List ℕ
text_given (Ok text) = text
text_given (Err _) = []

abbrev pub padded : List ℕ → List ℕ
padded text = text ++ replicate (short.room - length text) 0
