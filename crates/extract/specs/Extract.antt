-- From votes to a record and to its text, from the scope: the first refusal that applies is given. Definitions only.
use Rattle.std.specs.Prelude.{not, cond, List, ℕ, eqb, length, position, Float, Option, Some, None, Result, Ok, Err}
use Rattle.float.specs.Calls.{in_unit}
use Rattle.refusal.specs.declared.Refusal.{Refusal}
use Rattle.refusal.specs.declared.Refusal.TheVariants.{BadLength, BadVote}
use Rattle.record.specs.declared.Key.{Key}
use Rattle.record.specs.Record.{short, parsed_of}
use Rattle.picture.specs.Sizes.{block_count}
use Rattle.correction.specs.Demand3.{decoded_from}

-- ---- the text, whatever the votes

-- what is read in the record that the votes decode to
abbrev pub text_of : List Float → Option Key → Result (List ℕ) Refusal
text_of votes key = parsed_of short (decoded_from votes) key

-- ---- the record

-- the place of the first vote that is not a number from -1 to 1
abbrev pub first_bad : List Float → Option ℕ
first_bad votes = position (λ v. not (in_unit v)) votes

abbrev pub unless_bad : Option ℕ → List ℕ → Result (List ℕ) Refusal
unless_bad (Some place) bs = Err (BadVote place)
unless_bad None bs = Ok bs

-- 6, 15, then the record
unfoldable pub record_reading : List Float → Result (List ℕ) Refusal
record_reading votes =
    cond (not (eqb (length votes) block_count)) (Err (BadLength (length votes)))
    (unless_bad (first_bad votes) (decoded_from votes))

-- ---- the text

-- what is read in a record, where there is one
abbrev pub parsed_from : Result (List ℕ) Refusal → Option Key → Result (List ℕ) Refusal
parsed_from (Err r) key = Err r
parsed_from (Ok bs) key = parsed_of short bs key

unfoldable pub votes_reading : List Float → Option Key → Result (List ℕ) Refusal
votes_reading votes key = parsed_from (record_reading votes) key
