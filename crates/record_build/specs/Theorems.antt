-- What follows from an answer that is not a refusal.
use Rattle.std.specs.Prelude.{◌≡◌, Bool, true, false, not, cond, List, ℕ, leb, length, Option, Ok, Err}
use Rattle.refusal.specs.declared.Refusal.TheVariants.{TextTooLong, TextNotUtf8}
use Rattle.utf8.specs.Counted.{counted}
use Rattle.record.specs.declared.Lock.{Lock}
use Rattle.record.specs.Record.{short, record_of, built_of}

-- a text that is not refused has its record
pub built-done : (text : List ℕ) (lock : Option Lock) (bs : List ℕ) → built_of short text lock ≡ Ok bs → bs ≡ record_of short text lock
unfolding built_of
built-done text lock bs e = go (leb (length text) short.room) (counted text) e
  where
    go : (s t : Bool) → cond (not s) (Err (TextTooLong (length text))) (cond (not t) (Err TextNotUtf8) (Ok (record_of short text lock))) ≡ Ok bs
        → bs ≡ record_of short text lock
    go true true e = cc
    go true false e = cc
    go false t e = cc
