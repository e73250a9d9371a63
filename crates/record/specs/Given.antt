-- What a caller gives: a lock, a key, and the key that opens a lock. Definitions only.
use Rattle.std.specs.Prelude.{Bool, true, false, List, ℕ, Option, Some, None}
use Rattle.record.specs.declared.Lock.{Lock}
use Rattle.record.specs.declared.Key.{Key}

-- from a flag with what it speaks of beside it
abbrev pub lock_from : Bool → List ℕ → List ℕ → Option Lock
lock_from true key salt = Some (record { key = key; salt = salt })
lock_from false _ _ = None

abbrev pub key_from : Bool → List ℕ → Option Key
key_from true bytes = Some (record { bytes = bytes })
key_from false _ = None

-- what a text that was written with a lock, or plain, is read with
abbrev pub opening_key : Option Lock → Option Key
opening_key (Some lock) = Some (record { bytes = lock.key })
opening_key None = None
