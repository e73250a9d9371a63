-- From the writer to the reader: what is written is a record, so that demand 3 holds for it. The salt is four bytes, as its
-- type says. The proofs rest on Written.antt and Theorems.antt.
use Rattle.std.specs.Prelude.{◌≡◌, true, List, ℕ, ◌+◌, ◌*◌, ◌≤◌, length, Float, Option, IfSome, Ok}
use Rattle.std.proofs.Common.{◌∙◌, subst}
use Rattle.utf8.specs.Rfc3629.{well_formed}
use Rattle.record.specs.declared.Lock.{Lock}
use Rattle.record.specs.Record.{short, built_of}
use Rattle.record.specs.Theorems.{short-apart, round_trip}
use Rattle.record.specs.Given.{opening_key}
use Rattle.picture.specs.Sizes.{block_count}
use Rattle.correction.specs.Demand3.{IsRecord, Fate, zeroed_count, reversed_count, Laid}
use Rattle.seq.specs.Bytes.{Bytes}
use Rattle.extract.specs.Extract.{votes_reading}
use Rattle.extract.specs.Theorems.{votes-correct}
use Rattle.extract.specs.Written.{is-record, built-is}

-- the record of a text that is not refused is a record, whatever the key
pub written-record : (text : List ℕ) (lock : Option Lock) (bs : List ℕ) → IfSome lock (λ l. length l.salt ≡ 4) → IfSome lock (λ l. Bytes l.salt)
    → built_of short text lock ≡ Ok bs → IsRecord bs
written-record text lock bs four salt made =
    let k = built-is text lock bs made in
    subst IsRecord k.2 (is-record lock four salt text k.0 k.1)

-- a well-formed text written into a record, laid over the blocks, e votes made zero and f others reversed, e + 2 f <= 9, is
-- read back as that text, with the same key or with none
pub written_read : (text : List ℕ) (lock : Option Lock) (bs : List ℕ) (fates : List Fate) (votes : List Float)
    → IfSome lock (λ l. length l.salt ≡ 4) → IfSome lock (λ l. Bytes l.salt) → well_formed text ≡ true → built_of short text lock ≡ Ok bs
    → length votes ≡ block_count → zeroed_count fates + 2 * reversed_count fates ≤ 9 → Laid bs fates votes
    → votes_reading votes (opening_key lock) ≡ Ok text
written_read text lock bs fates votes four salt good made many few laid =
    let k = built-is text lock bs made in
    let back = (round_trip short short-apart text lock four k.0 good).1 in
    votes-correct bs (opening_key lock) fates votes (written-record text lock bs four salt made) many few laid
    ∙ rw k.2 at back
