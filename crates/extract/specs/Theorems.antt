-- What may be relied on beyond the equations of Extract.antt: demand 3, in the words of correction/specs/Demand3.antt, for
-- what `record_of` and `read_votes` answer. The proofs rest on Laws.antt and on the theorems of the crate `correction`.
use Rattle.std.specs.Prelude.{◌≡◌, List, ℕ, ◌+◌, ◌*◌, ◌≤◌, ℤ, length, ◌≤ℤ◌, Float, Option, Ok, Err}
use Rattle.std.proofs.Common.{ap, ◌∙◌, sym}
use Rattle.refusal.specs.declared.Refusal.TheVariants.{BadLength, BadVote}
use Rattle.record.specs.declared.Key.{Key}
use Rattle.record.specs.Record.{short, parsed_of}
use Rattle.picture.specs.Sizes.{block_count}
use Rattle.correction.specs.Demand3.{IsRecord, decoded_from, WholeVotes, score_of, Fate, zeroed_count, reversed_count, Laid}
use Rattle.correction.specs.Theorems.{best, corrects}
use Rattle.extract.specs.Extract.{record_reading, votes_reading}
use Rattle.extract.specs.Laws.{decodes-on, reads_on, laid-good, whole-good, parsed-neither}

-- ---- `record_of`

-- votes that are whole multiples of 1/1024 from -1 to 1 are not refused, and no record scores above the one answered
pub record-best : (votes : List Float) (zs : List ℤ) → WholeVotes votes zs
    → (record_reading votes ≡ Ok (decoded_from votes)) × ((ys : List ℕ) → IsRecord ys → score_of zs ys ≤ℤ score_of zs (decoded_from votes))
record-best votes zs w = (decodes-on votes w.many (whole-good votes zs w), best votes zs w)

-- a record laid over the blocks, e votes made zero and f others reversed, e + 2 f <= 9, is answered
pub record-correct : (xs : List ℕ) (fates : List Fate) (votes : List Float) → IsRecord xs → length votes ≡ block_count
    → zeroed_count fates + 2 * reversed_count fates ≤ 9 → Laid xs fates votes → record_reading votes ≡ Ok xs
record-correct xs fates votes x many few laid =
    decodes-on votes many (laid-good xs fates votes many laid) ∙ ap (λ (bs : List ℕ). Ok bs) (corrects xs fates votes x few laid)

-- ---- `read_votes`

-- what is read in such votes is read in a record that no record outscores
pub votes-best : (votes : List Float) (zs : List ℤ) (key : Option Key) → WholeVotes votes zs
    → (votes_reading votes key ≡ parsed_of short (decoded_from votes) key)
    × ((ys : List ℕ) → IsRecord ys → score_of zs ys ≤ℤ score_of zs (decoded_from votes))
votes-best votes zs key w = (reads_on votes key w.many (whole-good votes zs w), best votes zs w)

-- and they are never refused with 6 or 15
pub votes-taken : (votes : List Float) (zs : List ℤ) (key : Option Key) → WholeVotes votes zs
    → (n : ℕ) → (votes_reading votes key ≡ Err (BadLength n) → ⊥) × (votes_reading votes key ≡ Err (BadVote n) → ⊥)
votes-taken votes zs key w n =
    let e = (votes-best votes zs key w).0 in
    let h = parsed-neither (decoded_from votes) key in
    (λ q. h.six n (sym e ∙ q), λ q. h.fifteen n (sym e ∙ q))

-- a record laid over the blocks and damaged within e + 2 f <= 9 is read as that record is: as its text, or as its refusal
-- where it carries none
pub votes-correct : (xs : List ℕ) (key : Option Key) (fates : List Fate) (votes : List Float) → IsRecord xs → length votes ≡ block_count
    → zeroed_count fates + 2 * reversed_count fates ≤ 9 → Laid xs fates votes → votes_reading votes key ≡ parsed_of short xs key
votes-correct xs key fates votes x many few laid =
    reads_on votes key many (laid-good xs fates votes many laid) ∙ ap (λ (bs : List ℕ). parsed_of short bs key) (corrects xs fates votes x few laid)
