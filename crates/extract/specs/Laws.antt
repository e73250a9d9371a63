-- Votes that are all good are decoded, and what is read then is read in the record decoded. A record refuses nothing that
-- votes are refused for.
use Rattle.std.specs.Prelude.{◌≡◌, refl, Bool, true, false, not, cond, ◌&&◌, ◌||◌, List, ℕ, zero, suc, ◌<◌, eqb, ℤ, pos, nat_abs, length, get_or, Float, Option, Some, None, is_some, is_none, Result, Ok, Err}
use Rattle.std.proofs.Common.{sym, ap, ◌∙◌, arith, lit<, eq-eqb, le-ltb}
use Rattle.std.specs.List.{position_or_len}
use Rattle.std.proofs.lemmas.List.Sums.{position_or_len_is}
use Rattle.std.specs.Float.{nan}
use Rattle.float.specs.Calls.{in_unit}
use Rattle.float_laws.specs.Exact.{abs-signed}
use Rattle.float_laws.specs.Values.{Is}
use Rattle.float_laws.specs.Bounds.{value-within}
use Rattle.float_laws.specs.Unit.{within-unit}
use Rattle.refusal.specs.declared.Refusal.{Refusal}
use Rattle.refusal.specs.declared.Refusal.TheVariants.{BadLength, BadVote, Damaged, WrongPasswordOrDamaged}
use Rattle.record.specs.declared.Key.{Key}
use Rattle.record.specs.Record.{short, outer_at, size, intact, covered, sound, text_in, inside_of, opened_of, parsed_of}
use Rattle.encoder.specs.Ccsds131.{record_size}
use Rattle.picture.specs.Sizes.{block_count}
use Rattle.correction.specs.Demand3.{decoded_from, bit_in, Fate, kept, zeroed, reversed, voted_f, Laid, WholeVotes}
use Rattle.correction.specs.Carried.{votes-length}
use Rattle.correction.specs.Gathered.{votes-at}
use Rattle.extract.specs.Extract.{text_of, first_bad, unless_bad, record_reading, parsed_from, votes_reading}

-- the record's size is the decoder's
pub record-size : size short ≡ record_size
record-size = refl

-- ---- votes that are all good

pub all-good : (votes : List Float) → ((b : ℕ) → b < length votes → in_unit (get_or votes b nan) ≡ true) → first_bad votes ≡ None
all-good votes good =
    let bad : Float → Bool = λ v. not (in_unit v) in
    let all : position_or_len bad votes ≡ length votes =
    position_or_len_is bad votes (length votes) nan (omega arith) (λ b h. rw (good b h) refl) (λ h. absurd (omega arith)) in
    rw (all, le-ltb (length votes) (length votes) (omega arith)) refl

pub decodes-on : (votes : List Float) → length votes ≡ block_count → first_bad votes ≡ None → record_reading votes ≡ Ok (decoded_from votes)
unfolding record_reading
decodes-on votes many good = rw (eq-eqb (length votes) block_count many) (ap (λ (b : Option ℕ). unless_bad b (decoded_from votes)) good)

pub reads_on : (votes : List Float) (key : Option Key) → length votes ≡ block_count → first_bad votes ≡ None → votes_reading votes key ≡ text_of votes key
unfolding votes_reading
reads_on votes key many good = ap (λ (o : Result (List ℕ) Refusal). parsed_from o key) (decodes-on votes many good)

-- ---- votes of a record laid over the blocks, and votes that are whole multiples of 1/1024

voted-good : (c : ℕ) (fate : Fate) → in_unit (voted_f c fate) ≡ true
unfolding in_unit
voted-good zero kept = refl
voted-good (suc c) kept = refl
voted-good c (zeroed true) = refl
voted-good c (zeroed false) = refl
voted-good zero reversed = refl
voted-good (suc c) reversed = refl

pub laid-good : (xs : List ℕ) (fates : List Fate) (votes : List Float) → length votes ≡ block_count → Laid xs fates votes → first_bad votes ≡ None
laid-good xs fates votes many laid =
    all-good votes (λ b h. ap in_unit (laid.vote b (omega arith)) ∙ voted-good (bit_in xs b) (get_or fates b kept))

pub whole-good : (votes : List Float) (zs : List ℤ) → WholeVotes votes zs → first_bad votes ≡ None
whole-good votes zs w = all-good votes good
  where
    good : (b : ℕ) → b < length votes → in_unit (get_or votes b nan) ≡ true
    good b h =
        let i : Is 1024 (get_or votes b nan) (get_or zs b (pos 0)) = votes-at b w.means (omega (arith, votes-length w.means)) in
        let z : i.size ≡ nat_abs (get_or zs b (pos 0)) = sym (abs-signed i.sign i.size) ∙ ap nat_abs i.whole in
        within-unit (get_or votes b nan)
        (value-within (get_or votes b nan) i.sign i.size 1024 1 1 (lit< tt) i.value (omega (arith, z, w.small b)))

-- ---- what a record is refused for is neither 6 nor 15

pub record Neither (o : Result (List ℕ) Refusal) : Type 0 where
  pub six : (n : ℕ) → o ≡ Err (BadLength n) → ⊥
  pub fifteen : (n : ℕ) → o ≡ Err (BadVote n) → ⊥

either : (t : Bool) (a b : Result (List ℕ) Refusal) → Neither a → Neither b → Neither (cond t a b)
either true a b h g = h
either false a b h g = g

inside-neither : (wrong : Refusal) (bs : List ℕ) → Neither (Err wrong) → Neither (inside_of short wrong bs)
unfolding inside_of
inside-neither wrong bs h = either (not (sound short bs)) (Err wrong) (Ok (text_in bs)) h (record { six = λ n e. cc; fifteen = λ n e. cc })

opened-neither : (bs : List ℕ) (key : Option Key) → Neither (opened_of short bs key)
unfolding opened_of
opened-neither bs (Some key) = inside-neither WrongPasswordOrDamaged (covered short key.bytes bs) (record { six = λ n e. cc; fifteen = λ n e. cc })
opened-neither bs None = inside-neither Damaged bs (record { six = λ n e. cc; fifteen = λ n e. cc })

pub parsed-neither : (bs : List ℕ) (key : Option Key) → Neither (parsed_of short bs key)
unfolding parsed_of
parsed-neither bs key =
    let mode = get_or bs 0 0 in
    either (not (intact (outer_at short) bs)) _ _ (record { six = λ n e. cc; fifteen = λ n e. cc })
    (either (not (eqb mode short.plain || eqb mode short.keyed)) _ _ (record { six = λ n e. cc; fifteen = λ n e. cc })
    (either (eqb mode short.plain && is_some key) _ _ (record { six = λ n e. cc; fifteen = λ n e. cc })
    (either (eqb mode short.keyed && is_none key) _ _ (record { six = λ n e. cc; fifteen = λ n e. cc })
    (opened-neither bs key))))
