-- What writing and reading leave, by their answers: where there is a refusal all is as it was lent.
use Rattle.std.specs.Prelude.{◌≡◌, List, ℕ, length, Float, Option, Result, Ok, Err}
use Rattle.std.proofs.Math.Path.{refl}
use Rattle.std.proofs.Common.{sym}
use Rattle.refusal.specs.declared.Refusal.{Refusal}
use Rattle.record.specs.declared.Key.{Key}
use Rattle.record.specs.declared.Lock.{Lock}
use Rattle.refusal.specs.Laws.{refused-not-done}
use Rattle.picture.specs.declared.Picture.{Picture}
use Rattle.admission.specs.Admission.{read_admission}
use Rattle.carrier.specs.Carrier.{cleared, marked_samples, picture_votes}
use Rattle.extract.specs.Extract.{text_of}
use Rattle.resilient.specs.Resilient.{if_done, text_bits, write_answer, written_of, reading_from, reading_of}

module _ {A : Type 0} (new lent : A) where
  if-done : (a : Result (Unit {0}) Refusal) → a ≡ Ok tt → if_done a new lent ≡ new
  unfolding if_done
  if-done (Ok tt) e = refl
  if-done (Err r) e = absurd (refused-not-done r tt e)

  if-refused : (a : Result (Unit {0}) Refusal) (r : Refusal) → a ≡ Err r → if_done a new lent ≡ lent
  unfolding if_done
  if-refused (Ok tt) r e = absurd (refused-not-done r tt (sym e))
  if-refused (Err q) r e = refl

-- ---- writing

module _ (text : List ℕ) (lock : Option Lock) (p : Picture) (samples : List ℕ) (work : List Float) where
  pub written-done : write_answer text lock p (length samples) (length work) ≡ Ok tt
      → ((written_of text lock p samples work).samples ≡ marked_samples p (text_bits text lock) samples) × ((written_of text lock p samples work).work ≡ cleared work)
  unfolding written_of
  written-done e = (if-done _ _ _ e, if-done _ _ _ e)

  -- a refused write leaves the samples and the work area as they were
  pub written-refused : (r : Refusal) → (written_of text lock p samples work).answer ≡ Err r
      → ((written_of text lock p samples work).samples ≡ samples) × ((written_of text lock p samples work).work ≡ work)
  unfolding written_of
  written-refused r e = (if-refused _ _ _ r e, if-refused _ _ _ r e)

-- ---- reading

module _ (key : Option Key) (p : Picture) (samples : List ℕ) (work : List Float) where
  pub read_done : read_admission p (length samples) (length work) ≡ Ok tt
      → ((reading_of key p samples work).reading ≡ text_of (picture_votes p samples) key) × ((reading_of key p samples work).work ≡ cleared work)
  unfolding reading_of reading_from
  read_done e = (done _ e, if-done _ _ _ e)
    where
      done : (a : Result (Unit {0}) Refusal) → a ≡ Ok tt → reading_from a (picture_votes p samples) key ≡ text_of (picture_votes p samples) key
      done (Ok tt) e = refl
      done (Err r) e = absurd (refused-not-done r tt e)

  -- a picture that is refused gives no text and leaves the work area as it was
  pub read-refused : (r : Refusal) → read_admission p (length samples) (length work) ≡ Err r
      → ((reading_of key p samples work).reading ≡ Err r) × ((reading_of key p samples work).work ≡ work)
  unfolding reading_of reading_from
  read-refused r e = (not-read _ e, if-refused _ _ _ r e)
    where
      not-read : (a : Result (Unit {0}) Refusal) → a ≡ Err r → reading_from a (picture_votes p samples) key ≡ Err r
      not-read (Ok tt) e = absurd (refused-not-done r tt (sym e))
      not-read (Err q) e = cc e
