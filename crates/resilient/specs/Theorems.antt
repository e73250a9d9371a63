-- What can be relied on beyond the equations:
--   alpha-kept       a write leaves the fourth sample of every pixel as it was
--   votes-in-unit    all votes of a picture lie from -1 to 1, so that 15 never comes from samples
--   read-by-votes    reading from samples is reading from the votes of the picture
-- That a refused write leaves samples and work area as they were is `written-refused` in Left.antt.
use Rattle.std.specs.Prelude.{◌≡◌, refl, true, List, ℕ, ◌<◌, get_or, Float, Option, Result, Ok, Err}
use Rattle.std.proofs.Math.Path.{sym}
use Rattle.std.proofs.Common.{ap, ◌∙◌, subst, arith}
use Rattle.std.proofs.Math.ListN.{length}
use Rattle.std.specs.Float.{nan}
use Rattle.float.specs.Calls.{in_unit}
use Rattle.refusal.specs.declared.Refusal.{Refusal}
use Rattle.record.specs.declared.Key.{Key}
use Rattle.record.specs.declared.Lock.{Lock}
use Rattle.resample.specs.Samples.{plane_of}
use Rattle.picture.specs.Sizes.{Sized, block_count}
use Rattle.resample.specs.Finite.{plane-within}
use Rattle.seq.specs.Bytes.{Bytes}
use Rattle.resample_up.specs.Alpha.{fourth-kept}
use Rattle.plane.specs.Finite.{length-votes, votes-good}
use Rattle.picture.specs.declared.Picture.{Picture}
use Rattle.admission.specs.Admission.{read_admission}
use Rattle.admission.specs.Admitted.{write-admitted, read-admitted}
use Rattle.refusal.specs.Laws.{first_ok}
use Rattle.carrier.specs.Carrier.{marked_samples, picture_votes}
use Rattle.extract.specs.Extract.{votes_reading}
use Rattle.extract.specs.Laws.{all-good, reads_on}
use Rattle.resilient.specs.Resilient.{write_answer, written_of, reading_of, fourth_sample}
use Rattle.resilient.specs.Sized.{admitted-sized}
use Rattle.resilient.specs.Left.{written-done, written-refused, read_done}

-- ---- writing

pub alpha-kept : (text : List ℕ) (lock : Option Lock) (p : Picture) (samples : List ℕ) (work : List Float) → p.channels ≡ 4 → (y x : ℕ) → y < p.height → x < p.width
    → get_or (written_of text lock p samples work).samples (fourth_sample p y x) 0 ≡ get_or samples (fourth_sample p y x) 0
unfolding marked_samples write_answer written_of
alpha-kept text lock p samples work four y x Y X = go (write_answer text lock p (length samples) (length work)) refl
  where
    at : List ℕ → ℕ
    at d = get_or d (fourth_sample p y x) 0

    go : (a : Result (Unit {0}) Refusal) → write_answer text lock p (length samples) (length work) ≡ a → at (written_of text lock p samples work).samples ≡ at samples
    go (Ok tt) e =
        let may = write-admitted p (length samples) (length work) (first_ok _ _ tt e) in
        let s : Sized p.width p.height 4 samples =
        subst (λ (c : ℕ). Sized p.width p.height c samples) four
        (admitted-sized 2 p samples (length work) may.2 (omega (arith, may.0)) (omega (arith, may.1))) in
        ap at (written-done text lock p samples work e).0 ∙ (rw four (fourth-kept p.width p.height _ samples s y x Y X))
    go (Err r) e = ap at (written-refused text lock p samples work r e).0

-- ---- reading

module _ (key : Option Key) (p : Picture) (samples : List ℕ) (work : List Float) (bytes : Bytes samples)
    (done : read_admission p (length samples) (length work) ≡ Ok tt) where
  pub votes-in-unit : (b : ℕ) → b < block_count → in_unit (get_or (picture_votes p samples) b nan) ≡ true
  unfolding picture_votes
  votes-in-unit =
      let may = read-admitted p (length samples) (length work) done in
      votes-good (plane_of p.width p.height p.channels samples)
      (plane-within p.width p.height p.channels samples may.0 may.2.width_most may.1 may.2.height_most bytes)

  pub read-by-votes : (reading_of key p samples work).reading ≡ votes_reading (picture_votes p samples) key
  unfolding votes_reading picture_votes
  read-by-votes =
      let votes = picture_votes p samples in
      let many : length votes ≡ block_count = length-votes (plane_of p.width p.height p.channels samples) in
      (read_done key p samples work done).0 ∙ sym (reads_on votes key many (all-good votes (λ b h. votes-in-unit b (omega arith))))
