-- What the statement says, written out by computation for `resilient::write`: its outcome is the answer, the samples and the
-- work area, and its promise an equation for each.
use Rattle.std.specs.Prelude.{◌≡◌, refl, List, ℕ, Float, Option, Result}
use contract.Lifetimes.{Lfts}
use Rattle.std.specs.Borrow.{Bor, MutBor}
use denote.Triple.Entry.{Args}
use Rattle.determined.specs.Determined.{Ending, Allows}
use Rattle.refusal.specs.declared.Refusal.{Refusal}
use Rattle.record.specs.declared.Lock.{Lock}
use Rattle.picture.specs.declared.Picture.{Picture}
use Rattle.resilient.specs.Resilient.{Written, written_of}
use Rattle.resilient.specs.contracts.write as write
use Rattle.resilient.proofs.write as proved

module _ (κs : Lfts 3) (samples : MutBor (List ℕ)) (picture : Picture) (text : Bor (List ℕ)) (lock : Option Lock) (work : MutBor (List Float)) where
  abbrev arguments : Args write.signature κs
  arguments = (samples, (picture, (text, (lock, (work, tt)))))

  abbrev the : Written
  the = written_of text.now lock picture samples.now work.now

  pub write-outcome : Ending write.ended κs arguments ≡ (Result (Unit {0}) Refusal × (List ℕ × (Unit {0} × (Unit {0} × (Unit {0} × (List Float × Unit {0}))))))
  write-outcome = refl

  pub write-allows : (r : Result (Unit {0}) Refusal) (s : List ℕ) (w : List Float)
      → Allows write.ended proved.Reads.Post κs arguments (r, (s, (tt, (tt, (tt, (w, tt)))))) ≡ ((r ≡ the.answer) × ((s ≡ the.samples) × (w ≡ the.work)))
  write-allows r s w = refl
