-- That a promise leaves one outcome. Of a public function f, `f.ended` (in contracts) is its signature and `f.Reads.Post` (in
-- proofs) what its `ensures` clauses say.
--   Ending       the result, and for each parameter what the memory lent by it holds at the return: the unit, unless it is a
--                `&mut`, since nothing else is written
--   Determined   two endings that a promise allows for the same arguments are equal, whether or not the arguments are as the
--                function asks
-- Definitions only.
use Rattle.std.specs.Prelude.{◌≡◌}
use contract.Lifetimes.{Lfts}
use denote.Triple.Entry.{Args, Res}
use denote.Triple.Clauses.{Ended, Lasts, AtExit, at_exit}

module _ (f : Ended) where
  abbrev pub Promise : Type 1
  Promise = (κs : Lfts f.signature.lifetimes) → Args f.signature κs → Res f.signature κs → AtExit f κs → Type 0

  abbrev pub Ending : (κs : Lfts f.signature.lifetimes) → Args f.signature κs → Type 0
  Ending κs a = Res f.signature κs × Lasts f κs a

  abbrev pub Allows : Promise → (κs : Lfts f.signature.lifetimes) (a : Args f.signature κs) → Ending κs a → Type 0
  Allows p κs a x = p κs a x.0 (at_exit f κs a x.1)

  abbrev pub Determined : Promise → Type 0
  Determined p = (κs : Lfts f.signature.lifetimes) (a : Args f.signature κs) (x y : Ending κs a) → Allows p κs a x → Allows p κs a y → x ≡ y
