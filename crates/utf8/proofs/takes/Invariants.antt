-- What is due and the bytes that are left decide as the whole text does.
use Rattle.std.proofs.Common.{◌≡◌, [], drop}
use Rattle.utf8.specs.Forms.{accepts}
use Rattle.utf8.specs.Reading.{due_of}
use Rattle.utf8.proofs.takes.Given as goal

abbrev pub invariant-loop-b : goal.invariant-loop-b
invariant-loop-b g l = accepts g.G.Grammar.characters (due_of l.due) (drop l.b-index l.bytes) ≡ accepts g.G.Grammar.characters [] l.bytes
