-- Minus infinity is the constant's value, and the test is the definition's.
use Rattle.std.proofs.Common.{◌≡◌, true, false}
use Rattle.std.specs.Float.{inf}
use Rattle.std.specs.Float.Ieee.{lt, div, neg, of_bits}
use Rattle.decoder.proofs.found.Goals as goal

pub returns-then-lost-c : goal.returns-then-lost-c
unfolding div neg of_bits
returns-then-lost-c c = let less : lt (inf true) c.args.c ≡ true = c.if-lost-c.true in rw less

pub returns-else-lost-c : goal.returns-else-lost-c
unfolding div neg of_bits
returns-else-lost-c c = let less : lt (inf true) c.args.c ≡ false = c.if-lost-c.false in rw less
