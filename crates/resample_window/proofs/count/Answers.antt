-- None where the last stands before the first; else the difference, which fits, and one.
use Rattle.std.proofs.Common.{◌≡◌, false, ◌-ℤ◌, refl, add-one, w64, to_z, of_z}
use lib.Signed.{lt_z}
use Rattle.std.proofs.lemmas.Int.{to_z-of_z}
use Rattle.resample_window.specs.Window.{numbers}
use Rattle.resample_window.specs.Signed.{diff-fits}
use Rattle.resample_window.proofs.count.Goals as goal

-- the difference, as the machine reads it back
back : (c : goal.Else-last-first)
    → to_z w64 (of_z w64 (to_z w64 (of_z w64 c.args.last) -ℤ to_z w64 (of_z w64 c.args.first)))
    ≡ c.args.last -ℤ c.args.first
back c =
    rw (to_z-of_z w64 c.args.first c.ranges.first, to_z-of_z w64 c.args.last c.ranges.last)
    (to_z-of_z w64 (c.args.last -ℤ c.args.first)
    (diff-fits c.args.first c.args.last c.requires.0 c.requires.1))

order : (c : goal.Else-last-first) → lt_z c.args.last c.args.first ≡ false
order c = rw (to_z-of_z w64 c.args.first c.ranges.first, to_z-of_z w64 c.args.last c.ranges.last) at c.if-last-first.false

pub returns-then-last-first : goal.returns-then-last-first
unfolding numbers
returns-then-last-first c = rw (rw (to_z-of_z w64 c.args.first c.ranges.first, to_z-of_z w64 c.args.last c.ranges.last) at
    c.if-last-first.true) refl

pub returns : goal.returns
unfolding numbers
returns c = rw (order c, back c, add-one) refl
