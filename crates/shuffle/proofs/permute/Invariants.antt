-- What is left to make from here on makes the entries that were to be made from the start on; a turn makes one of them.
use Rattle.std.proofs.Common.{◌≡◌, ◌-◌}
use Rattle.shuffle.specs.Shuffle.{made, stream_of}
use Rattle.shuffle.proofs.permute.Given as goal

abbrev pub invariant-loop-i : goal.invariant-loop-i
invariant-loop-i l = made (stream_of l.key) (l.count - l.i) l.i l.at l.list ≡ made (stream_of l.key) l.count 0 0 l.initial.list
