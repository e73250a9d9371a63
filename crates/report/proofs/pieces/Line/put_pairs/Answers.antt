-- After i turns the digits of the first i bytes are put (`pairs-more`).
use Rattle.std.proofs.Common.{rules, arith, append_assoc, length-append, add-one, ◌≤◌, ◌<◌, ◌+◌, ℕ, List, length, take, get_or}
use lib.Seq.{take-suc, length-take-le}
use Rattle.report.specs.Line.{pairs}
use Rattle.report.specs.Laws.{pairs-more, length_pairs}
use Rattle.report.proofs.pieces.Line.put_pairs.Goals as goal

-- the two digits of byte i fit behind those of the bytes before it
fits : (bytes : List ℕ) (i : ℕ) → i < length bytes → length (pairs (take i bytes)) + 2 ≤ length (pairs bytes)
fits bytes i h = omega (arith, length_pairs bytes, length_pairs (take i bytes), length-take-le i bytes (omega arith))

pub loop-byte-init : goal.loop-byte-init
unfolding pairs
loop-byte-init c = search rules

pub put_digit-requires : goal.put_digit-requires
put_digit-requires c = (
  omega (arith, c.type_inv.bytes c.loop-byte.byte-index),
  rw (c.loop-byte.invariant, length-append) (omega (arith, c.requires, fits c.args.bytes.now c.loop-byte.byte-index c.loop-byte-test.true)),
)

pub put_digit-requires-in-loop-byte : goal.put_digit-requires-in-loop-byte
put_digit-requires-in-loop-byte c = (
  omega arith,
  rw (c.put_digit.ensures, c.loop-byte.invariant, length-append, length-append) (omega (arith, c.requires, fits c.args.bytes.now c.loop-byte.byte-index c.loop-byte-test.true)),
)

pub loop-byte-preserved : goal.loop-byte-preserved
loop-byte-preserved c =
    let i = c.loop-byte.byte-index in
    rw (c.put_digit-in-loop-byte.ensures, c.put_digit.ensures, c.loop-byte.invariant, add-one, take-suc c.args.bytes.now i 0 c.loop-byte-test.true, pairs-more (take i c.args.bytes.now) (get_or c.args.bytes.now i 0))
    (simp append_assoc)
