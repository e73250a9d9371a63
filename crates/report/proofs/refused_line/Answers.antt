-- Five pieces behind one another; a `u64` has at most twenty digits.
use Rattle.std.proofs.Common.{arith, append_assoc, length-append, ◌≤◌, ◌<◌, ℕ, length}
use Rattle.report.specs.Line.{decimal, refused_line}
use Rattle.report.specs.Laws.{length-decimal}
use Rattle.report.proofs.refused_line.Goals as goal

short : (n : ℕ) → n < 18446744073709551616 → length (decimal n) ≤ 20
short n h = length-decimal 19 n (omega (arith, h))

pub returns : goal.returns
unfolding refused_line
returns c =
    rw (c.put-3.ensures, c.put_decimal-2.ensures, c.put-2.ensures, c.put_decimal.ensures, c.put.ensures, c.new-line.ensures) (simp append_assoc)

pub put_decimal-requires : goal.put_decimal-requires
put_decimal-requires c = rw (c.put.ensures, c.new-line.ensures) (omega (arith, short c.args.number c.ranges.number.fits))

pub put-requires-2 : goal.put-requires-2
put-requires-2 c = rw (c.put_decimal.ensures, c.put.ensures, c.new-line.ensures, length-append) (omega (arith, short c.args.number c.ranges.number.fits))

pub put_decimal-requires-2 : goal.put_decimal-requires-2
put_decimal-requires-2 c =
    rw (c.put-2.ensures, c.put_decimal.ensures, c.put.ensures, c.new-line.ensures, length-append, length-append)
    (omega (arith, short c.args.number c.ranges.number.fits, short c.args.given c.ranges.given.fits))

pub put-requires-3 : goal.put-requires-3
put-requires-3 c =
    rw (c.put_decimal-2.ensures, c.put-2.ensures, c.put_decimal.ensures, c.put.ensures, c.new-line.ensures, length-append, length-append, length-append)
    (omega (arith, short c.args.number c.ranges.number.fits, short c.args.given c.ranges.given.fits))
