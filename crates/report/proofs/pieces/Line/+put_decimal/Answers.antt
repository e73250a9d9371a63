-- A number below ten is its digit; else the last digit comes behind those of the tenth, which is smaller (`decimal-more`).
use Rattle.std.proofs.Common.{arith, append_assoc, length-append, ◌≡◌, ◌≤◌, ◌<◌, ◌+◌, ◌/◌, ℕ, length}
use Rattle.report.specs.Line.{decimal}
use Rattle.report.specs.Laws.{decimal-last, decimal-more}
use Rattle.report.proofs.pieces.Line.+put_decimal.Goals as goal

-- a single digit, and the digits of the tenth and one more
one : (n : ℕ) → n < 10 → length (decimal n) ≡ 1
one n h = rw (decimal-last n h)

more : (n : ℕ) → 10 ≤ n → length (decimal n) ≡ length (decimal (n / 10)) + 1
more n h = rw (decimal-more n h, length-append)

pub returns-else-n-lt10 : goal.returns-else-n-lt10
returns-else-n-lt10 t c = rw (c.put_digit-else-n-lt10.ensures, c.put_decimal.ensures, decimal-more c.args.n c.if-n-lt10.false) (simp append_assoc)

pub returns-then-n-lt10 : goal.returns-then-n-lt10
returns-then-n-lt10 t c = rw (c.put_digit.ensures, decimal-last c.args.n c.if-n-lt10.true)

pub put_digit-requires : goal.put_digit-requires
put_digit-requires t c = (omega (arith, c.if-n-lt10.true), omega (arith, c.requires, one c.args.n c.if-n-lt10.true))

pub put_decimal-requires : goal.put_decimal-requires
put_decimal-requires t c =
    (omega (arith, c.decreases, c.if-n-lt10.false), omega (arith, c.requires, more c.args.n c.if-n-lt10.false))

pub put_digit-requires-else-n-lt10 : goal.put_digit-requires-else-n-lt10
put_digit-requires-else-n-lt10 t c = (omega arith, rw (c.put_decimal.ensures, length-append) (omega (arith, c.requires, more c.args.n c.if-n-lt10.false)))
