-- Five pieces behind one another; a length of at most 32 has at most two digits.
use Rattle.std.proofs.Common.{arith, append_assoc, length-append, ◌≤◌, ℕ, length, List}
use Rattle.report.specs.Line.{decimal, hex, text_line}
use Rattle.report.specs.Laws.{length-decimal, length-hex}
use Rattle.report.proofs.text_line.Goals as goal

number_short : (text : List ℕ) → length text ≤ 32 → length (decimal (length text)) ≤ 2
number_short text h = length-decimal 1 _ (omega (arith, h))

hex-short : (text : List ℕ) → length text ≤ 32 → length (hex text) ≤ 64
hex-short text h = length-hex text 32 h (omega arith)

pub returns : goal.returns
unfolding text_line
returns c =
    rw (c.put-3.ensures, c.put_hex.ensures, c.put-2.ensures, c.put_decimal.ensures, c.put.ensures, c.new-line.ensures) (simp append_assoc)

pub put_decimal-requires : goal.put_decimal-requires
put_decimal-requires c = rw (c.put.ensures, c.new-line.ensures) (omega (arith, number_short c.args.text.now c.requires))

pub put-requires-2 : goal.put-requires-2
put-requires-2 c = rw (c.put_decimal.ensures, c.put.ensures, c.new-line.ensures, length-append) (omega (arith, number_short c.args.text.now c.requires))

pub put_hex-requires : goal.put_hex-requires
put_hex-requires c =
    rw (c.put-2.ensures, c.put_decimal.ensures, c.put.ensures, c.new-line.ensures, length-append, length-append)
    (omega (arith, number_short c.args.text.now c.requires, hex-short c.args.text.now c.requires))

pub put-requires-3 : goal.put-requires-3
put-requires-3 c =
    rw (c.put_hex.ensures, c.put-2.ensures, c.put_decimal.ensures, c.put.ensures, c.new-line.ensures, length-append, length-append, length-append)
    (omega (arith, number_short c.args.text.now c.requires, hex-short c.args.text.now c.requires))
