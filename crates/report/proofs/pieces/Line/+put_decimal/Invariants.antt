-- The tenth of a number from ten on is smaller.
use Rattle.report.proofs.pieces.Line.+put_decimal.Given as goal

abbrev pub decreases-put_decimal : goal.decreases-put_decimal
decreases-put_decimal l = l.n
