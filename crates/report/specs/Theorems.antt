-- Lines, computed: of two refusals, of no text and of five bytes.
use Rattle.std.specs.Prelude.{◌≡◌, refl, [], Ok, Err}
use Rattle.refusal.specs.declared.Refusal.TheVariants.{NoWatermark, PasswordRequired}
use Rattle.report.specs.Line.{ascii, digit, decimal_digits, decimal, pairs, hex, text_line, refused_line, line_of}

pub zeros-refused : line_of (Err NoWatermark) ≡ ascii "refused 8 0\n"
unfolding line_of refused_line decimal decimal_digits digit
zeros-refused = refl

-- the salt is 1, 2, 3, 4
pub salt-given : line_of (Err (PasswordRequired 0x1020304)) ≡ ascii "refused 11 16909060\n"
unfolding line_of refused_line decimal decimal_digits digit
salt-given = refl

pub no_text : line_of (Ok []) ≡ ascii "text 0 -\n"
unfolding line_of text_line decimal decimal_digits digit hex
no_text = refl

pub hello : line_of (Ok (ascii "hello")) ≡ ascii "text 5 68656c6c6f\n"
unfolding line_of text_line decimal decimal_digits digit hex pairs
hello = refl
