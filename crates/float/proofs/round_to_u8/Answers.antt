-- Clamped, a value is rounded to the same byte (`clamped-same`), and that byte is a whole number that the cast takes (`clamped-byte`).
use Rattle.std.proofs.Common.{◌≡◌, T, sym, ap, ◌∙◌, subst}
use lib.Ieee.{Float, binary32, in_unsigned, to_unsigned}
use Rattle.float.specs.Calls.{round_away, Under, clamped}
use Rattle.float.specs.Known.{known}
use Rattle.float.specs.Byte.{clamped-under, clamped-byte, clamped-same}
use Rattle.float.proofs.round_to_u8.Goals as goal

-- what `half_up` gives of the clamped value
byte_of : (c : goal.After-row_known-1) → c.half_up.result ≡ round_away binary32 (clamped c.args.x)
byte_of c = c.half_up.ensures ∙ ap (λ (y : Float). round_away binary32 y) c.clamp_to_byte.ensures

pub half_up-requires : goal.half_up-requires
half_up-requires c = subst (λ (y : Float). Under 23 y) (sym c.clamp_to_byte.ensures) (clamped-under c.args.x (known c.well_formed.0.1))

pub float_to_int-result : goal.float_to_int-result
float_to_int-result c =
    let x = c.args.x in
    subst (λ (y : Float). T (in_unsigned binary32 8 y)) (sym (byte_of c)) (clamped-byte x (known c.well_formed.0.1))

pub returns : goal.returns
returns c = ap (λ (y : Float). to_unsigned 8 y) (byte_of c) ∙ clamped-same c.args.x (known c.well_formed.0.1)
