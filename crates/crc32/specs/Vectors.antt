-- CRC-32 of the digits 1 to 9 in ASCII, the check value of the catalogues, and of the empty message, by computing the
-- definition.
use Rattle.std.specs.Prelude.{◌≡◌, refl, [], ◌∷◌}
use Rattle.crc32.specs.Ieee8023.{crc_of, transmitted, low_bits, number, complemented, remainder, generator, polynomial, among, leading_bit, scaled, ◌⊕◌}

pub check-value : crc_of (0x31 ∷ 0x32 ∷ 0x33 ∷ 0x34 ∷ 0x35 ∷ 0x36 ∷ 0x37 ∷ 0x38 ∷ 0x39 ∷ []) ≡ 0xcbf43926
unfolding crc_of transmitted low_bits number complemented remainder generator polynomial among leading_bit scaled ◌⊕◌
check-value = refl

pub empty-message : crc_of [] ≡ 0
unfolding crc_of transmitted number complemented remainder
empty-message = refl
