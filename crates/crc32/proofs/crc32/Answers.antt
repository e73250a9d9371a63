-- The register's 32 bits stay 32, and the rest is the law of the CRC by the register.
use Rattle.std.proofs.Common.{ℕ, ◌<◌, ◌^◌, sym, ap, ◌∙◌, lit<}
use Rattle.std.specs.Int.Bits.{bit_xor, xor_lt}
use Rattle.crc32.specs.Bytes.{after-lt}
use Rattle.crc32.proofs.Definition.{crc-after}
use Rattle.crc32.proofs.crc32.Goals as goal

pub overflow_cast-result : goal.overflow_cast-result
overflow_cast-result c =
    let after : c.update.result < 2 ^ 32 = rw c.update.ensures (after-lt c.args.bytes.now 0xffffffff (lit< tt)) in
    record { fits = xor_lt 32 c.update.result _ after (lit< tt) }

pub returns : goal.returns
returns c =
    ap (λ (x : ℕ). bit_xor x 0xffffffff) c.update.ensures ∙ sym (crc-after c.args.bytes.now)
