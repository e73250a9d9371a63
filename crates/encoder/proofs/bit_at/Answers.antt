-- The bit of the byte there, which is 0 behind the record.
use Rattle.std.proofs.Common.{◌≡◌, get_or, ◌/◌, rules}
use Rattle.encoder.specs.Bits.{bit-there}
use Rattle.encoder.proofs.bit_at.Goals as goal

pub returns : goal.returns
returns c =
    let there : c.unwrap_or.result ≡ get_or c.args.bytes.now (c.args.t / 8) 0 = search rules in
    rw there (bit-there c.args.bytes.now c.args.t)
