-- Byte i is that of the eight bits from 8 i on.
use Rattle.std.proofs.Common.{rules}
use Rattle.seq.specs.Made.{array_made}
use Rattle.decoder.specs.Decoder.{byte_at, bytes_of}
use Rattle.decoder.proofs.pack.Goals as goal

pub returns : goal.returns
unfolding bytes_of
returns c = array_made _ (byte_at c.args.bits.now) _ (λ i y d k. search rules) _ 46 c.from_fn.ensures.items
