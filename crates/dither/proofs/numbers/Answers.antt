-- Number k is that of word k.
use Rattle.std.proofs.Common.{rules}
use Rattle.seq.specs.Made.{array_made}
use Rattle.seq.specs.Bytes.{word}
use Rattle.dither.specs.Dither.{dithered}
use Rattle.dither.proofs.numbers.Goals as goal

pub returns : goal.returns
unfolding dithered word
returns c = array_made _ (dithered c.args.bytes.now) _ (λ i y d k. search rules) _ 16 c.from_fn.ensures.items
