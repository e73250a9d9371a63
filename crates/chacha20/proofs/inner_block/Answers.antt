-- The eight calls, the last first, are the definition's chain but for the exchange, which `exchanged-inner` undoes.
use Rattle.std.proofs.Common.{rules}
use Rattle.chacha20.specs.Order.{exchanged-inner}
use Rattle.chacha20.proofs.inner_block.Goals as goal

pub returns : goal.returns
returns c =
    rw (
      c.quarter_round-8.ensures,
      c.quarter_round-7.ensures,
      c.quarter_round-6.ensures,
      c.quarter_round-5.ensures,
      c.quarter_round-4.ensures,
      c.quarter_round-3.ensures,
      c.quarter_round-2.ensures,
      c.quarter_round.ensures,
    )
    (let sixteen = c.well_formed.0 in exchanged-inner _ (search rules))
