-- Forward, then backward from state 0, then the bytes: `decoded-by` makes of the two passes the definition's decoder.
use mathlib.Core.Path.{refl, ap, ◌∙◌}
use mathlib.Core.List.{List}
use Rattle.std.specs.Float.Ieee.{Float, nan}
use Rattle.std.proofs.Common.{get_or}
use Rattle.encoder.specs.Ccsds131.{record_size}
use Rattle.decoder.specs.Decoder.{floats, bytes_of, strength}
use Rattle.decoder.specs.Trace.{decoded-by, decoded-bits}
use Rattle.decoder.proofs.decode.Goals as goal

pub pack-requires : goal.pack-requires
pack-requires c =
    let soft = c.args.soft.now in
    let e = decoded-by floats soft _ _ 0 refl c.forward-metrics.ensures.1 c.backward.ensures in
    rw e (decoded-bits floats soft)

pub returns : goal.returns
unfolding strength
returns c =
    let soft = c.args.soft.now in
    let e = decoded-by floats soft _ _ 0 refl c.forward-metrics.ensures.1 c.backward.ensures in
    (c.pack.ensures ∙ ap (bytes_of record_size) e, ap (λ (m : List Float). get_or m 0 nan) c.forward-metrics.ensures.0)
