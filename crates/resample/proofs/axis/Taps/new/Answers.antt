-- The tables are what `taps` makes.
use Rattle.std.proofs.Common.{arith}
use Rattle.resample.specs.Taps.{tables-made}
use Rattle.resample.proofs.axis.Taps.new.Goals as goal

pub of_tables-requires : goal.of_tables-requires
of_tables-requires g c =
    let a = c.args in
    let r = a.room.now in
    let made = c.taps in
    tables-made a.src a.dst r.offsets made.new.offsets r.index made.new.index r.weight made.new.weight (omega arith) (omega arith)
    (omega arith) (omega arith) made.ensures.bounds made.ensures.from made.ensures.with
