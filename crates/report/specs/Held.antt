-- A line with zeros behind it is told by the line alone.
use Rattle.std.specs.Prelude.{◌≡◌, refl, ◌≤◌, ◌-◌, ◌++◌, length, replicate, take}
use Rattle.record.specs.Held.{held-length, held-bytes}
use Rattle.report.specs.declared.pieces.Line.TheInside.{Inside}

pub line_held : (a : Inside) → (a.len ≤ 73) × (length a.bytes ≡ 73) × (a.bytes ≡ take a.len a.bytes ++ replicate (73 - a.len) 0)
    → ◌≡◌ {A = Inside} (record { bytes = take a.len a.bytes ++ replicate (73 - length (take a.len a.bytes)) 0; len = length (take a.len a.bytes) }) a
line_held a h = rw (held-bytes 73 a.len a.bytes h, held-length 73 a.len a.bytes h) refl
