-- A list with zeros after its first part is told by that part alone; so is a text.
use Rattle.std.specs.Prelude.{◌≡◌, refl, ◌≤◌, ◌-◌, ◌++◌, ℕ, List, length, replicate, take}
use Rattle.std.proofs.Common.{arith}
use Rattle.std.proofs.Math.Path.{sym}
use Rattle.std.proofs.Math.Seq.{length-take-le}
use Rattle.record.specs.declared.Text.TheInside.{Inside}

module _ (room len : ℕ) (bytes : List ℕ) (h : (len ≤ room) × (length bytes ≡ room) × (bytes ≡ take len bytes ++ replicate (room - len) 0)) where
  pub held-length : length (take len bytes) ≡ len
  held-length = length-take-le len bytes (omega arith)

  pub held-bytes : take len bytes ++ replicate (room - length (take len bytes)) 0 ≡ bytes
  held-bytes = rw held-length (sym h.2)

pub text_held : (a : Inside) → (a.len ≤ 32) × (length a.bytes ≡ 32) × (a.bytes ≡ take a.len a.bytes ++ replicate (32 - a.len) 0)
    → ◌≡◌ {A = Inside} (record { bytes = take a.len a.bytes ++ replicate (32 - length (take a.len a.bytes)) 0; len = length (take a.len a.bytes) }) a
text_held a h = rw (held-bytes 32 a.len a.bytes h, held-length 32 a.len a.bytes h) refl
