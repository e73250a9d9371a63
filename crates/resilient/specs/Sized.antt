-- A picture that is admitted has the size that resampling asks for.
use Rattle.std.specs.Prelude.{◌≡◌, List, ℕ, ◌+◌, ◌*◌, ◌≤◌, ◌<◌, length, Option, Ok}
use Rattle.std.proofs.Common.{sym, ap, ◌∙◌, mul_assoc, mul_comm, arith}
use Rattle.std.proofs.Math.Nat.{mul-le-mul_right}
use Rattle.record.specs.declared.Lock.{Lock}
use Rattle.record.specs.Record.{short, record_of, built_of}
use Rattle.record_build.specs.Theorems.{built-done}
use Rattle.picture.specs.Sizes.{Sized, plane_size}
use Rattle.picture.specs.declared.Picture.{Picture}
use Rattle.admission.specs.Admission.{room_of, write_admission, read_admission}
use Rattle.admission.specs.Admitted.{Admitted, write-admitted, read-admitted}

module _ (parts : ℕ) (p : Picture) (samples : List ℕ) (work : ℕ) (a : Admitted parts p (length samples) work) where
  pub admitted-sized : 0 < p.width → 0 < p.height → Sized p.width p.height p.channels samples
  admitted-sized w h =
      let turned : p.width * p.channels * p.height ≡ p.width * p.height * p.channels =
      mul_assoc p.width p.channels p.height
      ∙ (ap (λ (n : ℕ). p.width * n) (mul_comm p.channels p.height) ∙ sym (mul_assoc p.width p.height p.channels)) in
      record {
        wide = w;
        width_most = a.width_most;
        high = h;
        height_most = a.height_most;
        three = a.three;
        four = a.four;
        full = omega (arith, a.full, turned);
      }

  -- and room for a plane
  pub admitted-room : 1 ≤ parts → plane_size ≤ work
  unfolding room_of
  admitted-room h = omega (arith, a.room, mul-le-mul_right (plane_size + p.width * p.height) h)

-- a picture that is admitted for reading
pub read_ready : (p : Picture) (samples : List ℕ) (work : ℕ) → read_admission p (length samples) work ≡ Ok tt
    → Sized p.width p.height p.channels samples × (plane_size ≤ work)
read_ready p samples work e =
    let may = read-admitted p (length samples) work e in
    (admitted-sized 1 p samples work may.2 may.0 may.1, admitted-room 1 p samples work may.2 (omega arith))

-- and one that is admitted for writing
pub write_ready : (p : Picture) (samples : List ℕ) (work : ℕ) → write_admission p (length samples) work ≡ Ok tt
    → Sized p.width p.height p.channels samples × (512 ≤ p.width) × (512 ≤ p.height) × (plane_size ≤ work)
write_ready p samples work e =
    let may = write-admitted p (length samples) work e in
    (admitted-sized 2 p samples work may.2 (omega (arith, may.0)) (omega (arith, may.1)), may.0, may.1, admitted-room 2 p samples work may.2 (omega arith))

-- a record that is built is that of its text
pub record_built : (text : List ℕ) (lock : Option Lock) (bs : List ℕ) → built_of short text lock ≡ Ok bs → bs ≡ record_of short text lock
record_built = built-done
