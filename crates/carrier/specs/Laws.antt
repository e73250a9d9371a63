-- A work area into which a plane was put back is cleared as the one that was lent.
use Rattle.std.specs.Prelude.{◌≡◌, List, ◌++◌, ℕ, ◌≤◌, length, drop, replicate, Float}
use Rattle.std.proofs.Common.{ap, arith, length-append, length-drop}
use Rattle.float.specs.Base.{zero+}
use Rattle.carrier.specs.Carrier.{cleared}
use Rattle.picture.specs.Sizes.{plane_size}

pub put-back-cleared : (plane work : List Float) → length plane ≡ plane_size → plane_size ≤ length work → cleared (plane ++ drop plane_size work) ≡ cleared work
put-back-cleared plane work e h =
    let long : length (plane ++ drop plane_size work) ≡ length work = omega (arith, length-append plane (drop plane_size work), length-drop plane_size work) in
    ap (λ (n : ℕ). replicate n zero+) long
