-- What a picture carries: bits put into its samples, and its blocks' votes on them, by way of the plane. Definitions only.
use Rattle.std.specs.Prelude.{List, ℕ, length, replicate, Float}
use Rattle.float.specs.Base.{zero+}
use Rattle.resample.specs.Samples.{plane_of, changed_of}
use Rattle.plane.specs.Plane.{change_of, votes_of}
use Rattle.picture.specs.declared.Picture.{Picture}

-- the work area after use
abbrev pub cleared : List Float → List Float
cleared work = replicate (length work) zero+

-- the samples with the bits put into the plane's blocks
unfoldable pub marked_samples : Picture → List ℕ → List ℕ → List ℕ
marked_samples p bits samples =
    changed_of p.width p.height p.channels (change_of bits (plane_of p.width p.height p.channels samples)) samples

-- the votes of a picture's blocks
unfoldable pub picture_votes : Picture → List ℕ → List Float
picture_votes p samples = votes_of (plane_of p.width p.height p.channels samples)
