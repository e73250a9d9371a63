-- Which pictures, samples and work areas can be used (sections 3 and 4 of the scope): 3 to 7 for writing; 8 for a zero side,
-- then 4 to 7 for reading. The first refusal that applies is given. Definitions only.
use Rattle.std.specs.Prelude.{Result, Ok, Err, not, cond, ◌||◌, ℕ, ◌+◌, ◌*◌, eqb, ltb}
use Rattle.refusal.specs.declared.Refusal.{Refusal}
use Rattle.refusal.specs.declared.Refusal.TheVariants.{ImageTooSmall, ImageTooLarge, BadChannels, BadLength, WorkTooSmall, NoWatermark}
use Rattle.picture.specs.declared.Picture.{Picture}
use Rattle.picture.specs.Sizes.{longest_side, shortest_to_write, plane_size}

unfoldable pub shorter : Picture → ℕ
shorter p = cond (ltb p.width p.height) p.width p.height

unfoldable pub longer : Picture → ℕ
longer p = cond (ltb p.width p.height) p.height p.width

-- places of the work area, for each part that is used: a plane and as many values as the picture has pixels
unfoldable pub room_of : ℕ → Picture → ℕ
room_of parts p = parts * (plane_size + p.width * p.height)

-- 4, 5, 6, 7 of a picture, by the number of its samples and of the places of the work area lent
unfoldable pub admission : ℕ → Picture → ℕ → ℕ → Result (Unit {0}) Refusal
admission parts p samples work =
    cond (ltb longest_side (longer p)) (Err (ImageTooLarge (longer p)))
    (cond (not (eqb p.channels 3 || eqb p.channels 4)) (Err (BadChannels p.channels))
    (cond (not (eqb samples (p.width * p.height * p.channels))) (Err (BadLength samples))
    (cond (ltb work (room_of parts p)) (Err (WorkTooSmall (room_of parts p)))
    (Ok tt))))

-- 3 to 7 for writing, which needs 131,072 + 2 x width x height places
unfoldable pub write_admission : Picture → ℕ → ℕ → Result (Unit {0}) Refusal
write_admission p samples work = cond (ltb (shorter p) shortest_to_write) (Err (ImageTooSmall (shorter p))) (admission 2 p samples work)

-- 8 for a zero side, then 4 to 7, for reading, which needs 65,536 + width x height
unfoldable pub read_admission : Picture → ℕ → ℕ → Result (Unit {0}) Refusal
read_admission p samples work = cond (eqb p.width 0 || eqb p.height 0) (Err NoWatermark) (admission 1 p samples work)
