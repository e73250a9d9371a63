-- A part behind a part of a text is a part of the text.
use Rattle.std.proofs.Common.{◌≡◌, ℕ, List, [], ◌∷◌, ◌++◌}
use Rattle.std.proofs.lemmas.List.{append_assoc}
use Rattle.replay_lists.specs.Fields.{IsPartBehind}

pub behind_part : (text rest last : List ℕ) → IsPartBehind text rest → IsPartBehind rest last → IsPartBehind text last
behind_part text rest last h k = (h.0 ++ k.0, (let e = append_assoc {A = ℕ} h.0 k.0 last in cc (h.1, k.1)))

pub behind_one : (text rest behind : List ℕ) (first : ℕ) → IsPartBehind text rest → rest ≡ first ∷ behind → IsPartBehind text behind
behind_one text rest behind first h e = behind_part text rest behind h (first ∷ [], e)
