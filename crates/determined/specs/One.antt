-- The one lemma by which a promise determines its outcome: two things that equal a third are equal. A file for each crate
-- applies it to each part of the outcome of every public function.
use Rattle.std.specs.Prelude.{◌≡◌}
use Rattle.std.proofs.Common.{sym, ◌∙◌}

pub one : {A : Type 0} {x y the : A} → x ≡ the → y ≡ the → x ≡ y
one e f = e ∙ sym f
