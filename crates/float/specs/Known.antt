-- A test that is known, as a fact.
use Rattle.std.specs.Prelude.{◌≡◌, Bool, true, false, not, T}
use Rattle.std.proofs.Common.{sym, subst}

pub known : {b : Bool} → b ≡ true → T b
known h = subst T (sym h) tt

pub known-not : {b : Bool} → b ≡ false → T (not b)
known-not h = subst (λ (a : Bool). T (not a)) (sym h) tt
