-- What it means that a picture is admitted: its sides, channels, samples and work area are as they should be.
use Rattle.std.specs.Prelude.{Result, Ok, Err, ◌≡◌, refl, Bool, not, ◌||◌, ℕ, ◌*◌, ◌≤◌, ◌<◌, T, eqb, ltb}
use Rattle.std.proofs.Common.{sym, subst, mul-le-mul_right, ltb→lt, nltb→le, eqb→eq, ltb-false, eqb-true}
use Rattle.std.proofs.Math.Bool.{true, false, cond}
use native.Mathlib.Omega.{arith}
use Rattle.std.proofs.lemmas.Bool.{eqb-false, not-false}
use Rattle.refusal.specs.declared.Refusal.{Refusal}
use Rattle.refusal.specs.Laws.{refused-not-done}
use Rattle.picture.specs.declared.Picture.{Picture}
use Rattle.admission.specs.Admission.{shorter, longer, room_of, admission, write_admission, read_admission}
use Rattle.picture.specs.Sizes.{longest_side}

-- ---- the sides

module _ (p : Picture) where
  -- neither side is longer than the longer one
  pub sides-most : (p.width ≤ longer p) × (p.height ≤ longer p)
  unfolding longer
  sides-most = go (ltb p.width p.height) (ltb→lt p.width p.height) (nltb→le p.width p.height)
    where
      go : (t : Bool) → (T t → p.width < p.height) → (T (not t) → p.height ≤ p.width)
          → (p.width ≤ cond t p.height p.width) × (p.height ≤ cond t p.height p.width)
      go true a b = let h : p.width < p.height = a tt in (omega arith, omega arith)
      go false a b = let h : p.height ≤ p.width = b tt in (omega arith, omega arith)

  -- nor is one shorter than the shorter one
  pub sides-least : (shorter p ≤ p.width) × (shorter p ≤ p.height)
  unfolding shorter
  sides-least = go (ltb p.width p.height) (ltb→lt p.width p.height) (nltb→le p.width p.height)
    where
      go : (t : Bool) → (T t → p.width < p.height) → (T (not t) → p.height ≤ p.width)
          → (cond t p.width p.height ≤ p.width) × (cond t p.width p.height ≤ p.height)
      go true a b = let h : p.width < p.height = a tt in (omega arith, omega arith)
      go false a b = let h : p.height ≤ p.width = b tt in (omega arith, omega arith)

  pub pixels-most : longer p ≤ longest_side → p.width * p.height ≤ longest_side * longest_side
  pixels-most h =
      let w : p.width ≤ longest_side = omega (arith, sides-most.0) in
      let v : p.height ≤ longest_side = omega (arith, sides-most.1) in
      omega (arith, mul-le-mul_right p.height w)

-- ---- the channels

pub three-or-four : (c : ℕ) → (eqb c 3 || eqb c 4) ≡ true → (3 ≤ c) × (c ≤ 4)
three-or-four c e = go (eqb c 3) (eqb c 4) (eqb→eq c 3) (eqb→eq c 4) e
  where
    go : (s t : Bool) → (T s → c ≡ 3) → (T t → c ≡ 4) → (s || t) ≡ true → (3 ≤ c) × (c ≤ 4)
    go true t a b e = let h : c ≡ 3 = a tt in (omega arith, omega arith)
    go false true a b e = let h : c ≡ 4 = b tt in (omega arith, omega arith)
    go false false a b e = absurd (subst T (sym e) tt)

-- ---- what an answer tells

-- where all is done, a test did not refuse and neither did what follows it
past : (t : Bool) (r : Refusal) (rest : Result (Unit {0}) Refusal) → cond t (Err r) rest ≡ Ok tt → (t ≡ false) × (rest ≡ Ok tt)
past true r rest e = absurd (refused-not-done _ tt e)
past false r rest e = (refl, e)

pub record Admitted (parts : ℕ) (p : Picture) (samples work : ℕ) : Type 0 where
  pub width_most : p.width ≤ longest_side
  pub height_most : p.height ≤ longest_side
  pub three : 3 ≤ p.channels
  pub four : p.channels ≤ 4
  pub full : samples ≡ p.width * p.height * p.channels
  pub room : room_of parts p ≤ work

pub admitted : (parts : ℕ) (p : Picture) (samples work : ℕ) → admission parts p samples work ≡ Ok tt → Admitted parts p samples work
unfolding admission
admitted parts p samples work e =
    let side = past _ _ _ e in
    let channels = past _ _ _ side.1 in
    let length = past _ _ _ channels.1 in
    let work-area = past _ _ _ length.1 in
    let long : longer p ≤ longest_side = ltb-false longest_side (longer p) side.0 in
    let c = three-or-four p.channels (not-false _ channels.0) in
    record {
      width_most = omega (arith, (sides-most p).0);
      height_most = omega (arith, (sides-most p).1);
      three = c.0;
      four = c.1;
      full = eqb-true _ _ (not-false _ length.0);
      room = ltb-false _ _ work-area.0;
    }

pub write-admitted : (p : Picture) (samples work : ℕ) → write_admission p samples work ≡ Ok tt → (512 ≤ p.width) × (512 ≤ p.height) × Admitted 2 p samples work
unfolding write_admission
write-admitted p samples work e =
    let small = past _ _ _ e in
    let h : 512 ≤ shorter p = ltb-false (shorter p) 512 small.0 in
    (omega (arith, (sides-least p).0), omega (arith, (sides-least p).1), admitted 2 p samples work small.1)

pub read-admitted : (p : Picture) (samples work : ℕ) → read_admission p samples work ≡ Ok tt → (0 < p.width) × (0 < p.height) × Admitted 1 p samples work
unfolding read_admission
read-admitted p samples work e =
    let sides = past _ _ _ e in
    let no = neither (eqb p.width 0) (eqb p.height 0) sides.0 in
    (positive p.width (eqb-false p.width 0 no.0), positive p.height (eqb-false p.height 0 no.1), admitted 1 p samples work sides.1)
  where
    neither : (s t : Bool) → (s || t) ≡ false → (s ≡ false) × (t ≡ false)
    neither true t e = absurd (subst T e tt)
    neither false t e = (refl, e)

    positive : (n : ℕ) → (n ≡ 0 → ⊥) → 0 < n
    positive n h = omega (arith, h)
