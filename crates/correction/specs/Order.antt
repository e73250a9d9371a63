-- The order of the whole numbers under addition.
use Rattle.std.specs.Prelude.{◌≡◌, refl, Bool, true, false, not, cond, ℕ, zero, suc, ◌+◌, ◌-◌, ◌≤◌, ◌<◌, T, ltb, ℤ, pos, negsuc, neg_ℤ, nat_abs, ◌+ℤ◌, ◌≤ℤ◌, ◌<ℤ◌}
use Rattle.std.proofs.Common.{sym, ap, ◌∙◌, subst, arith, leb→le, le→leb, ltb→lt, nltb→le}
use Rattle.std.proofs.Math.IntN.{sub_ℕ, +ℤ_assoc, +ℤ_comm}
use Rattle.std.specs.Int.Signed.{lt_z, le_z, le_z_yes}

below_sub : (a b : ℕ) → a < b → sub_ℕ a b ≡ negsuc (b - suc a)
below_sub a b h = go (ltb a b) (nltb→le a b)
  where
    go : (t : Bool) → (T (not t) → b ≤ a) → cond t (negsuc (b - suc a)) (pos (a - b)) ≡ negsuc (b - suc a)
    go true k = refl
    go false k = absurd (let g : b ≤ a = k tt in omega arith)

above-sub : (a b : ℕ) → b ≤ a → sub_ℕ a b ≡ pos (a - b)
above-sub a b h = go (ltb a b) (ltb→lt a b)
  where
    go : (t : Bool) → (T t → a < b) → cond t (negsuc (b - suc a)) (pos (a - b)) ≡ pos (a - b)
    go true k = absurd (let g : a < b = k tt in omega arith)
    go false k = refl

pub le-more : (a : ℤ) (n : ℕ) → a ≤ℤ (a +ℤ pos n)
le-more (pos a) n = le_z_yes (le→leb a (a + n) (omega arith))
le-more (negsuc a) n = go (ltb n (suc a))
  where
    go : (t : Bool) → negsuc a ≤ℤ cond t (negsuc (suc a - suc n)) (pos (n - suc a))
    go true = le_z_yes (le→leb (suc a - suc n) a (omega arith))
    go false = le_z_yes tt

pub more_of : (a b : ℤ) → a ≤ℤ b → (n : ℕ) × (b ≡ a +ℤ pos n)
more_of (pos a) (pos b) h = (b - a, ap pos (let g : a ≤ b = leb→le a b h.le in let e : b ≡ a + (b - a) = omega arith in e))
more_of (pos a) (negsuc b) h = absurd h.le
more_of (negsuc a) (pos b) h = (suc a + b, ap pos (let e : b ≡ suc a + b - suc a = omega arith in e) ∙ sym (above-sub (suc a + b) (suc a) (omega arith)))
more_of (negsuc a) (negsuc b) h =
    let g : b ≤ a = leb→le b a h.le in
    (a - b, ap negsuc (let e : b ≡ suc a - suc (a - b) = omega arith in e) ∙ sym (below_sub (a - b) (suc a) (omega arith)))

pub ≤ℤ-trans : {a b c : ℤ} → a ≤ℤ b → b ≤ℤ c → a ≤ℤ c
≤ℤ-trans {a} {b} {c} h k =
    let p = more_of a b h in
    let q = more_of b c k in
    subst (λ (z : ℤ). a ≤ℤ z) (sym (q.1 ∙ ap (λ (z : ℤ). z +ℤ pos q.0) p.1 ∙ +ℤ_assoc a (pos p.0) (pos q.0))) (le-more a (p.0 + q.0))

pub ≤ℤ-add : {a b : ℤ} (c : ℤ) → a ≤ℤ b → (a +ℤ c) ≤ℤ (b +ℤ c)
≤ℤ-add {a} {b} c h =
    let p = more_of a b h in
    subst (λ (z : ℤ). (a +ℤ c) ≤ℤ z)
    (+ℤ_assoc a c (pos p.0) ∙ ap (λ (z : ℤ). a +ℤ z) (+ℤ_comm c (pos p.0)) ∙ sym (+ℤ_assoc a (pos p.0) c) ∙ ap (λ (z : ℤ). z +ℤ c) (sym p.1))
    (le-more (a +ℤ c) p.0)

lt-le : (a b : ℤ) → T (lt_z a b) → T (le_z a b)
lt-le (pos a) (pos b) h = le→leb a b (let g : a < b = ltb→lt a b h in omega arith)
lt-le (pos a) (negsuc b) h = h
lt-le (negsuc a) (pos b) h = tt
lt-le (negsuc a) (negsuc b) h = le→leb b a (let g : b < a = ltb→lt b a h in omega arith)

pub <ℤ-le : {a b : ℤ} → a <ℤ b → a ≤ℤ b
<ℤ-le {a} {b} h = le_z_yes (lt-le a b h.lt)

-- ---- sizes

sub-size : (a b : ℕ) → nat_abs (sub_ℕ a b) ≤ a + b
sub-size a b = go (ltb a b) (ltb→lt a b) (nltb→le a b)
  where
    go : (t : Bool) → (T t → a < b) → (T (not t) → b ≤ a) → nat_abs (cond t (negsuc (b - suc a)) (pos (a - b))) ≤ a + b
    go true k l = let g : a < b = k tt in omega arith
    go false k l = omega arith

pub size-add : (a b : ℤ) → nat_abs (a +ℤ b) ≤ nat_abs a + nat_abs b
size-add (pos a) (pos b) = omega arith
size-add (pos a) (negsuc b) = sub-size a (suc b)
size-add (negsuc a) (pos b) = let h : nat_abs (sub_ℕ b (suc a)) ≤ b + suc a = sub-size b (suc a) in omega arith
size-add (negsuc a) (negsuc b) = omega arith

pub size-neg : (a : ℤ) → nat_abs (neg_ℤ a) ≡ nat_abs a
size-neg (pos zero) = refl
size-neg (pos (suc a)) = refl
size-neg (negsuc a) = refl
