-- Draws: the limit by 64-bit numbers, the next draw, and that what is drawn lies below the range.
use Rattle.std.specs.Prelude.{◌≡◌, ℕ, zero, suc, ◌+◌, ◌-◌, ◌*◌, ◌/◌, ◌%◌, ◌^◌, ◌<◌, ◌≤◌, Bool, true, false, ltb, List, replicate, nat_le, nat_lt, slice_index, refl}
use Rattle.std.specs.Int.{from_le_bytes, w64}
use Rattle.std.proofs.Common.{sym, ◌∙◌, true≢false, mod-lt, div-add-mod', add-zero, le-leb, lt-ltb, le-ltb}
use Rattle.std.proofs.Math.Path.{ap}
use Rattle.std.proofs.Math.Nat.{add-mod_right}
use Rattle.std.proofs.Math.Decide.{dec_lt}
use native.Mathlib.Omega.{arith}
use Rattle.std.proofs.lemmas.Bool.{lt-leb}
use Rattle.seq.specs.Lists.{tab}
use Rattle.keystream.specs.Apply.{left_at, bytes_after}
use Rattle.keystream.specs.Laws.{after_next, encrypted-zeros}
use Rattle.keystream.specs.declared.KeystreamEnd.{KeystreamEnd}
use Rattle.std.specs.Prelude.{Result, Ok, Err}
use Rattle.shuffle.specs.Shuffle.{value_at, limit, or_again, drawn, draws_from, stream_of}

-- w, which is 2^64 - range, leaves the remainder of 2^64, and that much below 2^64 stands the limit
pub limit-wraps : (value range w : ℕ) → 0 < range → w + range ≡ 2 ^ 64 → nat_le value (2 ^ 64 - 1 - w % range) ≡ nat_lt value (limit range)
unfolding limit
limit-wraps value range w h e =
    let rest : w % range ≡ 2 ^ 64 % range = sym (add-mod_right w range) ∙ ap (λ (n : ℕ). n % range) e in
    let whole : 2 ^ 64 / range * range + 2 ^ 64 % range ≡ 2 ^ 64 = div-add-mod' (2 ^ 64) range in
    let small : 2 ^ 64 % range < range = mod-lt (2 ^ 64) h in
    go value (w % range) (2 ^ 64 / range * range) (omega arith) (omega arith)
  where
    go : (v m q : ℕ) → q + m ≡ 2 ^ 64 → m < 2 ^ 64 → nat_le v (2 ^ 64 - 1 - m) ≡ nat_lt v q
    go v m q s l =
        elim (dec_lt v q) [
          | yes i ↦ le-leb v (2 ^ 64 - 1 - m) (omega arith) ∙ sym (lt-ltb v q i)
          | no o ↦ lt-leb v (2 ^ 64 - 1 - m) (omega arith) ∙ sym (le-ltb v q (omega arith))
        ]

-- a range of 0 takes no number
pub limit-none : (value : ℕ) → nat_lt value (limit 0) ≡ false
unfolding limit
limit-none value = le-ltb value (2 ^ 64 / 0 * 0) (omega arith)

pub range-some : (value range : ℕ) → nat_lt value (limit range) ≡ true → 0 < range
range-some value zero e = let z : ◌≡◌ {A = Bool} true false = sym e ∙ limit-none value in absurd (true≢false z)
range-some value (suc range) e = omega arith

module _ (stream : ℕ → ℕ) (range p : ℕ) where
  pub draws-end : left_at p < 8 → drawn stream range (draws_from p) p ≡ Err (record {})
  unfolding drawn
  draws-end h = let e : draws_from p ≡ 0 = omega arith in rw e

  module _ (enough : 8 ≤ left_at p) where
    turn : Bool → Result (ℕ × ℕ) KeystreamEnd
    turn taken = or_again taken (value_at stream p % range) (p + 8) (drawn stream range (draws_from (p + 8)))

    next : drawn stream range (draws_from p) p ≡ turn (nat_lt (value_at stream p) (limit range))
    unfolding drawn turn
    next = let e : draws_from p ≡ suc (draws_from (p + 8)) = omega arith in ap (λ (n : ℕ). drawn stream range n p) e

    pub draws-found : ltb (value_at stream p) (limit range) ≡ true → drawn stream range (draws_from p) p ≡ Ok (value_at stream p % range, p + 8)
    unfolding turn
    draws-found t = next ∙ ap turn t

    pub draws-again : ltb (value_at stream p) (limit range) ≡ false → drawn stream range (draws_from p) p ≡ drawn stream range (draws_from (p + 8)) (p + 8)
    unfolding turn
    draws-again t = next ∙ ap turn t

-- eight zeros with the keystream put onto them are the number drawn
pub value-drawn : (key : List ℕ) (p : ℕ) → 8 ≤ left_at p
    → value_at (λ k. slice_index (bytes_after key (replicate 12 0) p (replicate 8 0)) k) 0 ≡ value_at (stream_of key) p
unfolding value_at tab
value-drawn key p h =
    let e : bytes_after key (replicate 12 0) p (replicate 8 0) ≡ tab (λ k. stream_of key (p + k)) 8 =
    after_next key (replicate 12 0) p (replicate 8 0) h ∙ encrypted-zeros key (replicate 12 0) p 8 in
    rw (e, add-zero p) refl

-- a number found lies below the range
pub drawn-below : (stream : ℕ → ℕ) (range n p r q : ℕ) → 0 < range → drawn stream range n p ≡ Ok (r, q) → r < range
unfolding drawn
drawn-below stream range zero p r q h e = let z : ◌≡◌ {A = ℕ} 0 1 = cc in absurd (omega arith)
drawn-below stream range (suc n) p r q h e = go (nat_lt (value_at stream p) (limit range)) refl (λ d. drawn-below stream range n (p + 8) r q h d)
  where
    go : (t : Bool) → nat_lt (value_at stream p) (limit range) ≡ t → (drawn stream range n (p + 8) ≡ Ok (r, q) → r < range) → r < range
    go true b again =
        let f : ◌≡◌ {A = Result (ℕ × ℕ) KeystreamEnd} (Ok (value_at stream p % range, p + 8)) (Ok (r, q)) = rw b at e in
        let m : ◌≡◌ {A = ℕ × ℕ} (value_at stream p % range, p + 8) (r, q) = cc in
        rw (← ap (λ (x : ℕ × ℕ). x.0) m) (mod-lt (value_at stream p) h)
    go false b again = again (rw b at e)

-- eight bytes as a number, in the library's words
pub le-value : (bytes : List ℕ) → from_le_bytes w64 bytes ≡ value_at (λ k. slice_index bytes k) 0
unfolding value_at
le-value bytes = omega arith
