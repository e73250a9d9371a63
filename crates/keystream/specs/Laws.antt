-- What callers use of `apply`: when it is granted, that twice is never, that parts make the whole, that lengths are kept,
-- and that zeros become the keystream.
use Rattle.std.specs.Prelude.{◌≡◌, refl, ℕ, zero, suc, ◌+◌, ◌*◌, ◌/◌, ◌%◌, ◌≤◌, ◌<◌, length, get_or, replicate, Ok, Err}
use Rattle.std.proofs.Common.{◌∙◌, mod-lt, div-add-mod', add_assoc, arith, lit<, length-append, get_or-append-add, ext_get_or, le-leb}
use Rattle.std.proofs.Math.Path.{ap, ap₂}
use mathlib.Core.List.{List, ◌++◌}
use Rattle.std.proofs.Math.Decide.{dec_le}
use Rattle.std.proofs.Math.Arith.{bin_ind, digits_mod}
use Rattle.std.specs.Int.Bits.{bit_xor, differ, xor_step, xor_self}
use Rattle.std.proofs.lemmas.Nat.{xor_shr}
use Rattle.std.proofs.lemmas.List.{length-replicate, get_or-replicate}
use Rattle.std.proofs.Math.ListN.{get_or-append}
use Rattle.std.proofs.lemmas.Bool.{lt-leb}
use Rattle.seq.specs.Tab.{length-tab, get_or-tab, tab-same, tab-append}
use Rattle.seq.specs.Lists.{tab}
use Rattle.keystream.specs.declared.KeystreamEnd.{KeystreamEnd}
use Rattle.chacha20.specs.Rfc8439.{keystream, xored, encrypted}
use Rattle.keystream.specs.Apply.{left_at, applied_of, bytes_after}

-- granted exactly where as many bytes are left
pub applied-next : (p n : ℕ) → n ≤ left_at p → applied_of p n ≡ Ok (p + n)
unfolding applied_of
applied-next p n h = rw (le-leb n (left_at p) h)

pub applied-end : (p n : ℕ) → left_at p < n → applied_of p n ≡ Err (record {})
unfolding applied_of
applied-end p n h = rw (lt-leb n (left_at p) h)

-- and what the answer tells
pub next-granted : (p n q : ℕ) → applied_of p n ≡ Ok q → (n ≤ left_at p) × (q ≡ p + n)
next-granted p n q e =
    elim (dec_le n (left_at p)) [
      | yes h ↦ (h, cc (e, applied-next p n h))
      | no h ↦ let z : ⊥ = cc (e, applied-end p n (omega arith)) in absurd z
    ]

pub end_refused : (p n : ℕ) (d : KeystreamEnd) → applied_of p n ≡ Err d → left_at p < n
end_refused p n d e =
    elim (dec_le n (left_at p)) [
      | yes h ↦ let z : ⊥ = cc (e, applied-next p n h) in absurd z
      | no h ↦ omega arith
    ]

module _ (key nonce : List ℕ) (p : ℕ) (bs : List ℕ) where
  pub after_next : length bs ≤ left_at p → bytes_after key nonce p bs ≡ encrypted key nonce p bs
  unfolding bytes_after
  after_next h = rw (le-leb (length bs) (left_at p) h)

  pub after-end : left_at p < length bs → bytes_after key nonce p bs ≡ bs
  unfolding bytes_after
  after-end h = rw (lt-leb (length bs) (left_at p) h)

-- exclusive or with a number twice is as before
differ-twice : (x y : ℕ) → x < 2 → y < 2 → (differ x y < 2) × (differ (differ x y) y ≡ x)
differ-twice zero zero h k = (lit< tt, refl)
differ-twice zero (suc zero) h k = (lit< tt, refl)
differ-twice (suc zero) zero h k = (lit< tt, refl)
differ-twice (suc zero) (suc zero) h k = (lit< tt, refl)
differ-twice zero (suc (suc y)) h k = absurd (omega arith)
differ-twice (suc (suc x)) y h k = absurd (omega arith)
differ-twice (suc zero) (suc (suc y)) h k = absurd (omega arith)

xor-twice : (a b : ℕ) → bit_xor (bit_xor a b) b ≡ a
xor-twice =
    bin_ind (λ (a : ℕ). (b : ℕ) → bit_xor (bit_xor a b) b ≡ a) xor_self
    (λ a again b.
    let digit : (differ (a % 2) (b % 2) < 2) × (differ (differ (a % 2) (b % 2)) (b % 2) ≡ a % 2) =
    differ-twice (a % 2) (b % 2) (mod-lt a (lit< tt)) (mod-lt b (lit< tt)) in
    let odd : bit_xor a b % 2 ≡ differ (a % 2) (b % 2) = ap (λ (n : ℕ). n % 2) (xor_step a b) ∙ digits_mod (bit_xor (a / 2) (b / 2)) digit.0 in
    xor_step (bit_xor a b) b
    ∙ (ap₂ (λ (x y : ℕ). bit_xor x (b / 2) * 2 + differ y (b % 2)) (xor_shr a b 1) odd
    ∙ (ap₂ (λ (x y : ℕ). x * 2 + y) (again (b / 2)) digit.1 ∙ div-add-mod' a 2)))

module _ (key nonce : List ℕ) where
  pub length-encrypted : (p : ℕ) (bs : List ℕ) → length (encrypted key nonce p bs) ≡ length bs
  unfolding encrypted xored
  length-encrypted p bs = length-tab _ (length bs)

  get_or-encrypted : (p : ℕ) (bs : List ℕ) (k : ℕ) → k < length bs → get_or (encrypted key nonce p bs) k 0 ≡ bit_xor (get_or bs k 0) (keystream key nonce (p + k))
  unfolding encrypted xored
  get_or-encrypted p bs k h = get_or-tab _ (length bs) k 0 h

  -- from one position twice is as before
  pub encrypted-twice : (p : ℕ) (bs : List ℕ) → encrypted key nonce p (encrypted key nonce p bs) ≡ bs
  encrypted-twice p bs =
      let once : List ℕ = encrypted key nonce p bs in
      ext_get_or 0 (encrypted key nonce p once) bs (length-encrypted p once ∙ length-encrypted p bs)
      (λ k h.
      let k₁ : k < length once = rw (length-encrypted p once) at h in
      let k₀ : k < length bs = rw (length-encrypted p bs) at k₁ in
      get_or-encrypted p once k k₁
      ∙ (ap (λ (b : ℕ). bit_xor b (keystream key nonce (p + k))) (get_or-encrypted p bs k k₀) ∙ xor-twice (get_or bs k 0) (keystream key nonce (p + k))))

  -- a list in two parts, the second from the position after the first
  encrypted-append : (p : ℕ) (xs ys : List ℕ) → encrypted key nonce p (xs ++ ys) ≡ encrypted key nonce p xs ++ encrypted key nonce (p + length xs) ys
  unfolding encrypted xored
  encrypted-append p xs ys =
      ap (tab (λ k. bit_xor (get_or (xs ++ ys) k 0) (keystream key nonce (p + k)))) (length-append xs ys)
      ∙ (tab-append _ (length xs) (length ys)
      ∙ ap₂ ◌++◌
      (tab-same _ _ (length xs) (λ k h. rw (get_or-append xs ys 0 k h)))
      (tab-same _ _ (length ys) (λ k h. rw (get_or-append-add xs ys k 0, add_assoc))))

  -- onto zeros: the keystream itself
  pub encrypted-zeros : (p n : ℕ) → encrypted key nonce p (replicate n 0) ≡ tab (λ k. keystream key nonce (p + k)) n
  unfolding encrypted xored
  encrypted-zeros p n = ap (tab _) (length-replicate n 0) ∙ tab-same _ _ n (λ k h. rw (get_or-replicate {A = ℕ} n k 0 0 h))

  -- applied twice, the bytes are as they were, granted or refused
  module _ (p : ℕ) (bs : List ℕ) where
    pub apply-twice : bytes_after key nonce p (bytes_after key nonce p bs) ≡ bs
    apply-twice =
        elim (dec_le (length bs) (left_at p)) [
          | yes h ↦
              let again : length (encrypted key nonce p bs) ≤ left_at p = omega (arith, length-encrypted p bs) in
              rw (after_next key nonce p bs h, after_next key nonce p (encrypted key nonce p bs) again) (encrypted-twice p bs)
          | no h ↦ let few : left_at p < length bs = omega arith in rw (after-end key nonce p bs few) (after-end key nonce p bs few)
        ]

  pub apply-append : (p : ℕ) (xs ys : List ℕ) → length (xs ++ ys) ≤ left_at p
      → bytes_after key nonce p (xs ++ ys) ≡ bytes_after key nonce p xs ++ bytes_after key nonce (p + length xs) ys
  apply-append p xs ys h =
      let sum : length (xs ++ ys) ≡ length xs + length ys = length-append xs ys in
      rw (after_next key nonce p (xs ++ ys) h, after_next key nonce p xs (omega arith), after_next key nonce (p + length xs) ys (omega arith))
      (encrypted-append p xs ys)
