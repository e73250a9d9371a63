-- Every number of the dither is exact, and from 0 up to, not including, 1; and the sixteen of a block of the keystream.
use Rattle.std.specs.Prelude.{◌≡◌, refl, false, ℕ, ◌+◌, ◌*◌, ◌/◌, ◌%◌, ◌^◌, ◌<◌, pos, get_or, Float}
use Rattle.std.proofs.Common.{sym, ap, ◌∙◌, subst, mul-one, zero-lt-suc, arith, lit≤, lit<}
use Rattle.std.specs.Float.{binary32}
use Rattle.std.specs.Float.Ieee.{round, div, of_int}
use Rattle.std.specs.Float.Ieee.Exact.{HasValue}
use Rattle.std.specs.Float.Ieee.Back.{round_whole}
use Rattle.shuffle.specs.Shuffle.{layout_key}
use Rattle.chacha20.specs.Rfc8439.{chacha_block}
use Rattle.seq.specs.Bytes.{word}
use Rattle.chacha20.specs.Blocks.{block-below}
use Rattle.seq.specs.Tab.{tab-same}
use Rattle.seq.specs.Lists.{tab}
use Rattle.float.specs.Base.{two_to}
use Rattle.float_laws.specs.Product.{div-value-at}
use Rattle.float.specs.Rounding.{exact-at}
use Rattle.dither.specs.Dither.{dither_nonce, dithered, dither_of}

below-24 : (a b c d : ℕ) → a < 256 → b < 256 → c < 256 → d < 256 → (a + b * 2 ^ 8 + c * 2 ^ 16 + d * 2 ^ 24) / 2 ^ 8 < 2 ^ 24
below-24 a b c d A B C D = omega arith

quotient : (n : ℕ) → n < 2 ^ 24 → HasValue (div binary32 (of_int binary32 (pos n)) (two_to 24)) false n (2 ^ 24)
unfolding of_int
quotient n h =
    subst (λ (x : Float). HasValue x false n (2 ^ 24))
    (sym (div-value-at binary32 (round binary32 false n 1) (two_to 24) false false n 1 (2 ^ 24) 1 (zero-lt-suc 0) (lit< tt) (zero-lt-suc 0)
    (round_whole binary32 false n (omega arith)) (refl, refl)
    ∙ ap (λ (a : ℕ). round binary32 false a (1 * 2 ^ 24)) (mul-one n)))
    (exact-at binary32 false n 24 (lit≤ tt) (omega arith))

pub dither-exact : (n : ℕ) → (m : ℕ) × (m < 2 ^ 24) × HasValue (dither_of n) false m (2 ^ 24)
unfolding dither_of dithered word
dither-exact n =
    let bytes = chacha_block layout_key (n / 16) dither_nonce in
    let k = n % 16 in
    let m = word bytes k / 2 ^ 8 in
    let at : (i : ℕ) → get_or bytes i 0 < 256 = block-below layout_key (n / 16) dither_nonce in
    let h : m < 2 ^ 24 = below-24 (get_or bytes (4 * k) 0) (get_or bytes (4 * k + 1) 0) (get_or bytes (4 * k + 2) 0) (get_or bytes (4 * k + 3) 0) (at (4 * k))
    (at (4 * k + 1)) (at (4 * k + 2)) (at (4 * k + 3)) in
    (m, h, quotient m h)

-- the sixteen numbers of block g of the keystream are those from 16 g on
pub group_of : (g : ℕ) → tab (dithered (chacha_block layout_key g dither_nonce)) 16 ≡ tab (λ k. dither_of (16 * g + k)) 16
unfolding dither_of
group_of g = tab-same _ _ 16 (λ k h. let d : (16 * g + k) / 16 ≡ g = omega arith in let m : (16 * g + k) % 16 ≡ k = omega arith in rw (d, m) refl)
