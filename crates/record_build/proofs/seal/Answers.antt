-- What stands behind the bytes done so far are zeros, which the two CRC-32 are put over, and the cipher does not reach.
use mathlib.Core.Path.{◌≡◌, refl, ap}
use mathlib.Core.List.{List, [], ◌++◌, append-nil}
use Prim.Native.Nat.{ℕ, ◌+◌, ◌≤◌}
use native.Mathlib.Omega.{arith}
use lib.ListN.{length, take, drop, replicate, length-append}
use lib.Seq.{take_at, drop_at, drop-append-add}
use Rattle.record.specs.Record.{short, outer_at, with_crc, laid_out, locked, record_of}
use Rattle.record.specs.Laws.{length-summed, length-locked, locked-append}
use Rattle.record_build.proofs.seal.Goals as goal

-- a CRC-32 put over the four bytes behind xs
put-over : (xs ys zs : List ℕ) (k : ℕ) → length xs ≡ k → length ys ≡ 4
    → with_crc (take k (xs ++ (ys ++ zs))) ++ drop (k + 4) (xs ++ (ys ++ zs)) ≡ with_crc xs ++ zs
put-over xs ys zs k e f =
    rw (← e, take_at xs (ys ++ zs) (length xs) refl, drop-append-add xs (ys ++ zs) 4, drop_at ys zs 4 f)

pub returns : goal.returns
unfolding record_of
returns c =
    let text = c.args.text.now in
    let lock = c.args.lock in
    let inner = with_crc (laid_out short text lock) in
    let size : length (laid_out short text lock) ≡ 38 = omega (arith, ap length c.lay-bytes.ensures, length-append (laid_out short text lock) (replicate 8 0)) in
    let full : length inner ≡ 42 = omega (arith, length-summed (laid_out short text lock)) in
    let whole : outer_at short ≤ length inner = omega arith in
    let same : length (locked short lock inner) ≡ 42 = omega (arith, length-locked short lock inner whole) in
    rw (
      c.put_crc-2.ensures,
      c.lock_up.ensures,
      c.put_crc.ensures,
      c.lay-bytes.ensures,
      put-over (laid_out short text lock) (replicate 4 0) (replicate 4 0) 38 size refl,
      locked-append short lock inner whole (replicate 4 0),
      put-over (locked short lock inner) (replicate 4 0) [] 42 same refl,
    )
    (append-nil (with_crc (locked short lock inner)))
