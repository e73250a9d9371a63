-- The bytes done hold the result, the others what they held (`filled`). A turn does what one block has (`turn`).
use borrow.Author.Rules.{rules}
use mathlib.Core.Path.{◌≡◌, refl, ◌∙◌}
use mathlib.Core.List.{List}
use Prim.Native.Nat.{ℕ, ◌+◌, ◌-◌, ◌/◌, ◌%◌, ◌≤◌, ◌<◌}
use native.Mathlib.Omega.{arith}
use lib.Bits.{bit_xor}
use lib.ListN.{length, take, drop, get_or, length-drop}
use lib.Seq.{length-take-le, get_or-take, get_or-drop}
use borrow.Rule.Slice.PartMut.{put_mid}
use Rattle.seq.specs.Tab.{filled_none, filled-all}
use Rattle.seq.specs.Lists.{filled}
use Rattle.chacha20.specs.Rfc8439.{chacha_block, xored, encrypted}
use Rattle.keystream.specs.Filled.{filled-rest, filled-part}
use Rattle.chacha20.specs.Blocks.{block-counted, keystream-in}
use Rattle.keystream.proofs.encrypt.Invariants.{byte_at}
use Rattle.keystream.proofs.encrypt.Goals as goal

-- byte k of a turn, from the block that has it
turned : (key nonce d : List ℕ) (from done r k : ℕ) → (from + done) % 64 + r ≤ 64 → k < r
    → bit_xor (get_or (take r (drop done d)) k 0) (get_or (chacha_block key ((from + done) / 64) nonce) ((from + done) % 64 + k) 0)
    ≡ byte_at key nonce from d (done + k)
turned key nonce d from done r k l h =
    let p : ℕ = from + done in
    rw (get_or-take r (drop done d) k 0 h, get_or-drop done d k 0, ← keystream-in key nonce (p / 64) (p % 64 + k) (from + (done + k)) (omega arith) (omega arith))

-- a turn: r bytes of one block put onto the r places from done on
turn : (key nonce d : List ℕ) (from done r : ℕ) → done + r ≤ length d → (from + done) % 64 + r ≤ 64
    → let b = filled (byte_at key nonce from d) done d in
    let part = take (done + r - done) (drop done b) in
    put_mid done (done + r - done) b (xored (λ k. get_or (chacha_block key ((from + done) / 64) nonce) k 0) ((from + done) % 64) part)
    ≡ filled (byte_at key nonce from d) (done + r) d
unfolding xored
turn key nonce d from done r h l =
    let f : ℕ → ℕ = byte_at key nonce from d in
    let lent : done + r - done ≡ r = omega arith in
    let long : length (take r (drop done d)) ≡ r = length-take-le r (drop done d) (omega (arith, length-drop done d)) in
    rw (lent, filled-rest f done d, long) (filled-part f _ done r d (λ k. turned key nonce d from done r k l))

pub loop-done-init : goal.loop-done-init
loop-done-init c = (search rules, refl, filled_none _ _)

pub loop-done-preserved : goal.loop-done-preserved
loop-done-preserved c =
    let key = c.args.key.now in
    let nonce = c.args.nonce.now in
    let step = turn key nonce c.args.bytes.now c.args.from c.loop-done.done c.min.result (omega (arith, c)) (omega (arith, c)) in (
      search rules,
      search rules,
      rw (
        c.xor_bytes.ensures,
        c.block_from-stream.ensures,
        c.first_state-first.ensures,
        block-counted key _ nonce,
        c.loop-done.invariant.2,
      ) step,
    )

pub returns : goal.returns
unfolding encrypted xored
returns c =
    let all : c.loop-done.done ≡ length c.args.bytes.now = omega arith in
    (rw all at c.loop-done.invariant.2) ∙ filled-all _ c.args.bytes.now
