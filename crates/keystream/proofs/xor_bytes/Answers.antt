-- The bytes passed are put through, the others as they were (`filled`).
use Rattle.std.proofs.Common.{◌≡◌, ℕ, ◌+◌, length, get_or, bit_xor, ◌∙◌, arith}
use Rattle.seq.specs.Tab.{filled_none, filled-all}
use Rattle.chacha20.specs.Rfc8439.{xored}
use Rattle.keystream.specs.Filled.{filled-step}
use Rattle.keystream.proofs.xor_bytes.Goals as goal

pub loop-i-init : goal.loop-i-init
loop-i-init c = filled_none _ _

pub loop-i-preserved : goal.loop-i-preserved
loop-i-preserved c =
    let put : ℕ → ℕ → ℕ = λ k b. bit_xor b (get_or c.args.stream.now (c.args.at + k) 0) in
    filled-step put c.loop-i.i c.args.bytes.now c.loop-i.bytes 0 (omega arith) c.loop-i.invariant

pub returns : goal.returns
unfolding xored
returns c =
    let all : c.loop-i.i ≡ length c.args.bytes.now = omega arith in
    (rw all at c.loop-i.invariant) ∙ filled-all _ c.args.bytes.now
