-- Each step is a call; the definition is the same chain of steps.
use Rattle.std.proofs.Common.{ℕ, ◌+◌, ◌%◌, ◌^◌, ◌<◌, refl, mod-lt, lit<}
use Rattle.chacha20.specs.Rfc8439.{quarter}
use Rattle.chacha20.proofs.Rolls.{rolled}
use Rattle.chacha20.proofs.quarter.Goals as goal

word_sum : (x y : ℕ) → (x + y) % 2 ^ 32 < 2 ^ 32
word_sum x y = mod-lt (x + y) (lit< tt)

pub returns : goal.returns
unfolding quarter
returns c =
    let d = rolled 16 c.args.d _ _ (lit< tt) (lit< tt) c.ranges.d.fits (word_sum c.args.a c.args.b) c.rotate_left-d.ensures in
    let b = rolled 12 c.args.b _ _ (lit< tt) (lit< tt) c.ranges.b.fits (word_sum c.args.c c.rotate_left-d.result) c.rotate_left-b.ensures in
    let d' = rolled 8 _ _ _ (lit< tt) (lit< tt) c.rotate_left-d.type_inv (word_sum _ c.rotate_left-b.result) c.rotate_left-d-2.ensures in
    let b' = rolled 7 _ _ _ (lit< tt) (lit< tt) c.rotate_left-b.type_inv (word_sum _ c.rotate_left-d-2.result) c.rotate_left-b-2.ensures in
    rw (b', d', b, d) refl
