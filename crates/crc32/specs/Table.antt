-- The table of the register's turns, and what stands at a place of it.
use Rattle.std.specs.Prelude.{◌≡◌, ℕ, ◌+◌, ◌*◌, ◌/◌, ◌%◌, ◌<◌, get_or}
use Rattle.std.proofs.Common.{ap₂, ◌∙◌, arith}
use Rattle.std.specs.Int.Bits.{bit_xor}
use Rattle.std.proofs.Math.Pow.{field, mod-mod-pow}
use Rattle.seq.specs.Tab.{get_or-tab}
use Rattle.crc32.specs.Shift.{reflected, register_turns, table_entry, table}
use Rattle.crc32.specs.Turns.{turns-apart}

pub table_at : (k y : ℕ) → k < 16 → get_or table (k * 16 + y % 16) 0 ≡ register_turns reflected (4 * (k + 1)) (y % 16)
unfolding table table_entry
table_at k y h =
    let m = k * 16 + y % 16 in
    let row : m / 16 ≡ k = omega arith in
    let column : m % 16 ≡ y % 16 = omega arith in
    get_or-tab table_entry 256 m 0 (omega arith) ∙ ap₂ (λ (a b : ℕ). register_turns reflected (4 * (a + 1)) b) row column

-- a byte by its two halves
pub byte-halves : (k y : ℕ)
    → register_turns reflected (8 * (k + 1)) (y % 256)
    ≡ bit_xor (register_turns reflected (4 * (2 * k + 1 + 1)) (y % 16)) (register_turns reflected (4 * (2 * k + 1)) (y / 16 % 16))
byte-halves k y =
    let n = 4 * (2 * k + 1) in
    let both : 8 * (k + 1) ≡ 4 + n = omega arith in
    let one : 4 * (2 * k + 1 + 1) ≡ 4 + n = omega arith in
    rw (both, one) (turns-apart reflected 4 n (y % 256) ∙ rw (mod-mod-pow y 4 4, field y 4 4))
