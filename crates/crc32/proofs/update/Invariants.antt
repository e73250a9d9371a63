-- After n blocks of eight the register is that of the first 8 n bytes: the one after the bytes left is the one after all of them.
use Rattle.std.proofs.Common.{◌≡◌, ◌*◌, ◌≤◌, length, drop}
use Rattle.std.specs.Slice.Iter.{chunks_exact_rest, chunks_exact_size}
use Rattle.crc32.specs.Shift.{register_after}
use Rattle.crc32.proofs.update.Given as goal

abbrev pub invariant-loop-block : goal.invariant-loop-block
invariant-loop-block l =
    let at = 8 * length l.yielded in
    (chunks_exact_size l.block-iterator ≡ 8) × (at ≤ length l.bytes) × (chunks_exact_rest l.block-iterator ≡ drop at l.bytes)
    × (register_after l.x (drop at l.bytes) ≡ register_after 0xffff_ffff l.bytes)
