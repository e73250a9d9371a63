-- The word of four bytes, lowest first, is the definition's.
use Rattle.seq.specs.Bytes.{word}
use Rattle.chacha20.proofs.word_at.Goals as goal

pub returns : goal.returns
unfolding word
returns c = c.from_le_bytes.ensures
