-- At 8 and at 3 the tables of words compute to the words themselves, one call each.
use Rattle.seq.specs.Lists.{tab}
use Rattle.chacha20.specs.Rfc8439.{initial}
use Rattle.chacha20.proofs.first_state.Goals as goal

pub returns : goal.returns
unfolding initial tab
returns c =
    rw (
      c.word_at-11.ensures,
      c.word_at-10.ensures,
      c.word_at-9.ensures,
      c.word_at-8.ensures,
      c.word_at-7.ensures,
      c.word_at-6.ensures,
      c.word_at-5.ensures,
      c.word_at-4.ensures,
      c.word_at-3.ensures,
      c.word_at-2.ensures,
      c.word_at.ensures,
    )
