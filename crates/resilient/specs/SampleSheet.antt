-- The sample sheet holds, computed over the definitions.
use Rattle.std.specs.Prelude.{refl}
use Rattle.record_build.specs.Sheet.{none_passes, of-32-passes, of-33-refused}
use Rattle.encoder.specs.Sheet.{zero-record, first_bit, last_bit}
use Rattle.block.specs.Sheet.{marked-sheet, term-sheet, rest-sheet, added_in_order, added_apart, taken_in_order, taken_apart, floor_after_u, summed_in_order}
use Rattle.resample_window_laws.specs.Sheet.{halved, doubled}
use Rattle.resample_up.specs.Sheet.{written}
use Rattle.admission.specs.Admission.{shorter, longer, room_of, admission, write_admission}
use Rattle.resilient.specs.Resilient.{write_answer}
use Rattle.resilient.specs.Sheet.{Sheet}

pub sheet : Sheet
unfolding write_answer write_admission admission shorter longer room_of
sheet = record {
  text_of_32 = λ lock. rw (of-32-passes lock) refl;
  text_of_33 = λ lock. rw (of-33-refused lock) refl;
  shorter_512 = λ lock. rw (none_passes lock) refl;
  shorter_511 = λ lock. rw (none_passes lock) refl;
  longer_8193 = λ lock. rw (none_passes lock) refl;
  zeros = zero-record;
  byte_0 = first_bit;
  byte_45 = last_bit;
  marked_8 = marked-sheet.0;
  marked_minus_8 = marked-sheet.1;
  marked_8_by_1 = marked-sheet.2;
  term_of_8 = term-sheet.0;
  term_of_4 = term-sheet.1;
  tiny_rest = rest-sheet;
  tiny_term = term-sheet.2;
  from_512 = halved;
  to_512 = doubled;
  sample_254 = written;
  added_in_order = added_in_order;
  added_apart = added_apart;
  taken_in_order = taken_in_order;
  taken_apart = taken_apart;
  floor_after_u = floor_after_u;
  summed_in_order = summed_in_order;
}
