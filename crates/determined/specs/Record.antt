-- Crate `record`: each public function's promise determines its outcome. Not here, since it hands out a slice of a text, and
-- no promise says where that stands: `Text::as_slice`.
use Rattle.determined.specs.One.{one}
use Rattle.determined.specs.Determined.{Determined}
use Rattle.record.specs.contracts as rec
use Rattle.record.proofs as proved

pub number-at-one : Determined rec.crc.number_at.ended proved.crc.number_at.Reads.Post
number-at-one κs a x y p q i = (one p q i, x.1)

pub put-crc-one : Determined rec.crc.put_crc.ended proved.crc.put_crc.Reads.Post
put-crc-one κs a x y p q i = (tt, (one p q i, (tt, tt)))

pub intact-one : Determined rec.crc.intact.ended proved.crc.intact.Reads.Post
intact-one κs a x y p q i = (one p q i, x.1)

pub cover_one : Determined rec.cover.ended proved.cover.Reads.Post
cover_one κs a x y p q i = (tt, (one p q i, (tt, tt)))

pub text-empty-one : Determined rec.Text.empty.ended proved.Text.empty.Reads.Post
text-empty-one κs a x y p q i = (one p q i, x.1)

pub text-new-one : Determined rec.Text.new.ended proved.Text.new.Reads.Post
text-new-one κs a x y p q i = (one p q i, x.1)

pub text-len-one : Determined rec.Text.len.ended proved.Text.len.Reads.Post
text-len-one κs a x y p q i = (one p.0 q.0 i, x.1)

pub text-bytes-one : Determined rec.Text.bytes.ended proved.Text.bytes.Reads.Post
text-bytes-one κs a x y p q i = (one p q i, x.1)

pub text-given-one : Determined rec.text_given.ended proved.text_given.Reads.Post
text-given-one κs a x y p q i = (one p q i, x.1)

pub lock-when-one : Determined rec.Lock.when.ended proved.Lock.when.Reads.Post
lock-when-one κs a x y p q i = (one p q i, x.1)

pub key-when-one : Determined rec.Key.when.ended proved.Key.when.Reads.Post
key-when-one κs a x y p q i = (one p q i, x.1)
