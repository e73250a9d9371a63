-- Crate `resample_window`: each public function's promise determines its outcome.
use Rattle.determined.specs.One.{one}
use Rattle.determined.specs.Determined.{Determined}
use Rattle.resample_window.specs.contracts as resample_window
use Rattle.resample_window.proofs as proved

pub new-one : Determined resample_window.Window.new.ended proved.Window.new.Reads.Post
new-one κs a x y p q i = (one p q i, x.1)

pub tent-one : Determined resample_window.Window.tent.ended proved.Window.tent.Reads.Post
tent-one κs a x y p q i = (one p q i, x.1)

pub weight-one : Determined resample_window.Window.weight.ended proved.Window.weight.Reads.Post
weight-one κs a x y p q i = (one p q i, x.1)

pub window-taps-one : Determined resample_window.Window.taps.ended proved.Window.taps.Reads.Post
window-taps-one κs a x y p q i = (one p q i, x.1)

pub count-one : Determined resample_window.count.ended proved.count.Reads.Post
count-one κs a x y p q i = (one p q i, x.1)

pub nth-one : Determined resample_window.nth.ended proved.nth.Reads.Post
nth-one κs a x y p q i = (one p q i, x.1)

pub is-side-one : Determined resample_window.is_side.ended proved.is_side.Reads.Post
is-side-one κs a x y p q i = (one p q i, x.1)

pub clamp-one : Determined resample_window.clamp.ended proved.clamp.Reads.Post
clamp-one κs a x y p q i = (one p q i, x.1)

pub taps-one : Determined resample_window.taps.ended proved.taps.Reads.Post
taps-one κs a x y p q i = (tt, (tt, (tt, (one p.0 q.0 i, (one p.1.0 q.1.0 i, (one p.1.1 q.1.1 i, tt))))))
