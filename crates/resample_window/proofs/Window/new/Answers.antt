-- Where there is a window it is `sample_window`'s, and else the empty one.
use Rattle.resample_window.specs.Window.{window_of}
use Rattle.resample_window.proofs.Window.new.Goals as goal

pub returns-else-has_window : goal.returns-else-has_window
unfolding window_of
returns-else-has_window c = rw (← c.has_window.ensures, c.if-has_window.false) c.empty.ensures
