-- Sides and numbers are exact as floats; centre and support are the definition's, and the window's numbers are small
-- enough to be summed over.
use Rattle.std.proofs.Common.{◌≡◌, sym, ap, ◌∙◌}
use Rattle.std.specs.Float.Ieee.{of_bits}
use Rattle.resample_window.specs.Window.{scale_of, center_of, support_of, unsummed, with_sum}
use Rattle.resample_window.specs.Range.{window-sized}
use Rattle.resample_window.proofs.sample_window.Goals as goal

pub returns : goal.returns
unfolding center_of scale_of support_of of_bits
returns c =
    let a = c.args in
    let p = c.requires in
    let is : c.unsummed.result ≡ unsummed (center_of a.src a.dst a.i) (support_of a.src a.dst) =
    c.unsummed.ensures ∙ ap (unsummed (center_of a.src a.dst a.i)) c.max_f64.ensures in
    c.summed.ensures ∙ (ap with_sum is ∙ sym (window-sized a.src a.dst a.i p.0 p.1 p.2 p.3 p.4))
