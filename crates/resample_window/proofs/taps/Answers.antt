-- After i output samples their taps stand one behind the other, with the places where each one's start.
use Rattle.std.proofs.Common.{◌≡◌, ◌+◌, ◌≤◌, length, sym, refl, ap, ◌∙◌, arith, length-set}
use Rattle.seq.specs.Tab.{filled_none, filled_more}
use Rattle.resample_window.specs.Window.{taps_of, taps, window_of, start, tap_sources, tap_weights, all_taps, onto}
use Rattle.resample_window.specs.Taps.{window-small, taps-of, start_none, start-more, start-rises, all_none, all-pushed, all-length}
use Rattle.resample_window.proofs.taps.Goals as goal

pub loop-i-init : goal.loop-i-init
loop-i-init c =
    let a = c.args in (
      omega arith,
      start_none a.src a.dst,
      filled_none (start a.src a.dst) a.offsets.now,
      all_none (λ t. t.from) a.src a.dst a.index.now,
      all_none (λ t. t.weight) a.src a.dst a.weight.now,
      refl,
      refl,
      refl,
    )

pub overflow_cast-offsets : goal.overflow_cast-offsets
overflow_cast-offsets c =
    let a = c.args in
    record { fits = omega (arith, c.loop-i.invariant.1, start-rises a.src a.dst c.loop-i.i a.dst c.loop-i.invariant.0) }

pub loop-i-preserved : goal.loop-i-preserved
loop-i-preserved c =
    let a = c.args in
    let at = c.loop-i in
    let pushed = c.push-n in
    let w = c.new.result in
    let is : taps_of w a.src ≡ taps a.src a.dst at.i =
    taps-of w a.src a.dst at.i c.new.ensures in
    let from : pushed.new.index ≡ onto (tap_sources (all_taps a.src a.dst (at.i + 1))) a.index.now =
    (rw (is, at.invariant.1) at pushed.ensures.from) ∙ all-pushed (λ t. t.from) a.src a.dst at.i a.index.now at.index at.invariant.3 in
    let with : pushed.new.weight ≡ onto (tap_weights (all_taps a.src a.dst (at.i + 1))) a.weight.now =
    (rw (is, at.invariant.1) at pushed.ensures.with) ∙ all-pushed (λ t. t.weight) a.src a.dst at.i a.weight.now at.weight at.invariant.4 in
    let room : start a.src a.dst (at.i + 1) ≤ length a.index.now =
    omega (arith, start-rises a.src a.dst (at.i + 1) a.dst (omega arith)) in (
      omega arith,
      (rw (is, at.invariant.1) at pushed.ensures.place) ∙ sym (start-more a.src a.dst at.i),
      rw (at.invariant.1, at.invariant.2) (filled_more (start a.src a.dst) at.i a.offsets.now (omega arith)),
      from,
      with,
      length-set at.offsets at.i at.n ∙ at.invariant.5,
      ap length from ∙ all-length (λ t. t.from) a.src a.dst (at.i + 1) a.index.now room,
      ap length with ∙ all-length (λ t. t.weight) a.src a.dst (at.i + 1) a.weight.now (omega arith),
    )

pub push-n-requires : goal.push-n-requires
push-n-requires c =
    let a = c.args in
    let at = c.loop-i in
    let w = c.new.result in
    let e : w ≡ window_of a.src a.dst at.i = c.new.ensures in
    let room : at.n + length (taps_of w a.src) ≤ length at.index =
    rw (taps-of w a.src a.dst at.i e)
    (omega (arith, at.invariant.1, start-more a.src a.dst at.i, start-rises a.src a.dst (at.i + 1) a.dst (omega arith))) in
    (window-small w a.src a.dst at.i e, c.requires.0, c.requires.1, room, at.invariant.7 ∙ (c.requires.5 ∙ sym at.invariant.6))

pub returns-clause-bounds : goal.returns-clause-bounds
returns-clause-bounds c =
    let a = c.args in
    let at = c.loop-i in
    let e : at.i ≡ a.dst = omega arith in
    let n : at.n ≡ start a.src a.dst a.dst = rw e at at.invariant.1 in
    rw (n, (rw e at at.invariant.2)) (filled_more (start a.src a.dst) a.dst a.offsets.now (omega arith))
