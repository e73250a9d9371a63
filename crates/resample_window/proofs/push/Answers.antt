-- The taps that came stand from place n on; a tap more is laid behind them.
use Rattle.std.proofs.Common.{◌≡◌, ◌+◌, ◌<◌, [], ◌∷◌, ◌++◌, length, arith, length-append}
use Rattle.resample_window.specs.Window.{numbers, taps_of}
use Rattle.resample_window.specs.Steps.{taps_to-from}
use Rattle.resample_window.specs.Taps.{laid_more}
use Rattle.resample_window.specs.Walk.{next-less, next-is, next-from, next-more}
use Rattle.resample_window.proofs.push.Goals as goal

pub overflow_cast-index : goal.overflow_cast-index
overflow_cast-index c =
    let a = c.args in
    let t = c.in-Some.tap in
    let h : t.from < a.src = next-from (taps_of a.w a.src) _ _ c.loop-tap.invariant.0 t _ c.in-Some.ensures.steps a.src (taps_to-from a.w a.src t c.requires.1 (numbers a.w.first a.w.last)) in
    record { fits = omega (arith, h) }

pub loop-tap-preserved : goal.loop-tap-preserved
loop-tap-preserved c =
    let a = c.args in
    let at = c.loop-tap in
    let i = at.invariant in
    let t = c.in-Some.tap in
    let s = c.in-Some.ensures.steps in
    let less : length at.yielded < length (taps_of a.w a.src) = next-less (taps_of a.w a.src) _ _ i.0 t _ s in
    let is = next-is (taps_of a.w a.src) _ _ i.0 t _ s in
    let long : length (at.yielded ++ t ∷ []) ≡ length at.yielded + 1 = length-append at.yielded (t ∷ []) in (
      next-more (taps_of a.w a.src) _ _ i.0 t _ s,
      omega arith,
      rw (long, i.1) (laid_more (λ t. t.from) a.index.now a.n (taps_of a.w a.src) (length at.yielded) t at.index (omega arith) less is i.2),
      rw (long, i.1) (laid_more (λ t. t.weight) a.weight.now a.n (taps_of a.w a.src) (length at.yielded) t at.weight (omega arith) less is i.3),
    )
