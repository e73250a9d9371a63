-- After some taps the sum is theirs.
use Rattle.std.proofs.Common.{◌≡◌, ◌<◌, length, get_or, List, refl, ap, arith}
use Rattle.std.specs.Float.{nan}
use Rattle.std.specs.Float.Ieee.{neg, of_bits}
use Rattle.std.specs.Slice.Iter.{iter_rest}
use Rattle.std.specs.Iterator.Adapters.{zip_first, zip_second}
use Rattle.std.proofs.lemmas.Slice.Zip.{zip_turn, zip_end}
use Rattle.std.proofs.Math.ListN.{length-map}
use Rattle.std.proofs.lemmas.List.{length_push}
use Rattle.resample_window.specs.declared.Tap.{Tap}
use Rattle.resample_window.specs.Window.{taps, tap_sources, tap_weights}
use Rattle.resample.specs.Resampled.{tap_total}
use Rattle.resample.specs.Taps.{tap-more, all_there}
use Rattle.resample.proofs.axis.Taps.value.Goals as goal

pub loop-from-init : goal.loop-from-init
unfolding neg of_bits tap_total
loop-from-init c = refl

-- the sources and weights as the loop goes over them
length-sources : (ts : List Tap) → length (tap_sources ts) ≡ length ts
length-sources ts = length-map ts (λ t. t.from)

length-weights : (ts : List Tap) → length (tap_weights ts) ≡ length ts
length-weights ts = length-map ts (λ t. t.weight)

pub bounds-source-from : goal.bounds-source-from
bounds-source-from c =
    let a = c.args.self.now in
    let ts = taps a.src a.dst c.args.x in
    let first : iter_rest (zip_first c.into_iter-from-iterator.result) ≡ tap_sources ts = cc in
    let second : iter_rest (zip_second c.into_iter-from-iterator.result) ≡ tap_weights ts = cc in
    let t = zip_turn (tap_sources ts) (tap_weights ts) c.loop-from.yielded c.into_iter-from-iterator.result c.loop-from.from-iterator c.next.new.self c.next.result first second c.loop-from.yielded_by _ c.in-Some.is c.next.ensures.steps in
    let less : length c.loop-from.yielded < length c.of.result.0.now = omega (arith, t.0, ap length c.of.ensures.from) in
    omega (arith, c.of.ensures.inside (length c.loop-from.yielded) less, ap (λ xs. get_or xs (length c.loop-from.yielded) 0) c.of.ensures.from, t.2 0, c.from.ensures)

pub loop-from-preserved : goal.loop-from-preserved
loop-from-preserved c =
    let a = c.args.self.now in
    let ts = taps a.src a.dst c.args.x in
    let first : iter_rest (zip_first c.into_iter-from-iterator.result) ≡ tap_sources ts = cc in
    let second : iter_rest (zip_second c.into_iter-from-iterator.result) ≡ tap_weights ts = cc in
    let t = zip_turn (tap_sources ts) (tap_weights ts) c.loop-from.yielded c.into_iter-from-iterator.result c.loop-from.from-iterator c.next.new.self c.next.result first second c.loop-from.yielded_by _ c.in-Some.is c.next.ensures.steps in
    let less : length c.loop-from.yielded < length ts = omega (arith, t.0, length-sources ts) in
    rw (length_push, c.from.ensures)
    (tap-more a.src a.dst c.args.x (λ k. get_or c.args.source.now k nan) (length c.loop-from.yielded) less _ _ (t.2 0) (t.3 nan) c.loop-from.sum c.loop-from.invariant)

pub returns : goal.returns
returns c =
    let a = c.args.self.now in
    let ts = taps a.src a.dst c.args.x in
    let first : iter_rest (zip_first c.into_iter-from-iterator.result) ≡ tap_sources ts = cc in
    let second : iter_rest (zip_second c.into_iter-from-iterator.result) ≡ tap_weights ts = cc in
    let n = zip_end (tap_sources ts) (tap_weights ts) c.loop-from.yielded c.into_iter-from-iterator.result c.loop-from.from-iterator c.next.new.self c.next.result first second c.loop-from.yielded_by c.in-None.is c.next.ensures.steps in
    all_there a.src a.dst c.args.x (λ k. get_or c.args.source.now k nan) (length c.loop-from.yielded) c.loop-from.sum
    (omega (arith, n, length-sources ts, length-weights ts)) c.loop-from.invariant
