-- From the end on: the state is where the decisions from t on begin, and the bits from t on are those of their path.
use Rattle.std.proofs.Common.{◌≡◌, refl, sym, ap, ◌∙◌, ℕ, suc, ◌+◌, ◌-◌, ◌*◌, ◌/◌, ◌%◌, ◌≤◌, ◌<◌, List, [], ◌∷◌, length, drop, arith, length-set}
use Rattle.std.proofs.Math.ListN.{drop_of_length-le}
use Rattle.std.proofs.Math.Seq.{drop-length}
use Rattle.decoder.specs.Decisions.{traced_from, traced_path}
use Rattle.decoder.specs.Loops.{orig-at, path-at, drop-set}
use Rattle.decoder.proofs.backward.Goals as goal

pub loop-t-init : goal.loop-t-init
unfolding traced_from traced_path
loop-t-init c =
    let f = c.args.decisions.now in
    let b = c.args.bits.now in
    let e : drop (length f) f ≡ [] = drop-length f in
    let d : drop (length f) b ≡ [] = (let h : length b ≤ length f = omega arith in drop_of_length-le b h) in
    (refl, omega arith, rw e refl, rw (e, d) refl)

pub loop-t-preserved : goal.loop-t-preserved
loop-t-preserved c =
    let l = c.loop-t in
    let a = c.args in
    let u = l.t - 1 in
    let e : suc u ≡ l.t = omega arith in
    let U : u < length a.decisions.now = omega arith in
    let j : l.state ≡ traced_from (drop (suc u) a.decisions.now) a.end = rw e l.invariant.2 in
    let w : drop (suc u) l.bits ≡ traced_path (drop (suc u) a.decisions.now) a.end = rw e l.invariant.3 in (
      length-set l.bits u (l.state / 32) ∙ l.invariant.0,
      omega arith,
      ap (λ (x : ℕ). (2 * l.state + x) % 64) c.bit_of.ensures ∙ sym (orig-at a.decisions.now a.end u l.state U j),
      drop-set l.bits u (l.state / 32) (omega arith) ∙ ap (λ (x : List ℕ). l.state / 32 ∷ x) w
          ∙ sym (path-at a.decisions.now a.end u l.state U j),
    )
