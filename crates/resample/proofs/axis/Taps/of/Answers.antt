-- The offsets bound the sample's part of each list, which lies in the list.
use Rattle.std.proofs.Common.{◌≡◌, ℕ, ◌<◌, ap, arith}
use Rattle.resample.specs.Tables.{Axis}
use Rattle.resample.specs.Taps.{own-order, own-room, own-sources, own-weights, own-inside}
use Rattle.resample.proofs.axis.Taps.of.Goals as goal

-- the sample is one of the axis
below : (v : Axis) (src dst x : ℕ) → record { src = src; dst = dst } ≡ v → x < v.dst → x < dst
below v src dst x e h = omega (arith, ap (λ (u : Axis). u.dst) e)

pub returns-clause-from : goal.returns-clause-from
returns-clause-from c =
    rw (← c.self.view_is) (own-sources c.self.invariant c.args.x c.from-a.result c.from-e.result (below _ _ _ _ c.self.view_is c.requires) c.from-a.ensures c.from-e.ensures)

pub returns-clause-with : goal.returns-clause-with
returns-clause-with c =
    rw (← c.self.view_is) (own-weights c.self.invariant c.args.x c.from-a.result c.from-e.result (below _ _ _ _ c.self.view_is c.requires) c.from-a.ensures c.from-e.ensures)

pub returns-clause-inside : goal.returns-clause-inside
returns-clause-inside c =
    rw (← c.self.view_is) (own-inside c.self.invariant c.args.x c.from-a.result c.from-e.result (below _ _ _ _ c.self.view_is c.requires) c.from-a.ensures c.from-e.ensures)

pub slice_bounds-result-count : goal.slice_bounds-result-count
slice_bounds-result-count c =
    own-order c.self.invariant c.args.x c.from-a.result c.from-e.result (below _ _ _ _ c.self.view_is c.requires) c.from-a.ensures c.from-e.ensures

pub slice_bounds-result-start : goal.slice_bounds-result-start
slice_bounds-result-start c =
    omega (arith, own-order c.self.invariant c.args.x c.from-a.result c.from-e.result (below _ _ _ _ c.self.view_is c.requires) c.from-a.ensures c.from-e.ensures)

pub slice_bounds-result-end : goal.slice_bounds-result-end
slice_bounds-result-end c =
    omega (arith, own-room c.self.invariant c.args.x c.from-a.result c.from-e.result (below _ _ _ _ c.self.view_is c.requires) c.from-a.ensures c.from-e.ensures)

pub slice_bounds-result-count-2 : goal.slice_bounds-result-count-2
slice_bounds-result-count-2 c =
    own-order c.self.invariant c.args.x c.from-a.result c.from-e.result (below _ _ _ _ c.self.view_is c.requires) c.from-a.ensures c.from-e.ensures

pub slice_bounds-result-start-2 : goal.slice_bounds-result-start-2
slice_bounds-result-start-2 c =
    omega (arith, own-order c.self.invariant c.args.x c.from-a.result c.from-e.result (below _ _ _ _ c.self.view_is c.requires) c.from-a.ensures c.from-e.ensures)

pub slice_bounds-result-end-2 : goal.slice_bounds-result-end-2
slice_bounds-result-end-2 c =
    omega (arith, own-room c.self.invariant c.args.x c.from-a.result c.from-e.result (below _ _ _ _ c.self.view_is c.requires) c.from-a.ensures c.from-e.ensures)
