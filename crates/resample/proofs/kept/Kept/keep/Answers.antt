-- The row stands where `held` says, or it is made and put there; the other places are as they were.
use Rattle.std.proofs.Common.{◌≡◌, ◌*◌, ◌%◌, ◌∙◌, ap, length, mod-lt}
use Rattle.resample.specs.Kept.{part-size, kept_here, kept_new, kept_same}
use Rattle.seq.specs.Lists.{on_part}
use Rattle.resample.proofs.kept.Kept.keep.Goals as goal

pub invariant_of-self : goal.invariant_of-self
unfolding on_part
invariant_of-self g c =
    let m = g.M.MakesRows in
    let l = g.met.M.MakesRows.laws in
    let s = c.args.self.now in
    let new = c.make.new.self in
    let v = c.make.new.out in
    let k = c.args.k in
    let slot = k % g.row.SLOTS in
    let long : length v ≡ m.wide s.maker = ap length c.make.ensures.row ∙ l.long s.maker k in
    let kept = kept_new (m.made s.maker) (m.wide s.maker) g.row.STRIDE g.row.SLOTS s.held s.rows s.kept slot k (mod-lt k s.some) v long c.make.ensures.row in
    rw (part-size (slot * g.row.STRIDE) c.width.result, c.width.ensures) (record {
      some = s.some;
      kept = kept_same (m.made s.maker) (m.made new) (m.wide s.maker) (m.wide new) g.row.STRIDE g.row.SLOTS _ _
          (l.wide_same s.maker new c.make.ensures.same) (λ j. l.made_same s.maker new j c.make.ensures.same) kept;
    })

pub returns-clause-row : goal.returns-clause-row
unfolding on_part
returns-clause-row g c =
    let m = g.M.MakesRows in
    let l = g.met.M.MakesRows.laws in
    let s = c.args.self.now in
    let v = c.make.new.out in
    let k = c.args.k in
    let slot = k % g.row.SLOTS in
    let long : length v ≡ m.wide s.maker = ap length c.make.ensures.row ∙ l.long s.maker k in
    rw (part-size (slot * g.row.STRIDE) c.width.result, c.width.ensures)
    (kept_here (m.made s.maker) (m.wide s.maker) g.row.STRIDE g.row.SLOTS s.held s.rows s.kept slot k (mod-lt k s.some) v long c.make.ensures.row)
