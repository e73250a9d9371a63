-- Adding a vote to a path's metric and comparing two metrics are exact. Generic over the format.
use Rattle.std.specs.Prelude.{◌≡◌, refl, true, false, ℕ, ◌^◌, ◌≤◌, ◌<◌, ℤ, Float}
use Rattle.std.proofs.Common.{ap, ◌∙◌}
use Rattle.std.specs.Float.{inf, Format}
use Rattle.std.specs.Float.Ieee.{prec, low, add, lt}
use Rattle.float_laws.specs.Values.{Is}
use Rattle.float_laws.specs.Exact.{is-add, is_lt, inf-add, inf-lt, lt-inf}
use Rattle.float_laws.specs.Score.{Score, out, at, Scored, plus, lt_s, Bounded}

pub scored-add : (f : Format) (l : ℕ) (x y : Float) (s : Score) (w : ℤ) → l ≤ low f → Scored (2 ^ l) x s → Is (2 ^ l) y w → Bounded (2 ^ prec f) (plus s w)
    → Scored (2 ^ l) (add f x y) (plus s w)
scored-add f l x y out w L h k b = ap (λ (z : Float). add f z y) h ∙ inf-add f true k
scored-add f l x y (at z) w L h k b = is-add f l L h k b

both_out : lt (inf true) (inf true) ≡ false
unfolding lt
both_out = refl

pub scored-lt : (c : ℕ) (x y : Float) (s t : Score) → 0 < c → Scored c x s → Scored c y t → lt x y ≡ lt_s s t
scored-lt c x y out out C h k = ap (λ (z : Float). lt z y) h ∙ ap (λ (z : Float). lt (inf true) z) k ∙ both_out
scored-lt c x y out (at w) C h k = ap (λ (z : Float). lt z y) h ∙ inf-lt k
scored-lt c x y (at z) out C h k = ap (λ (v : Float). lt x v) k ∙ lt-inf h
scored-lt c x y (at z) (at w) C h k = is_lt C h k
