-- Rows of one width in one list.
use Rattle.std.proofs.Common.{ap, add-one, add-one-le, mul-le-mul_right, mul_comm, suc-mul, arith}
use Rattle.std.specs.Prelude.{ℕ, ◌+◌, ◌*◌, ◌≤◌, ◌<◌}

-- row y of h rows of width w ends within w * h
pub row_fits : (y w h : ℕ) → y < h → y * w + w ≤ w * h
row_fits y w h l = omega (arith, mul-le-mul_right w (add-one-le l), mul_comm h w, suc-mul y w, ap (λ (k : ℕ). k * w) (add-one y))
