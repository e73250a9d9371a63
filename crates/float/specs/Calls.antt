-- What Rust's calls on floats give, for every value of a format: rounding down, up and to the nearest with a half going away
-- from zero, narrowing to another format, absolute value, the smaller and the larger of two.
-- A finite value is ±m * 2 ^ e, the fraction m * up e / down e, and `round f s a c` is the value of the format f nearest to ±a
-- / c, a tie going to the even one. Definitions only.
use Rattle.std.specs.Prelude.{◌≡◌, ℕ, ◌+◌, ◌-◌, ◌*◌, ◌/◌, ◌^◌, ◌<◌, Bool, true, false, cond, ◌&&◌, pos, Float}
use Rattle.std.specs.Float.{nan, inf, fin, Format, binary32}
use Rattle.std.specs.Float.Ieee.{up, down, round, neg, is_nan, lt, le, to_unsigned}
use Rattle.float.specs.Base.{zero+, natural}

-- the whole number that ±a / c is rounded to, in size: toward minus infinity, where s says that it is negative, and to the nearest, a half away from zero
abbrev pub downward : Bool → ℕ → ℕ → ℕ
downward s a c = cond s ((a + (c - 1)) / c) (a / c)

abbrev pub half_away : ℕ → ℕ → ℕ
half_away a c = (a * 2 + c) / (c * 2)

-- x.floor(): a NaN and an infinity stay, and a zero result keeps the operand's sign, here and below
unfoldable pub floor : Format → Float → Float
unfolding round
floor f nan = nan
floor f (inf s) = inf s
floor f (fin s m e) = round f s (downward s (m * up e) (down e)) 1

-- x.ceil()
unfoldable pub ceil : Format → Float → Float
unfolding floor neg
ceil f x = neg (floor f (neg x))

-- x.round()
unfoldable pub round_away : Format → Float → Float
unfolding round
round_away f nan = nan
round_away f (inf s) = inf s
round_away f (fin s m e) = round f s (half_away (m * up e) (down e)) 1

-- x.round().clamp(0.0, 255.0) as u8: the cast stops at 0 and 255 by itself, and takes a NaN to 0
unfoldable pub rounded_byte : Float → ℕ
unfolding to_unsigned round_away
rounded_byte x = to_unsigned 8 (round_away binary32 x)

-- x as f32, of an f64
unfoldable pub narrow : Float → Float
unfolding round
narrow nan = nan
narrow (inf s) = inf s
narrow (fin s m e) = round binary32 s (m * up e) (down e)

-- x.abs()
unfoldable pub absolute : Float → Float
absolute nan = nan
absolute (inf s) = inf false
absolute (fin s m e) = fin false m e

-- x.min(y) and x.max(y): the other one where one is a NaN. Rust leaves open which of two equal zeros is given; here it is x
unfoldable pub smaller : Float → Float → Float
unfolding is_nan lt
smaller x y = cond (is_nan x) y (cond (lt y x) y x)

unfoldable pub larger : Float → Float → Float
unfolding is_nan lt
larger x y = cond (is_nan x) y (cond (lt x y) y x)

-- (-1.0..=1.0).contains(&x)
unfoldable pub in_unit : Float → Bool
unfolding le
in_unit x = le (fin true 1 (pos 0)) x && le x (fin false 1 (pos 0))

-- x brought to 0..255, and 0 for a NaN
unfoldable pub clamped : Float → Float
unfolding lt
clamped x = let low = cond (lt zero+ x) x zero+ in cond (lt low (natural 255)) low (natural 255)

-- not negative, with the sign clear, and below 2 ^ k
abbrev pub Under : ℕ → Float → Type 0
Under k nan = ⊥
Under k (inf s) = ⊥
Under k (fin s m e) = (s ≡ false) × (m * up e < 2 ^ k * down e)
