-- Bounds through the transforms, the marking and the vote. `Each x a`: the block's 64 values are finite and at most a in size.
-- A pass gives each value as a sum of eight products with a constant that is at most 1/2, so at most 4 a; a transform is two
-- passes.
-- Marking moves a coefficient by less than its step and a little. The vote of a block of such values lies from -1 to 1. A bound
-- is n * 2 ^ k with n small enough that the format holds the sums, so 2 ^ 20, which bounds a plane of 8-bit samples, is one.
use Rattle.std.specs.Prelude.{◌≡◌, refl, Bool, true, false, not, List, [], ◌∷◌, ℕ, zero, suc, ◌+◌, ◌*◌, ◌^◌, ◌≤◌, ◌<◌, ℤ, T, eqb, leb, length, get_or, set, Float}
use Rattle.std.proofs.Common.{sym, ◌∙◌, ap, subst, inl, inr, zero-lt-suc, le_refl, mul_assoc, add-mul, eq-or-lt_of_le, arith, eqb→eq, leb→le, lit≤, pow-add, get_or-set_other}
use Rattle.std.specs.Float.{nan, inf, fin, binary32}
use Rattle.std.specs.Float.Ieee.{up, down, add, mul, sub, div, of_bits}
use Rattle.std.specs.Float.Ieee.Fits.{sub-fits}
use Rattle.std.specs.Float.Ieee.Scale.{finite}
use Rattle.seq.specs.Table.{every, at}
use Rattle.seq.specs.Lists.{sum_to}
use Rattle.float.specs.Base.{zero-, two_to}
use Rattle.float_laws.specs.Values.{Within, Holds}
use Rattle.float_laws.specs.Bounds.{holds-whole, within_more, within-finite, add-within, sub_within, mul-within, div-within, round_away-within, sum-to-within}
use Rattle.float_laws.specs.Shifted.{Room, holds-shifted, holds-power, room-shifted}
use Rattle.float.specs.Calls.{round_away}
use Rattle.float_laws.proofs.Vote.{term-within, mean-within}
use Rattle.dct.specs.Grid.{cell}
use Rattle.dct.specs.Columns.{cell-grid}
use Rattle.dct.specs.Matrix.{matrix, dct_entry, dct_turned}
use Rattle.dct.specs.Dct.{sum_of_eight, through_rows, through_columns, forward_of, inverse_of}
use Rattle.block.specs.Plane.{line_at, load_of}
use Rattle.block.specs.Stored.{line-fits}
use Rattle.block.specs.Mark.{coefficients, lattice_step, half_of, marked_of, marked_block}
use Rattle.block.specs.Soft.{term_of, mean_of_four, vote_of}
use Rattle.picture.specs.Sizes.{plane_size}

abbrev pub EachWithin : List Float → ℕ → Type 0
EachWithin x a = (r c : ℕ) → r < 8 → c < 8 → Within (cell x r c) a 1

-- ---- the matrix

at_most_half : Float → Bool
at_most_half nan = false
at_most_half (inf s) = false
at_most_half (fin s m e) = leb (m * up e * 2) (1 * down e)

half-within : (x : Float) → T (at_most_half x) → Within x 1 2
unfolding at_most_half
half-within nan t = absurd t
half-within (inf s) t = absurd t
half-within (fin s m e) t = leb→le (m * up e * 2) (1 * down e) t

abbrev half_row : ℕ → List Float → Bool
half_row k row = every (λ i x. at_most_half x) 0 row

halves : T (every half_row 0 matrix)
unfolding of_bits at_most_half
halves = tt

eights : T (every (λ k row. eqb (length row) 8) 0 matrix)
unfolding of_bits
eights = tt

entry-within : (k i : ℕ) → k < 8 → i < 8 → Within (dct_entry k i) 1 2
entry-within k i K I =
    let row = get_or matrix k [] in
    let long : length row ≡ 8 = eqb→eq (length row) 8 (at (λ k row. eqb (length row) 8) matrix [] eights k K) in
    half-within (dct_entry k i) (at (λ i x. at_most_half x) row nan (at half_row matrix [] halves k K) i (omega arith))

-- ---- the passes

-- a sum of eight products
sum-within : (w v : ℕ → Float) (a : ℕ) → Room binary32 8 a 2 → ((j : ℕ) → j < 8 → Within (w j) 1 2) → ((j : ℕ) → j < 8 → Within (v j) a 1)
    → Within (sum_of_eight (λ j. mul binary32 (w j) (v j))) (4 * a) 1
sum-within w v a A W X =
    within_more (sum_of_eight (λ j. mul binary32 (w j) (v j))) (0 + 8 * a) 2 (4 * a) 1 (zero-lt-suc 1)
    (sum-to-within binary32 zero- (λ j. mul binary32 (w j) (v j)) 8 a 0 2 (zero-lt-suc 1) (λ i I. let e : i * a ≡ 0 + i * a = omega arith in
    subst (λ (z : ℕ). Holds binary32 z 2) e (A i I)) (le_refl 0) product)
    (omega arith)
  where
    product : (j : ℕ) → j < 8 → Within (mul binary32 (w j) (v j)) a 2
    product j J =
        within_more (mul binary32 (w j) (v j)) (1 * a) (2 * 1) a 2 (zero-lt-suc 1)
        (mul-within binary32 (w j) (v j) 1 2 a 1 (zero-lt-suc 1) (zero-lt-suc 0) (A 1 (lit≤ tt)) (W j J) (X j J))
        (omega arith)

abbrev Weights : (ℕ → ℕ → Float) → Type 0
Weights w = (k j : ℕ) → k < 8 → j < 8 → Within (w k j) 1 2

rows-within : (w : ℕ → ℕ → Float) (x : List Float) (a : ℕ) → Weights w → Room binary32 8 a 2 → EachWithin x a → EachWithin (through_rows w x) (4 * a)
unfolding through_rows
rows-within w x a W A X r k R K =
    subst (λ (z : Float). Within z (4 * a) 1) (sym (cell-grid _ r k R K)) (sum-within (w k) (cell x r) a A (λ j J. W k j K J) (λ j J. X r j R J))

columns-within : (w : ℕ → ℕ → Float) (x : List Float) (a : ℕ) → Weights w → Room binary32 8 a 2 → EachWithin x a → EachWithin (through_columns w x) (4 * a)
unfolding through_columns
columns-within w x a W A X k c K C =
    subst (λ (z : Float). Within z (4 * a) 1) (sym (cell-grid _ k c K C)) (sum-within (w k) (λ j. cell x j c) a A (λ j J. W k j K J) (λ j J. X j c J C))

pub each_more : (x : List Float) (a b : ℕ) → a ≤ b → EachWithin x a → EachWithin x b
each_more x a b h X r c R C = within_more (cell x r c) a 1 b 1 (zero-lt-suc 0) (X r c R C) (omega arith)

turned-within : Weights dct_turned
turned-within i k I K = entry-within k i K I

module _ (x : List Float) (n k : ℕ) (N : 32 * n ≤ 2 ^ 24) (K : k ≤ 100) (X : EachWithin x (n * 2 ^ k)) where
  first : Room binary32 8 (n * 2 ^ k) 2
  first = room-shifted binary32 8 n k 1 (lit≤ tt) (omega arith) (omega arith)

  second : Room binary32 8 (4 * (n * 2 ^ k)) 2
  second = subst (λ (a : ℕ). Room binary32 8 a 2) (mul_assoc 4 n (2 ^ k)) (room-shifted binary32 8 (4 * n) k 1 (lit≤ tt) (omega arith) (omega arith))

  pub forward-within : EachWithin (forward_of x) (16 * (n * 2 ^ k))
  forward-within =
      each_more (forward_of x) (4 * (4 * (n * 2 ^ k))) (16 * (n * 2 ^ k)) (omega arith)
      (columns-within dct_entry (through_rows dct_entry x) (4 * (n * 2 ^ k)) entry-within second (rows-within dct_entry x (n * 2 ^ k) entry-within first X))

  pub inverse-within : EachWithin (inverse_of x) (16 * (n * 2 ^ k))
  inverse-within =
      each_more (inverse_of x) (4 * (4 * (n * 2 ^ k))) (16 * (n * 2 ^ k)) (omega arith)
      (rows-within dct_turned (through_columns dct_turned x) (4 * (n * 2 ^ k)) turned-within second (columns-within dct_turned x (n * 2 ^ k) turned-within first X))

-- ---- the vote

abbrev pub Dither : List Float → Type 0
Dither u = (k : ℕ) → k < 4 → Within (get_or u k nan) 1 1

-- v / 16
scaled-within : (v : Float) (n : ℕ) → n ≤ 2 ^ 24 → Within v (16 * n) 1 → Within (div binary32 v lattice_step) n 1
scaled-within v n N h =
    let e : n * 16 ≡ 16 * n * 1 = omega arith in
    within_more (div binary32 v lattice_step) (16 * n * 1) (1 * 16) n 1 (zero-lt-suc 15)
    (div-within binary32 v lattice_step false (16 * n) 1 16 1 (zero-lt-suc 0) (zero-lt-suc 15) (zero-lt-suc 0)
    (subst (λ (z : ℕ). Holds binary32 z 16) e (holds-shifted binary32 n 4 4 (lit≤ tt) (lit≤ tt) N)) h (refl, refl))
    (omega arith)

-- one more, or one less, that is at most 1 in size
more : (x y : Float) (n : ℕ) → n + 1 ≤ 2 ^ 24 → Within x n 1 → Within y 1 1 → Within (add binary32 x y) (n + 1) 1
more x y n N h k = add-within binary32 x y n 1 1 (zero-lt-suc 0) (holds-whole binary32 (n + 1) N) h k

less : (x y : Float) (n : ℕ) → n + 1 ≤ 2 ^ 24 → Within x n 1 → Within y 1 1 → Within (sub binary32 x y) (n + 1) 1
less x y n N h k = sub_within binary32 x y n 1 1 (zero-lt-suc 0) (holds-whole binary32 (n + 1) N) h k

pub term-of-within : (v u : Float) (n : ℕ) → n + 1 ≤ 2 ^ 24 → Within v (16 * n) 1 → Within u 1 1 → Within (term_of v u) 1 1
unfolding term_of
term-of-within v u n N h k =
    let q = div binary32 v lattice_step in
    let w : Within (sub binary32 q u) (n + 1) 1 = less q u n N (scaled-within v n (omega arith) h) k in
    term-within binary32 (sub binary32 q u) (sub-fits binary32 q u) (within-finite (sub binary32 q u) (n + 1) 1 w)

marked-cell : (x : List Float) (a k : ℕ) → EachWithin x a → k < 4 → Within (get_or x (get_or coefficients k 0) nan) a 1
marked-cell x a zero X h = X 1 1 (lit≤ tt) (lit≤ tt)
marked-cell x a (suc zero) X h = X 1 2 (lit≤ tt) (lit≤ tt)
marked-cell x a (suc (suc zero)) X h = X 2 1 (lit≤ tt) (lit≤ tt)
marked-cell x a (suc (suc (suc zero))) X h = X 2 2 (lit≤ tt) (lit≤ tt)
marked-cell x a (suc (suc (suc (suc k)))) X h = absurd (omega arith)

pub vote-within : (u x : List Float) (n : ℕ) → n + 1 ≤ 2 ^ 24 → Dither u → EachWithin x (16 * n) → Within (vote_of u x) 1 1
unfolding vote_of mean_of_four
vote-within u x n N U X =
    mean-within binary32 _ (λ k K. term-of-within (get_or x (get_or coefficients k 0) nan) (get_or u k nan) n N (marked-cell x (16 * n) k X K) (U k K))

-- the vote of a block of samples
pub block-vote-within : (u x : List Float) (n k : ℕ) → 32 * n ≤ 2 ^ 24 → k ≤ 100 → n * 2 ^ k + 1 ≤ 2 ^ 24 → Dither u → EachWithin x (n * 2 ^ k)
    → Within (vote_of u (forward_of x)) 1 1
block-vote-within u x n k N K M U X = vote-within u (forward_of x) (n * 2 ^ k) M U (forward-within x n k N K X)

-- ---- where a coefficient is not finite, its term and the vote are no number

pub term-of-none : (v : Float) (s : Bool) (m : ℕ) (e : ℤ) → T (not (finite v)) → term_of v (fin s m e) ≡ nan
unfolding term_of
term-of-none nan s m e h = refl
term-of-none (inf true) s m e h = refl
term-of-none (inf false) s m e h = refl
term-of-none (fin t n d) s m e h = absurd h

add_none : (x : Float) → add binary32 x nan ≡ nan
unfolding add
add_none nan = refl
add_none (inf s) = refl
add_none (fin s m e) = refl

sum-none : (t : ℕ → Float) (n k : ℕ) → k < n → t k ≡ nan → sum_to (add binary32) zero- n t ≡ nan
unfolding sum_to add
sum-none t zero k h e = absurd (omega arith)
sum-none t (suc n) k h e =
    elim (eq-or-lt_of_le h) [
      | inl i ↦ (let j : k ≡ n = omega arith in
          ap (add binary32 (sum_to (add binary32) zero- n t)) (ap t (sym j) ∙ e) ∙ add_none (sum_to (add binary32) zero- n t))
      | inr l ↦ ap (λ (z : Float). add binary32 z (t n)) (sum-none t n k (omega arith) e)
    ]

pub vote-none : (u x : List Float) (k : ℕ) → k < 4 → term_of (get_or x (get_or coefficients k 0) nan) (get_or u k nan) ≡ nan → vote_of u x ≡ nan
unfolding vote_of mean_of_four
vote-none u x k K e = ap (λ (z : Float). div binary32 z (two_to 2)) (sum-none (λ k. term_of (get_or x (get_or coefficients k 0) nan) (get_or u k nan)) 4 k K e)

-- ---- marking

-- a value that is at most 16 n in size is at most 16 (n + 4) when it is marked
pub marked-within : (v u h : Float) (n : ℕ) → n + 4 ≤ 2 ^ 24 → Within v (16 * n) 1 → Within u 1 1 → Within h 1 1 → Within (marked_of v u h) (16 * (n + 4)) 1
unfolding marked_of
marked-within v u h n N A U H =
    let q = div binary32 v lattice_step in
    let d = sub binary32 q u in
    let m = round_away binary32 (sub binary32 d h) in
    let s = add binary32 m u in
    let t = add binary32 s h in
    let Q : Within q n 1 = scaled-within v n (omega arith) A in
    let M : Within m (n + 1 + 1) 1 =
    round_away-within binary32 (sub binary32 d h) (n + 1 + 1) (holds-whole binary32 (n + 1 + 1) (omega arith))
    (less d h (n + 1) (omega arith) (less q u n (omega arith) Q U) H) in
    let E : Within t (n + 1 + 1 + 1 + 1) 1 = more s h (n + 1 + 1 + 1) (omega arith) (more m u (n + 1 + 1) (omega arith) M U) H in
    within_more (mul binary32 t lattice_step) ((n + 1 + 1 + 1 + 1) * 16) (1 * 1) (16 * (n + 4)) 1 (zero-lt-suc 0)
    (mul-within binary32 t lattice_step (n + 1 + 1 + 1 + 1) 1 16 1 (zero-lt-suc 0) (zero-lt-suc 0)
    (holds-power binary32 (n + 1 + 1 + 1 + 1) 4 (lit≤ tt) (omega arith)) E (lit≤ tt))
    (omega arith)

-- a store of a value within the bound keeps it, and any other place holds what it held
set-within : (x : List Float) (p q : ℕ) (v : Float) (a : ℕ) → Within v a 1 → Within (get_or x q nan) a 1 → Within (get_or (set x p v) q nan) a 1
set-within [] p q v a h k = k
set-within (y ∷ ys) zero zero v a h k = h
set-within (y ∷ ys) zero (suc q) v a h k = k
set-within (y ∷ ys) (suc p) zero v a h k = k
set-within (y ∷ ys) (suc p) (suc q) v a h k = set-within ys p q v a h k

each_set : (x : List Float) (p : ℕ) (v : Float) (a : ℕ) → Within v a 1 → EachWithin x a → EachWithin (set x p v) a
each_set x p v a h X r c R C = set-within x p (r * 8 + c) v a h (X r c R C)

beside : (x : List Float) (p q : ℕ) (v : Float) (a : ℕ) → (q ≡ p → ⊥) → Within (get_or x q nan) a 1 → Within (get_or (set x p v) q nan) a 1
beside x p q v a n h = subst (λ (z : Float). Within z a 1) (sym (get_or-set_other x p q v nan n)) h

half-of-within : (bit : ℕ) → bit ≤ 1 → Within (half_of bit) 1 1
unfolding half_of
half-of-within zero h = lit≤ tt
half-of-within (suc zero) h = lit≤ tt
half-of-within (suc (suc b)) h = absurd (omega arith)

pub mark-within : (u x : List Float) (bit n : ℕ) → bit ≤ 1 → n + 4 ≤ 2 ^ 24 → Dither u → EachWithin x (16 * n) → EachWithin (marked_block u bit x) (16 * (n + 4))
unfolding marked_block
mark-within u x bit n B N U X =
    each_set x₃ 18 _ b (new (get_or x₃ 18 nan) 3 (lit≤ tt)
    (beside x₂ 17 18 _ a (λ e. omega arith) (beside x₁ 10 18 _ a (λ e. omega arith) (beside x 9 18 _ a (λ e. omega arith) (X 2 2 (lit≤ tt) (lit≤ tt))))))
    (each_set x₂ 17 _ b (new (get_or x₂ 17 nan) 2 (lit≤ tt)
    (beside x₁ 10 17 _ a (λ e. omega arith) (beside x 9 17 _ a (λ e. omega arith) (X 2 1 (lit≤ tt) (lit≤ tt)))))
    (each_set x₁ 10 _ b (new (get_or x₁ 10 nan) 1 (lit≤ tt) (beside x 9 10 _ a (λ e. omega arith) (X 1 2 (lit≤ tt) (lit≤ tt))))
    (each_set x 9 _ b (new (get_or x 9 nan) 0 (lit≤ tt) (X 1 1 (lit≤ tt) (lit≤ tt)))
    (each_more x a b (omega arith) X))))
  where
    a : ℕ
    a = 16 * n

    b : ℕ
    b = 16 * (n + 4)

    put : List Float → ℕ → ℕ → List Float
    put y k p = set y p (marked_of (get_or y p nan) (get_or u k nan) (half_of bit))

    x₁ : List Float
    x₁ = put x 0 9

    x₂ : List Float
    x₂ = put x₁ 1 10

    x₃ : List Float
    x₃ = put x₂ 2 17

    new : (v : Float) (k : ℕ) → k < 4 → Within v (16 * n) 1 → Within (marked_of v (get_or u k nan) (half_of bit)) (16 * (n + 4)) 1
    new v k K h = marked-within v (get_or u k nan) (half_of bit) n N h (U k K) (half-of-within bit B)

-- ---- a block that is transformed, marked and transformed back

-- n * 2 ^ k with 4 more, as m * 2 ^ k is: m = 4 at k = 0, and m = 1 from k = 2 on
module _ (u x : List Float) (bit n m k : ℕ) (B : bit ≤ 1) (N : 32 * (n + m) ≤ 2 ^ 24) (K : k ≤ 96) (M : 4 ≤ m * 2 ^ k) (L : n * 2 ^ k + 4 ≤ 2 ^ 24)
    (U : Dither u) (X : EachWithin x (n * 2 ^ k)) where
  pub embed-coefficients : EachWithin (marked_block u bit (forward_of x)) (16 * ((n + m) * 2 ^ k))
  embed-coefficients =
      each_more (marked_block u bit (forward_of x)) (16 * (n * 2 ^ k + 4)) (16 * ((n + m) * 2 ^ k)) (omega (arith, add-mul n m (2 ^ k)))
      (mark-within u (forward_of x) bit (n * 2 ^ k) B L U (forward-within x n k (omega arith) (omega arith) X))

  pub embed-within : EachWithin (inverse_of (marked_block u bit (forward_of x))) (256 * ((n + m) * 2 ^ k))
  embed-within =
      let y = marked_block u bit (forward_of x) in
      let e : (n + m) * 2 ^ (k + 4) ≡ (n + m) * 2 ^ k * 16 = ap (λ (z : ℕ). (n + m) * z) (pow-add 2 k 4) ∙ sym (mul_assoc (n + m) (2 ^ k) 16) in
      each_more (inverse_of y) (16 * ((n + m) * 2 ^ (k + 4))) (256 * ((n + m) * 2 ^ k)) (omega arith)
      (inverse-within y (n + m) (k + 4) N (omega arith) (each_more y (16 * ((n + m) * 2 ^ k)) ((n + m) * 2 ^ (k + 4)) (omega arith) embed-coefficients))

-- ---- a plane from 8-bit samples, whose values are at most 2 ^ 20 in size

-- its blocks
pub load-within : (d : List Float) (a b : ℕ) → b < 1024 → ((p : ℕ) → p < plane_size → Within (get_or d p nan) a 1) → EachWithin (load_of d b) a
unfolding load_of
load-within d a b B D r c R C =
    subst (λ (z : Float). Within z a 1) (sym (cell-grid (λ r c. get_or d (line_at b r + c) nan) r c R C)) (D (line_at b r + c) (omega (arith, line-fits b r B R)))

pub plane-vote-within : (x u : List Float) → EachWithin x (2 ^ 20) → Dither u → Within (vote_of u (forward_of x)) 1 1
plane-vote-within x u X U = block-vote-within u x 1 20 (lit≤ tt) (lit≤ tt) (lit≤ tt) U X

module _ (u x : List Float) (bit : ℕ) (B : bit ≤ 1) (U : Dither u) (X : EachWithin x (2 ^ 20)) where
  embedded : EachWithin (inverse_of (marked_block u bit (forward_of x))) (2 ^ 28 + 2 ^ 10)
  embedded = embed-within u x bit (2 ^ 18) 1 2 B (lit≤ tt) (lit≤ tt) (lit≤ tt) (lit≤ tt) U X

  -- the change, marked minus plane
  pub marked-plane-within : (r c : ℕ) → r < 8 → c < 8 → Within (sub binary32 (cell (inverse_of (marked_block u bit (forward_of x))) r c) (cell x r c)) (2 ^ 29) 1
  marked-plane-within r c R C =
      let y = inverse_of (marked_block u bit (forward_of x)) in
      within_more (sub binary32 (cell y r c) (cell x r c)) (2 ^ 28 + 2 ^ 10 + 2 ^ 20) 1 (2 ^ 29) 1 (zero-lt-suc 0)
      (sub_within binary32 (cell y r c) (cell x r c) (2 ^ 28 + 2 ^ 10) (2 ^ 20) 1 (zero-lt-suc 0)
      (holds-power binary32 (2 ^ 18 + 1 + 2 ^ 10) 10 (lit≤ tt) (lit≤ tt)) (embedded r c R C) (X r c R C))
      (lit≤ tt)
