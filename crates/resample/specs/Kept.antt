-- Laws on rows that are kept for use again.
use Rattle.std.specs.Prelude.{◌≡◌, refl, ◌⊎◌, List, ◌++◌, ℕ, zero, suc, ◌+◌, ◌-◌, ◌*◌, ◌≤◌, ◌<◌, Bool, true, false, not, T, ltb, get_or, take, set, replicate, Float}
use Rattle.std.proofs.Common.{sym, ◌∙◌, subst, inl, inr, mul_comm, arith, ltb→lt, nltb→le, length-set, take_at, drop_at, get_or-set_same, get_or-set_other}
use Rattle.std.proofs.Math.Path.{ap}
use Rattle.std.proofs.Math.ListN.{length, drop}
use Rattle.std.proofs.lemmas.List.{length-replicate}
use Rattle.std.proofs.Math.Seq.{length-take-le}
use Rattle.std.specs.Float.{nan}
use Rattle.seq.specs.Tab.{tab-same}
use Rattle.seq.specs.Lines.{part-tab}
use Rattle.seq.specs.Part.{length-on_part, on_part-before, on_part-after}
use Rattle.seq.specs.Lists.{on_part}
use Rattle.seq.specs.Rows.{row_fits}
use Rattle.resample.specs.Tables.{KeptRows}

-- the size of a part, as it is written where one is lent
pub part-size : (a n : ℕ) → a + n - a ≡ n
part-size a n = omega arith

sides : (r s : ℕ) → (r < s) ⊎ ((r ≡ s) ⊎ (s < r))
sides r s = go (ltb r s) (ltb s r) (ltb→lt r s) (nltb→le r s) (ltb→lt s r) (nltb→le s r)
  where
    go : (p q : Bool) → (T p → r < s) → (T (not p) → s ≤ r) → (T q → s < r) → (T (not q) → r ≤ s) → (r < s) ⊎ ((r ≡ s) ⊎ (s < r))
    go true q a b c d = inl (a tt)
    go false true a b c d = inr (inr (c tt))
    go false false a b c d =
        let x : s ≤ r = b tt in
        let y : r ≤ s = d tt in
        inr (inl (omega arith))

-- a part that is apart from one that was written is as it was
part_apart : (a n : ℕ) (v d : List Float) (b : ℕ) → a + n ≤ length d → length v ≡ n → b + n ≤ length d → (b + n ≤ a) ⊎ (a + n ≤ b)
    → take n (drop b (on_part a n (λ (x : List Float). v) d)) ≡ take n (drop b d)
part_apart a n v d b h l k o =
    let f : List Float → List Float = λ (x : List Float). v in
    let e : length (on_part a n f d) ≡ length d = length-on_part a n f d h l in
    part-tab (on_part a n f d) b n nan (omega arith) ∙ (tab-same _ _ n (λ i I. same i I o) ∙ sym (part-tab d b n nan k))
  where
    same : (i : ℕ) → i < n → (b + n ≤ a) ⊎ (a + n ≤ b) → get_or (on_part a n (λ (x : List Float). v) d) (b + i) nan ≡ get_or d (b + i) nan
    same i I (inl q) = on_part-before a n (λ (x : List Float). v) d (b + i) nan (omega arith) (omega arith)
    same i I (inr q) =
        let j : a + n + (b + i - (a + n)) ≡ b + i = omega arith in
        subst (λ (m : ℕ). get_or (on_part a n (λ (x : List Float). v) d) m nan ≡ get_or d m nan) j
        (on_part-after a n (λ (x : List Float). v) d (b + i - (a + n)) nan h l)

module _ (row : ℕ → List Float) (n stride places : ℕ) (held : List ℕ) (rows : List Float) (K : KeptRows row n stride places held rows) (s k : ℕ)
    (S : s < places) (v : List Float) (long : length v ≡ n) (E : v ≡ row k) where
  fits-at : (r : ℕ) → r < places → r * stride + n ≤ length rows
  fits-at r R = omega (arith, row_fits r stride places R, mul_comm stride places, K.rows_room, K.fits)

  -- row k put at place s stands there
  pub kept_here : take n (drop (s * stride) (on_part (s * stride) n (λ (x : List Float). v) rows)) ≡ row k
  unfolding on_part
  kept_here =
      let e : length (take (s * stride) rows) ≡ s * stride = length-take-le (s * stride) rows (omega (arith, fits-at s S)) in
      ap (take n) (drop_at (take (s * stride) rows) (v ++ drop n (drop (s * stride) rows)) (s * stride) e)
      ∙ (take_at v (drop n (drop (s * stride) rows)) n long ∙ E)

  pub kept_new : KeptRows row n stride places (set held s (k + 1)) (on_part (s * stride) n (λ (x : List Float). v) rows)
  kept_new =
      record {
        is = λ r j R e. go r j R e (sides r s);
        held_room = length-set held s (k + 1) ∙ K.held_room;
        rows_room = length-on_part (s * stride) n (λ (x : List Float). v) rows (fits-at s S) long ∙ K.rows_room;
        fits = K.fits;
      }
    where
      other : (r j : ℕ) → r < places → (r ≡ s → ⊥) → get_or (set held s (k + 1)) r 0 ≡ suc j → (r * stride + n ≤ s * stride) ⊎ (s * stride + n ≤ r * stride)
          → take n (drop (r * stride) (on_part (s * stride) n (λ (x : List Float). v) rows)) ≡ row j
      other r j R d e o = part_apart (s * stride) n v rows (r * stride) (fits-at s S) long (fits-at r R) o
          ∙ K.is r j R (sym (get_or-set_other held s r (k + 1) 0 d) ∙ e)

      go : (r j : ℕ) → r < places → get_or (set held s (k + 1)) r 0 ≡ suc j → (r < s) ⊎ ((r ≡ s) ⊎ (s < r))
          → take n (drop (r * stride) (on_part (s * stride) n (λ (x : List Float). v) rows)) ≡ row j
      go r j R e (inl l) = other r j R (λ q. absurd (omega arith)) e (inl (omega (arith, row_fits r stride s l, mul_comm stride s, K.fits)))
      go r j R e (inr (inl q)) =
          let here : get_or (set held s (k + 1)) s 0 ≡ k + 1 = get_or-set_same held s (k + 1) 0 (omega (arith, K.held_room)) in
          let same : j ≡ k = omega (arith, sym here ∙ subst (λ (m : ℕ). get_or (set held s (k + 1)) m 0 ≡ suc j) q e) in
          rw (q, same) kept_here
      go r j R e (inr (inr l)) = other r j R (λ q. absurd (omega arith)) e (inr (omega (arith, row_fits s stride r l, mul_comm stride r, K.fits)))

-- rows that are the same are kept as well
pub kept_same : (row other : ℕ → List Float) (n m stride places : ℕ) (held : List ℕ) (rows : List Float) → m ≡ n → ((k : ℕ) → other k ≡ row k)
    → KeptRows row n stride places held rows → KeptRows other m stride places held rows
kept_same row other n m stride places held rows e same K =
    rw e (record { is = λ s k S E. K.is s k S E ∙ sym (same k); held_room = K.held_room; rows_room = K.rows_room; fits = K.fits })

-- none is kept at first
pub kept-none : (row : ℕ → List Float) (n stride places : ℕ) (held : List ℕ) (rows : List Float) → ((s : ℕ) → get_or held s 0 ≡ 0) → length held ≡ places
    → length rows ≡ places * stride → n ≤ stride → KeptRows row n stride places held rows
kept-none row n stride places held rows z h r f = record { is = λ s k S e. absurd (omega (arith, sym (z s) ∙ e)); held_room = h; rows_room = r; fits = f }

-- and `held` is all 0 then
pub kept-empty : (row : ℕ → List Float) (n stride places : ℕ) (rows : List Float) → length rows ≡ places * stride → n ≤ stride
    → KeptRows row n stride places (replicate places 0) rows
kept-empty row n stride places rows r f = kept-none row n stride places (replicate places 0) rows (zeros places) (length-replicate places 0) r f
  where
    zeros : (m s : ℕ) → get_or {A = ℕ} (replicate m 0) s 0 ≡ 0
    zeros zero s = refl
    zeros (suc m) zero = refl
    zeros (suc m) (suc s) = zeros m s
