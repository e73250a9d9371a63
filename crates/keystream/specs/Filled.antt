-- Lists that a loop fills from the front.
use Rattle.std.specs.Prelude.{◌≡◌, List, ◌++◌, ℕ, suc, ◌+◌, ◌<◌, length, set, get_or}
use Rattle.std.proofs.Common.{sym, append_assoc, drop-cons}
use Rattle.std.proofs.Math.ListN.{take, drop}
use Rattle.std.proofs.Math.Seq.{drop-drop, take_at, drop_at}
use Rattle.std.proofs.lemmas.List.{get_or_at}
use Rattle.seq.specs.Tab.{length-tab, tab-same, filled_more, tab-append}
use Rattle.seq.specs.Lists.{tab, filled}

module _ {A : Type 0} where
  -- the places that are not filled yet hold what they held
  filled_next : (f : ℕ → A) (n : ℕ) (d : List A) (z : A) → n < length d → get_or (filled f n d) n z ≡ get_or d n z
  unfolding filled
  filled_next f n d z h = rw (drop-cons d n z h) (get_or_at (tab f n) (get_or d n z) (drop (suc n) d) z n (length-tab f n))

  pub filled-rest : (f : ℕ → A) (n : ℕ) (d : List A) → drop n (filled f n d) ≡ drop n d
  unfolding filled
  filled-rest f n d = drop_at (tab f n) (drop n d) n (length-tab f n)

  -- n places more at once
  pub filled-part : (f g : ℕ → A) (a n : ℕ) (d : List A) → ((k : ℕ) → k < n → g k ≡ f (a + k))
      → take a (filled f a d) ++ (tab g n ++ drop n (drop a d)) ≡ filled f (a + n) d
  unfolding filled
  filled-part f g a n d h =
      let front : take a (tab f a ++ drop a d) ≡ tab f a = take_at (tab f a) (drop a d) a (length-tab f a) in
      rw (front, drop-drop n a d, tab-same g (λ k. f (a + k)) n h, tab-append f a n) (sym (append_assoc (tab f a) (tab (λ k. f (a + k)) n) (drop (a + n) d)))

  -- a turn of a loop that puts each place through g
  pub filled-step : (g : ℕ → A → A) (n : ℕ) (d s : List A) (z : A) → n < length d → s ≡ filled (λ k. g k (get_or d k z)) n d
      → set s n (g n (get_or s n z)) ≡ filled (λ k. g k (get_or d k z)) (n + 1) d
  filled-step g n d s z h e =
      let f : ℕ → A = λ k. g k (get_or d k z) in
      rw (e, filled_next f n d z h) (filled_more f n d h)
