-- The entries made: one more, none more, and all of them from the front of a longer list.
use Rattle.std.specs.Prelude.{◌≡◌, ℕ, suc, ◌+◌, ◌-◌, ◌≤◌, min, Bool, true, false, cond, List, [], length, take, nat_le, refl}
use Rattle.std.specs.List.{swap}
use Rattle.std.proofs.Math.Path.{ap}
use Rattle.std.proofs.Common.{◌∙◌, arith, take_at}
use Rattle.seq.specs.Tab.{length-tab, tab-append}
use Rattle.seq.specs.Lists.{tab}
use Rattle.keystream.specs.declared.KeystreamEnd.{KeystreamEnd}
use Rattle.std.specs.Prelude.{Result, Ok, Err}
use Rattle.shuffle.specs.Shuffle.{drawn, draws_from, onward, made, stream_of, shuffled, longest_shuffle, shuffle_of}

module _ (stream : ℕ → ℕ) (n i p : ℕ) (l : List ℕ) where
  turn : Result (ℕ × ℕ) KeystreamEnd → List ℕ
  turn d = onward d (take i l) (λ r q. made stream n (i + 1) q (swap l i (i + r)))

  pub made_more : (m r q : ℕ) → m ≡ suc n → drawn stream (length l - i) (draws_from p) p ≡ Ok (r, q)
      → made stream m i p l ≡ made stream n (i + 1) q (swap l i (i + r))
  unfolding made turn
  made_more m r q e d = ap (λ (k : ℕ). made stream k i p l) e ∙ ap turn d

  pub made-end : (m : ℕ) → m ≡ suc n → drawn stream (length l - i) (draws_from p) p ≡ Err (record {}) → made stream m i p l ≡ take i l
  unfolding made turn
  made-end m e d = ap (λ (k : ℕ). made stream k i p l) e ∙ ap turn d

pub made_all : (stream : ℕ → ℕ) (m i p : ℕ) (l : List ℕ) → m ≡ 0 → made stream m i p l ≡ take i l
unfolding made
made_all stream m i p l e = ap (λ (k : ℕ). made stream k i p l) e

take-tab : (f : ℕ → ℕ) (n m : ℕ) → n ≤ m → take n (tab f m) ≡ tab f n
take-tab f n m h =
    let e : m ≡ n + (m - n) = omega arith in
    ap (λ (k : ℕ). take n (tab f k)) e ∙ (ap (take n) (tab-append f n (m - n)) ∙ take_at (tab f n) (tab (λ k. f (n + k)) (m - n)) n (length-tab f n))

-- a list too long gives what an empty one gives
held-made : (key : List ℕ) (len count room : ℕ) (t : Bool) → let h = cond t len 0 in
    shuffled key h (min (min count h) room) ≡ cond t (shuffled key len (min (min count len) room)) []
unfolding shuffled made
held-made key len count room true = refl
held-made key len count room false = let e : min (min count 0) room ≡ 0 = omega arith in rw e refl

pub front-made : (key : List ℕ) (len count room h : ℕ) → h ≡ cond (nat_le len longest_shuffle) len 0 → h ≤ longest_shuffle
    → made (stream_of key) (min (min count h) room) 0 0 (take h (tab (λ k. k) longest_shuffle)) ≡ shuffle_of key len count room
unfolding shuffled shuffle_of
front-made key len count room h e b =
    rw (take-tab (λ k. k) h longest_shuffle b)
    (ap (λ (n : ℕ). shuffled key n (min (min count n) room)) e ∙ held-made key len count room (nat_le len longest_shuffle))
