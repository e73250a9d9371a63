-- What the encoder's loop keeps: one bit more of a word.
use Rattle.std.specs.Prelude.{◌≡◌, refl, List, [], ◌∷◌, ◌++◌, ℕ, suc, ◌+◌, ◌*◌, ◌/◌, ◌<◌, length, get_or, take, set}
use Rattle.std.proofs.Common.{sym, ap, ap₂, ◌∙◌, append_assoc, add-one, arith, length-set, take-suc, take-suc-set}
use Rattle.encoder.specs.Ccsds131.{out1, out2, register, next_state, code, run}

take-set-two : {A : Type 0} (xs : List A) (t : ℕ) (a b : A) → 2 * t + 1 < length xs
    → take (2 * (t + 1)) (set (set xs (2 * t) a) (2 * t + 1) b) ≡ take (2 * t) xs ++ (a ∷ b ∷ [])
take-set-two {A} xs t a b h =
    let e : 2 * (t + 1) ≡ suc (2 * t + 1) = omega arith in
    let f : 2 * t + 1 ≡ suc (2 * t) = omega arith in
    ap (λ (n : ℕ). take n (set (set xs (2 * t) a) (2 * t + 1) b)) e
    ∙ take-suc-set (set xs (2 * t) a) (2 * t + 1) b (omega (arith, length-set xs (2 * t) a))
    ∙ ap (λ (l : List A). l ++ (b ∷ [])) (ap (λ (n : ℕ). take n (set xs (2 * t) a)) f ∙ take-suc-set xs (2 * t) a (omega arith))
    ∙ append_assoc (take (2 * t) xs) (a ∷ []) (b ∷ [])

run_more : (s : ℕ) (bs : List ℕ) (b : ℕ) → run s (bs ++ (b ∷ [])) ≡ next_state b (run s bs)
unfolding run
run_more s [] b = refl
run_more s (x ∷ bs) b = run_more (next_state x s) bs b

code-more : (s : ℕ) (bs : List ℕ) (b : ℕ) → code s (bs ++ (b ∷ [])) ≡ code s bs ++ (out1 (register b (run s bs)) ∷ out2 (register b (run s bs)) ∷ [])
unfolding code run
code-more s [] b = refl
code-more s (x ∷ bs) b = ap (λ (l : List ℕ). out1 (register x s) ∷ out2 (register x s) ∷ l) (code-more (next_state x s) bs b)

pub word-step : (bs coded : List ℕ) (t s r a b : ℕ) → t < length bs → 2 * t + 1 < length coded → s ≡ run 0 (take t bs) → r ≡ register (get_or bs t 0) s
    → a ≡ out1 r → b ≡ out2 r
    → take (2 * t) coded ≡ code 0 (take t bs)
    → (r / 2 ≡ run 0 (take (t + 1) bs)) × (take (2 * (t + 1)) (set (set coded (2 * t) a) (2 * t + 1) b) ≡ code 0 (take (t + 1) bs))
word-step bs coded t s r a b h k e f p q w =
    let x = get_or bs t 0 in
    let one_more : take (t + 1) bs ≡ take t bs ++ (x ∷ []) = ap (λ (n : ℕ). take n bs) (add-one t) ∙ take-suc bs t 0 h in
    let f' : r ≡ register x (run 0 (take t bs)) = f ∙ ap (register x) e in (
      ap (λ (n : ℕ). n / 2) f' ∙ sym (ap (run 0) one_more ∙ run_more 0 (take t bs) x),
      take-set-two coded t a b k
          ∙ ap₂ (λ (l m : List ℕ). l ++ m) w (ap₂ (λ (y z : ℕ). y ∷ z ∷ []) (p ∙ ap out1 f') (q ∙ ap out2 f'))
          ∙ sym (ap (code 0) one_more ∙ code-more 0 (take t bs) x),
    )
