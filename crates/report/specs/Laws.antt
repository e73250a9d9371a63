-- Laws on the line's definitions: a number's last digit and those in front of it, how long the pieces are, and that a text that was
-- read fits.
use Rattle.std.specs.Prelude.{◌≡◌, refl, Bool, true, false, not, cond, ◌&&◌, ◌||◌, List, [], ◌∷◌, ◌++◌, ℕ, zero, suc, ◌*◌, ◌/◌, ◌%◌, ◌^◌, ◌≤◌, ◌<◌, eqb, ltb, length, get_or, drop, Float, Option, Some, None, is_some, is_none, Result, Ok, Err}
use Rattle.std.proofs.Common.{sym, ◌∙◌, ap, pow-suc, arith, length-append, length-take, lt-ltb, le-ltb, ltb-true, ltb-false}
use Rattle.seq.specs.Lists.{tab}
use Rattle.refusal.specs.declared.Refusal.{Refusal}
use Rattle.refusal.specs.declared.Refusal.TheVariants.{BadLength, NoWatermark, UnsupportedVersion, NotEncrypted, PasswordRequired, Damaged}
use Rattle.refusal.specs.declared.Refusal.TheVariants.{WrongPasswordOrDamaged}
use Rattle.record.specs.declared.Key.{Key}
use Rattle.record.specs.Record.{short, salt_at, length_at, text_at, outer_at, intact, covered, text_in, sound, inside_of, opened_of, parsed_of}
use Rattle.seq.specs.Bytes.{number_at}
use Rattle.record.specs.Laws.{sound_length}
use Rattle.picture.specs.Sizes.{block_count}
use Rattle.extract.specs.Extract.{record_reading, parsed_from, votes_reading}
use Rattle.report.specs.Input.{vote_from, bytes_reading}
use Rattle.report.specs.Line.{ascii, digit, decimal_digits, decimal, pairs, hex}

-- ---- numbers

digits_last : (k n : ℕ) → n < 10 → decimal_digits (suc k) n ≡ digit n ∷ []
unfolding decimal_digits
digits_last k n h = rw (lt-ltb n 10 h)

digits_more : (k n : ℕ) → 10 ≤ n → decimal_digits (suc k) n ≡ decimal_digits k (n / 10) ++ (digit (n % 10) ∷ [])
unfolding decimal_digits
digits_more k n h = rw (le-ltb n 10 h)

-- room for more digits than there are makes no difference
enough : (j k n : ℕ) → n < j → n < k → decimal_digits j n ≡ decimal_digits k n
enough zero k n h g = absurd (omega arith)
enough (suc j) zero n h g = absurd (omega arith)
enough (suc j) (suc k) n h g = go (ltb n 10) refl (λ (l : 10 ≤ n). enough j k (n / 10) (omega arith) (omega arith))
  where
    go : (t : Bool) → ltb n 10 ≡ t → (10 ≤ n → decimal_digits j (n / 10) ≡ decimal_digits k (n / 10)) → decimal_digits (suc j) n ≡ decimal_digits (suc k) n
    go true t same = let l = ltb-true n 10 t in digits_last j n l ∙ sym (digits_last k n l)
    go false t same = let l = ltb-false n 10 t in rw (digits_more j n l, digits_more k n l, same l)

pub decimal-last : (n : ℕ) → n < 10 → decimal n ≡ digit n ∷ []
unfolding decimal
decimal-last n h = digits_last n n h

pub decimal-more : (n : ℕ) → 10 ≤ n → decimal n ≡ decimal (n / 10) ++ (digit (n % 10) ∷ [])
unfolding decimal
decimal-more n h = rw (digits_more n n h, enough n (suc (n / 10)) (n / 10) (omega arith) (omega arith))

pub length-decimal : (k n : ℕ) → n < 10 ^ suc k → length (decimal n) ≤ suc k
length-decimal zero n h = rw (decimal-last n (omega arith)) (omega arith)
length-decimal (suc k) n h = go (ltb n 10) refl (length-decimal k (n / 10) (omega (arith, pow-suc 10 (suc k))))
  where
    go : (t : Bool) → ltb n 10 ≡ t → length (decimal (n / 10)) ≤ suc k → length (decimal n) ≤ suc (suc k)
    go true t less = rw (decimal-last n (ltb-true n 10 t)) (omega arith)
    go false t less = rw (decimal-more n (ltb-false n 10 t), length-append) (omega arith)

-- ---- bytes

pub length_pairs : (bs : List ℕ) → length (pairs bs) ≡ 2 * length bs
unfolding pairs
length_pairs [] = refl
length_pairs (b ∷ bs) = omega (arith, length_pairs bs)

pub pairs-more : (bs : List ℕ) (b : ℕ) → pairs (bs ++ (b ∷ [])) ≡ pairs bs ++ (digit (b / 16) ∷ digit (b % 16) ∷ [])
unfolding pairs
pairs-more [] b = refl
pairs-more (a ∷ bs) b = ap (λ (ds : List ℕ). digit (a / 16) ∷ digit (a % 16) ∷ ds) (pairs-more bs b)

pub length-hex : (bs : List ℕ) (m : ℕ) → length bs ≤ m → 1 ≤ m → length (hex bs) ≤ 2 * m
unfolding hex
length-hex [] m h g = omega arith
length-hex (b ∷ bs) m h g = omega (arith, length_pairs (b ∷ bs))

pub hex_none : (bs : List ℕ) → length bs ≡ 0 → hex bs ≡ ascii "-"
unfolding hex
hex_none [] e = refl
hex_none (b ∷ bs) e = absurd (omega arith)

pub hex_some : (bs : List ℕ) → (length bs ≡ 0 → ⊥) → hex bs ≡ pairs bs
unfolding hex
hex_some [] n = absurd (n refl)
hex_some (b ∷ bs) n = refl

-- ---- what was read

-- a text that was read has at most 32 bytes
abbrev pub FitsLine : Result (List ℕ) Refusal → Type 0
FitsLine (Ok text) = length text ≤ short.room
FitsLine (Err _) = Unit {0}

either : (t : Bool) (a b : Result (List ℕ) Refusal) → FitsLine a → FitsLine b → FitsLine (cond t a b)
either true a b h g = h
either false a b h g = g

inside-short : (wrong : Refusal) (bs : List ℕ) → FitsLine (inside_of short wrong bs)
unfolding inside_of text_in
inside-short wrong bs = go (sound short bs) refl
  where
    go : (t : Bool) → sound short bs ≡ t → FitsLine (cond (not t) (Err wrong) (Ok (text_in bs)))
    go true t = omega (arith, sound_length short bs t, length-take (get_or bs length_at 0) (drop text_at bs))
    go false t = tt

opened-short : (bs : List ℕ) (key : Option Key) → FitsLine (opened_of short bs key)
unfolding opened_of
opened-short bs (Some key) = inside-short WrongPasswordOrDamaged (covered short key.bytes bs)
opened-short bs None = inside-short Damaged bs

parsed-short : (bs : List ℕ) (key : Option Key) → FitsLine (parsed_of short bs key)
unfolding parsed_of
parsed-short bs key =
    let mode = get_or bs 0 0 in
    either (not (intact (outer_at short) bs)) (Err NoWatermark) _ tt
    (either (not (eqb mode short.plain || eqb mode short.keyed)) (Err (UnsupportedVersion mode)) _ tt
    (either (eqb mode short.plain && is_some key) (Err NotEncrypted) _ tt
    (either (eqb mode short.keyed && is_none key) (Err (PasswordRequired (number_at salt_at bs))) _ tt (opened-short bs key))))

votes-short : (votes : List Float) (key : Option Key) → FitsLine (votes_reading votes key)
unfolding votes_reading
votes-short votes key = go (record_reading votes)
  where
    go : (o : Result (List ℕ) Refusal) → FitsLine (parsed_from o key)
    go (Err r) = tt
    go (Ok bs) = parsed-short bs key

pub bytes_fit : (bytes : List ℕ) → FitsLine (bytes_reading bytes)
unfolding bytes_reading
bytes_fit bytes = go (eqb (length bytes) 4096)
  where
    go : (t : Bool) → FitsLine (cond (not t) (Err (BadLength (length bytes))) (votes_reading (tab (vote_from bytes) block_count) None))
    go true = votes-short (tab (vote_from bytes) block_count) None
    go false = tt
