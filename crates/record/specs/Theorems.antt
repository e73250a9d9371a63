-- What building and reading are to each other, by what Opened.antt reads off a record.
use Rattle.std.specs.Prelude.{◌≡◌, Bool, not, List, ℕ, ◌-◌, ◌≤◌, eqb, leb, length, get_or, take, Option, Some, None, IfSome, Ok, Err}
use Rattle.std.proofs.Math.Path.{refl}
use Rattle.std.proofs.Common.{sym, ◌∙◌, ap, ap₂, arith, lit≤}
use Rattle.std.proofs.Math.Bool.{true, false, cond}
use borrow.Author.Tests.{eq-eqb, ne_eqb, eqb-false, le-leb, leb-true}
use Rattle.refusal.specs.declared.Refusal.TheVariants.{TextTooLong, TextNotUtf8, NoWatermark, PasswordRequired, Damaged, WrongPasswordOrDamaged}
use Rattle.keystream.specs.Apply.{applied_of}
use Rattle.keystream.specs.Laws.{applied-next}
use Rattle.utf8.specs.Rfc3629.{well_formed}
use Rattle.utf8.specs.Counted.{counted}
use Rattle.utf8.specs.Texts.{well_formed-counted}
use Rattle.record.specs.declared.Lock.{Lock}
use Rattle.record.specs.declared.Key.{Key}
use Rattle.record.specs.Given.{opening_key}
use Rattle.record.specs.Record.{Profile, short, salt_at, length_at, outer_at, intact, covered, head_of, locked, record_of, built_of, text_in, inside_of, opened_of, parsed_of}
use Rattle.seq.specs.Bytes.{number_at}
use Rattle.record.specs.Opened.{outer-right, head-there, mode-keyed, mode-plain, salt-there, text-opened, inside-opened}

-- a record that was built is the record of a text that fits
built : (p : Profile) (text : List ℕ) (lock : Option Lock) (bs : List ℕ) → built_of p text lock ≡ Ok bs → (length text ≤ p.room) × (record_of p text lock ≡ bs)
unfolding built_of
built p text lock bs = go (leb (length text) p.room) (counted text) refl
  where
    go : (a b : Bool) → leb (length text) p.room ≡ a
        → cond (not a) (Err (TextTooLong (length text))) (cond (not b) (Err TextNotUtf8) (Ok (record_of p text lock))) ≡ Ok bs
        → (length text ≤ p.room) × (record_of p text lock ≡ bs)
    go true true l e = (leb-true _ _ l, cc)
    go true false l e = let z : ◌≡◌ {A = ℕ} 0 1 = cc in absurd (omega arith)
    go false b l e = let z : ◌≡◌ {A = ℕ} 0 1 = cc in absurd (omega arith)

-- ---- the theorems

-- a record whose outer CRC is wrong is refused, whatever the key
pub outer-first : (p : Profile) (bs : List ℕ) (key : Option Key) → intact (outer_at p) bs ≡ false → parsed_of p bs key ≡ Err NoWatermark
unfolding parsed_of
outer-first p bs key e = rw e

-- refusal 14 cannot occur: the keystream has as many bytes as are covered
pub never_ends : applied_of 0 (outer_at short - length_at) ≡ Ok (outer_at short - length_at)
never_ends = applied-next 0 (outer_at short - length_at) (lit≤ tt)

-- the rest is of a profile whose modes differ, as those of the short one do
pub short-apart : eqb short.keyed short.plain ≡ false
short-apart = refl

module _ (p : Profile) (apart : eqb p.keyed p.plain ≡ false) where
  module _ (bs : List ℕ) (right : intact (outer_at p) bs ≡ true) where
    parsed-keyed : (key : Key) → get_or bs 0 0 ≡ p.keyed → parsed_of p bs (Some key) ≡ inside_of p WrongPasswordOrDamaged (covered p key.bytes bs)
    unfolding parsed_of opened_of
    parsed-keyed key mode = rw (right, mode, apart, eq-eqb p.keyed p.keyed refl)

    parsed-plain : get_or bs 0 0 ≡ p.plain → parsed_of p bs None ≡ inside_of p Damaged bs
    unfolding parsed_of opened_of
    parsed-plain mode = rw (right, mode, eq-eqb p.plain p.plain refl, ne_eqb p.plain p.keyed (λ q. eqb-false _ _ apart (sym q)))

    parsed-without : get_or bs 0 0 ≡ p.keyed → parsed_of p bs None ≡ Err (PasswordRequired (number_at salt_at bs))
    unfolding parsed_of
    parsed-without mode = rw (right, mode, apart, eq-eqb p.keyed p.keyed refl)

  module _ (text : List ℕ) (fits : length text ≤ p.room) (good : well_formed text ≡ true) where
    read_back : (lock : Option Lock) → IfSome lock (λ l. length l.salt ≡ 4) → parsed_of p (record_of p text lock) (opening_key lock) ≡ Ok text
    unfolding locked
    read_back (Some l) four =
        parsed-keyed _ (outer-right p text (Some l) four fits) (record { bytes = l.key }) (mode-keyed p text (Some l) four fits l refl)
        ∙ inside-opened p text (Some l) four fits WrongPasswordOrDamaged good
    read_back None four =
        parsed-plain _ (outer-right p text None four fits) (mode-plain p text None four fits refl) ∙ inside-opened p text None four fits Damaged good

  -- well-formed text that fits is built, and is read back with the same key or none
  pub round_trip : (text : List ℕ) (lock : Option Lock) → IfSome lock (λ l. length l.salt ≡ 4) → length text ≤ p.room → well_formed text ≡ true
      → (built_of p text lock ≡ Ok (record_of p text lock)) × (parsed_of p (record_of p text lock) (opening_key lock) ≡ Ok text)
  unfolding built_of
  round_trip text lock four fits good = (rw (le-leb (length text) p.room fits, well_formed-counted text good), read_back text fits good lock four)

  -- a record built with a key asks for it, and gives the salt
  pub asks-for-key : (text : List ℕ) (lock : Lock) (bs : List ℕ) → length lock.salt ≡ 4 → built_of p text (Some lock) ≡ Ok bs
      → parsed_of p bs None ≡ Err (PasswordRequired (number_at 0 lock.salt))
  asks-for-key text lock bs four made =
      let (fits, is) = built p text (Some lock) bs made in
      rw (← is)
      (parsed-without (record_of p text (Some lock)) (outer-right p text (Some lock) four fits) (mode-keyed p text (Some lock) four fits lock refl)
      ∙ ap (λ (n : ℕ). Err (PasswordRequired n)) (salt-there p text (Some lock) four fits lock refl))

  -- two locks with the same key, where both have one, whose records begin alike are the same
  same-lock : (lock₁ lock₂ : Option Lock) → head_of p lock₁ ≡ head_of p lock₂ → ((a b : Lock) → lock₁ ≡ Some a → lock₂ ≡ Some b → a.key ≡ b.key)
      → lock₁ ≡ lock₂
  unfolding head_of
  same-lock (Some a) (Some b) e same =
      let key : a.key ≡ b.key = same a b refl refl in
      let salt : a.salt ≡ b.salt = cc in
      ap₂ (λ (k s : List ℕ). Some (record { key = k; salt = s })) key salt
  same-lock (Some a) None e same = absurd (eqb-false p.keyed p.plain apart (cc))
  same-lock None (Some b) e same = absurd (eqb-false p.keyed p.plain apart (cc))
  same-lock None None e same = refl

  -- the same record comes from the same text and lock, where the key, if there is one, is the same
  pub same-record : (text₁ text₂ : List ℕ) (lock₁ lock₂ : Option Lock) (bs : List ℕ) → IfSome lock₁ (λ l. length l.salt ≡ 4) → IfSome lock₂ (λ l. length l.salt ≡ 4)
      → built_of p text₁ lock₁ ≡ Ok bs → built_of p text₂ lock₂ ≡ Ok bs → ((a b : Lock) → lock₁ ≡ Some a → lock₂ ≡ Some b → a.key ≡ b.key)
      → (text₁ ≡ text₂) × (lock₁ ≡ lock₂)
  same-record text₁ text₂ lock₁ lock₂ bs four₁ four₂ made₁ made₂ same =
      let (fits₁, is₁) = built p text₁ lock₁ bs made₁ in
      let (fits₂, is₂) = built p text₂ lock₂ bs made₂ in
      let both : record_of p text₁ lock₁ ≡ record_of p text₂ lock₂ = is₁ ∙ sym is₂ in
      let heads = sym (head-there p text₁ lock₁ four₁ fits₁) ∙ (ap (take length_at) both ∙ head-there p text₂ lock₂ four₂ fits₂) in
      let locks : lock₁ ≡ lock₂ = same-lock lock₁ lock₂ heads same in
      let texts : text₁ ≡ text₂ =
      sym (text-opened p text₁ lock₁ four₁ fits₁)
      ∙ (ap text_in (ap₂ (locked p) locks both) ∙ text-opened p text₂ lock₂ four₂ fits₂) in
      (texts, locks)
