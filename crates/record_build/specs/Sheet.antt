-- The sample sheet's line on the text's length, computed: a text of 32 bytes passes, one of 33 is refused with 1 and 33.
use Rattle.std.specs.Prelude.{◌≡◌, ℕ, List, [], replicate, Option, Ok, Err}
use Rattle.std.proofs.Math.Path.{refl}
use Rattle.refusal.specs.declared.Refusal.TheVariants.{TextTooLong}
use Rattle.utf8.specs.Counted.{counted}
use Rattle.utf8.specs.Forms.{in_range, forms, following, accepts}
use Rattle.record.specs.declared.Lock.{Lock}
use Rattle.record.specs.Record.{short, record_of, built_of}

-- a text of n letters
abbrev pub letters : ℕ → List ℕ
letters n = replicate n 0x61

module _ (lock : Option Lock) where
  pub none_passes : built_of short [] lock ≡ Ok (record_of short [] lock)
  unfolding built_of counted accepts following in_range forms
  none_passes = refl

  pub of-32-passes : built_of short (letters 32) lock ≡ Ok (record_of short (letters 32) lock)
  unfolding built_of counted accepts following in_range forms
  of-32-passes = refl

  pub of-33-refused : built_of short (letters 33) lock ≡ Err (TextTooLong 33)
  unfolding built_of
  of-33-refused = refl
