-- The scope's check on writing (section 5): a lead byte, and how many bytes follow it; no more than that. Definitions only.
use Rattle.std.specs.Prelude.{Bool, List, [], ℕ}
use Rattle.utf8.specs.Abnf.{Rule, %◌-◌, ◌·◌, ◌//◌, 2⟨◌⟩, 3⟨◌⟩}
use Rattle.utf8.specs.Forms.{forms, accepts}
use Rattle.utf8.specs.Rfc3629.{UTF8-tail}

abbrev pub counted_char : Rule
counted_char =
    % 0x00 - 0x7F //
    % 0xC0 - 0xDF · UTF8-tail //
    % 0xE0 - 0xEF · 2⟨ UTF8-tail ⟩ //
    % 0xF0 - 0xF7 · 3⟨ UTF8-tail ⟩

unfoldable pub counted : List ℕ → Bool
counted bs = accepts (forms counted_char) [] bs
