-- The text is pasted over zeros.
use Rattle.std.proofs.Common.{◌≡◌, refl, [], ◌++◌, ◌-◌, length, replicate, ◌∙◌, take_at, rules}
use Rattle.record.specs.Laws.{pasted-over}
use Rattle.record.proofs.Text.new.Goals as goal

pub invariant_of-result : goal.invariant_of-result
invariant_of-result c =
    let text = c.args.text.now in
    let e : c.copy.new.to ≡ text ++ replicate (32 - length text) 0 = c.copy.ensures ∙ pasted-over [] text 0 32 refl c.requires in
    (c.requires, search rules, rw (e, take_at text (replicate (32 - length text) 0) (length text) refl) refl)
