-- In the first line, the heading's line comes first.
use Rattle.std.proofs.Common.{◌≡◌, ◌==◌, ◌++◌, ◌∙◌, length, true, decimal, ap}
use Rattle.twp_spell.specs.CanonicalText.{heading_line}
use Rattle.twp_spell.proofs.SpellingFacts.{first_lead}
use Rattle.twp_spell.proofs.spelling.write_lead.Goals as goal

pub returns-clause-first : goal.returns-clause-first
returns-clause-first c = λ none.
    let empty : c.is_empty.result ≡ true = c.is_empty.ensures
    ∙ ap (λ len. len == 0) (c.args.text.now.ok.0 ∙ ap (λ items. length items) none) in
    first_lead c.append_to.result c.args.text.now.items c.append_to.new.text.items c.begin.new.self
    c.push_number.new.self (heading_line c.args.township) (decimal c.args.section) none
    (c.begin.ensures.first empty)
    (c.push_number.ensures.text ∙ ap (λ n. c.begin.new.self ++ decimal n) c.number.ensures.value)
    c.append_to.ensures
