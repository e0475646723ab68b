use Rattle.std.proofs.Common.{◌+◌, ℕ, List, refl, sym}
use Rattle.twp_grammar.specs.declared.item.Item.{Item}
use Rattle.twp_read.specs.declared.description.Reached.{Reached}
use Rattle.twp_grammar.proofs.StateFacts.{sections_begin}
use Rattle.twp_read.proofs.SeveralSections.{secs_leads, several_lead}
use Rattle.twp_read.proofs.items.Items.take_several.Goals as goal

pub returns : goal.returns
returns c =
    let text : List ℕ = c.args.text.now in
    let from : Reached = c.args.from in
    let at : ℕ = c.after_white-word.result in
    let items : List Item = c.args.self.now in
    rw (c.in_ok-push-2.ensures, c.in_ok-push.ensures, c.entry.ensures, c.entry-2.ensures)
    (several_lead text from.at from.state items (at + 6) c.in-Some.first.numeral c.in-Some.first.end
    c.in-Some-number_after.second.numeral c.in-Some-number_after.second.end
    (secs_leads text from.at at from.state items
    (sym (sections_begin from.state (sym c.if-not-begins_sections.ensures)))
    c.after_white-word.ensures.value (c.if-not-goes_on.ensures.spelled refl)
    (c.if-not-goes_on.ensures.within refl))
    c.in-Some.ensures.token
    (c.if-not-goes_on-2.ensures.spelled refl) (c.if-not-goes_on-2.ensures.within refl)
    c.in-Some-number_after.ensures.token)
