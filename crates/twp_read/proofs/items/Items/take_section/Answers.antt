use Rattle.std.proofs.Common.{drop, ◌+◌, ℕ, List, [], ◌∷◌, true, refl, sym, subst, ◌∙◌, ap}
use Rattle.twp_grammar.specs.declared.item.Item.{Item}
use Rattle.twp_grammar.specs.declared.item.Item.TheVariants.{Sections}
use Rattle.twp_grammar.specs.declared.item.Numeral.{Numeral}
use Rattle.twp_read.specs.declared.description.Reached.{Reached}
use Rattle.twp_grammar.specs.declared.state.State.TheVariants as past
use Rattle.twp_read.specs.steps.TokenSteps.{before_parts}
use Rattle.twp_read.specs.steps.Usual.{Leads}
use Rattle.twp_read.proofs.FrontFacts.{colon_leads, section_taken, section_plain}
use Rattle.twp_read.proofs.Leading.{leads_then}
use Rattle.twp_read.proofs.items.Items.take_section.Goals as goal

pub number_after-requires-clause-place : goal.number_after-requires-clause-place
number_after-requires-clause-place c = (c.in-Some.ensures.leads []).within

pub returns-then-not-goes_on : goal.returns-then-not-goes_on
returns-then-not-goes_on c =
    let text : List ℕ = c.args.text.now in
    let from : Reached = c.args.from in
    let word : Reached = c.in-Some.word in
    let end : ℕ = c.in-Some-number_after.number.end in
    let number : Numeral = c.in-Some-number_after.number.numeral in
    let items : List Item = c.args.self.now in
    let numbered : List Item = Sections number number true ∷ items in
    let number_leads : Leads text word.at word.state items end past.SectionNumber numbered =
    subst (λ (its : List Item). Leads text word.at word.state items end past.SectionNumber its)
    (section_taken word.state number items c.in-Some.ensures.number)
    (c.in-Some-number_after.ensures.number word.state past.SectionNumber items c.in-Some.ensures.number
    (section_plain word.state (drop number.at text) c.in-Some.ensures.number)) in
    subst (λ (its : List Item). Leads text from.at from.state items end past.SectionNumber its)
    (sym c.in_ok-push.ensures)
    (leads_then text from.at from.state items word.at word.state items end past.SectionNumber numbered
    (c.in-Some.ensures.leads items) number_leads)

pub returns : goal.returns
returns c =
    let text : List ℕ = c.args.text.now in
    let from : Reached = c.args.from in
    let word : Reached = c.in-Some.word in
    let end : ℕ = c.in-Some-number_after.number.end in
    let number : Numeral = c.in-Some-number_after.number.numeral in
    let items : List Item = c.args.self.now in
    let numbered : List Item = Sections number number true ∷ items in
    let parted : List Item = before_parts past.SectionNumber numbered in
    let number_leads : Leads text word.at word.state items end past.SectionNumber numbered =
    subst (λ (its : List Item). Leads text word.at word.state items end past.SectionNumber its)
    (section_taken word.state number items c.in-Some.ensures.number)
    (c.in-Some-number_after.ensures.number word.state past.SectionNumber items c.in-Some.ensures.number
    (section_plain word.state (drop number.at text) c.in-Some.ensures.number)) in
    subst (λ (its : List Item). Leads text from.at from.state items (end + 1) past.BeforePart its)
    (sym (c.in_ok-before_parts.ensures ∙ ap (before_parts past.SectionNumber) c.in_ok-push.ensures))
    (leads_then text from.at from.state items end past.SectionNumber numbered (end + 1) past.BeforePart parted
    (leads_then text from.at from.state items word.at word.state items end past.SectionNumber numbered
    (c.in-Some.ensures.leads items) number_leads)
    (colon_leads text end numbered (c.if-not-goes_on.ensures.spelled refl)
    (c.if-not-goes_on.ensures.within refl)))
