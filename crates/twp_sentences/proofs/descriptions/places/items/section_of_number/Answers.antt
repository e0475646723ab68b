-- One more item, which has no number at the place.
use Rattle.std.proofs.Common.{sym, ◌∙◌, subst}
use Rattle.twp_sentences.specs.steps.NamedNumbers.{IsSectionOf, section_named}
use Rattle.std.proofs.Common.{take}
use Rattle.twp_sentences.proofs.NumberFacts.{named_more, no_number, none_more}
use Rattle.twp_sentences.proofs.descriptions.places.items.section_of_number.Goals as goal

pub loop-item-preserved : goal.loop-item-preserved
loop-item-preserved c =
    let items = c.args.items.now in
    let index = c.loop-item.item-index in
    record {
      none =
          none_more c.args.at items index c.item-item.result c.loop-item-test.true (sym c.item-item.is)
          c.loop-item.invariant.none
          (no_number c.args.at c.item-item.result c.number_in.result
          (sym c.is_some.ensures ∙ c.if-is_some.false) c.number_in.ensures);
      known =
          subst (λ number. IsSectionOf number c.section_after-section.result)
          (sym (named_more items index c.item-item.result c.loop-item-test.true (sym c.item-item.is)))
          (c.section_after-section.ensures (section_named 0 (take index items)) c.loop-item.invariant.known);
    }
