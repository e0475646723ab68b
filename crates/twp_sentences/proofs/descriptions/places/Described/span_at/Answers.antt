use Rattle.twp_sentences.specs.Underlined.{of_item}
use Rattle.twp_sentences.proofs.descriptions.places.Described.span_at.Goals as goal

-- the item is one of the description's
pub returns-in-Some : goal.returns-in-Some
returns-in-Some g c = of_item c.in-Some.item.now c.in-Some.ensures c.item_span.ensures
