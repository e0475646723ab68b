-- The sign that is seen at the place is what is underlined.
use Rattle.twp_sentences.proofs.UnderlinedFacts.{ends_with_sign}
use Rattle.twp_sentences.proofs.descriptions.text.find.Goals as goal

pub returns-clause-end : goal.returns-clause-end
returns-clause-end g c small =
    ends_with_sign _ _ _ _ _ _ c.of-sight.ensures.start c.of-sight.ensures.sign (c.place.ensures.ends small)
