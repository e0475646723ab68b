use Rattle.twp_sentences.specs.steps.NamedNumbers.{NoneHasNumberAt}
use Rattle.twp_sentences.proofs.descriptions.places.items.number_at.Given as goal

-- none of the items so far has a number there
abbrev pub invariant-loop-item : goal.invariant-loop-item
invariant-loop-item l = NoneHasNumberAt l.at l.items l.item-index
