use Rattle.std.proofs.Common.{take}
use Rattle.twp_sentences.specs.steps.NamedNumbers.{IsSectionOf, NoneHasNumberAt, section_named}
use Rattle.twp_sentences.proofs.descriptions.places.items.section_of_number.Given as goal

-- none of the items so far has a number there, and this is the section named last in them
abbrev pub invariant-loop-item : goal.invariant-loop-item
invariant-loop-item l = record {
  none : NoneHasNumberAt l.at l.items l.item-index;
  known : IsSectionOf (section_named 0 (take l.item-index l.items)) l.section;
}
