-- What is underlined is the item that names land again.
use Rattle.std.proofs.Common.{refl}
use Rattle.twp_sentences.proofs.descriptions.places.Described.explain_overlap.Goals as goal

pub returns-clause-span : goal.returns-clause-span
returns-clause-span g c = record { span = c.span_at.result; is = c.span_at.ensures; ends = refl }
