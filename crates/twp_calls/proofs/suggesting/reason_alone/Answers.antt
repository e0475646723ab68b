use Rattle.twp_calls.proofs.SuggestionFacts.{reason_found}
use Rattle.std.proofs.Common.{rules, refl}
use Rattle.twp_calls.proofs.suggesting.reason_alone.Goals as goal

pub returns : goal.returns
returns c = reason_found _ (search rules) refl (search rules)
