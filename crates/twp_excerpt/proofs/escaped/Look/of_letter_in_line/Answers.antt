-- A space is shown.
use Rattle.std.proofs.Common.{refl}
use Rattle.twp_excerpt.proofs.ShownFacts.{shown_printable}
use Rattle.twp_excerpt.proofs.escaped.Look.of_letter_in_line.Goals as goal

pub returns-then-letter-eq116-clause-safe : goal.returns-then-letter-eq116-clause-safe
returns-then-letter-eq116-clause-safe c = shown_printable 32 refl
