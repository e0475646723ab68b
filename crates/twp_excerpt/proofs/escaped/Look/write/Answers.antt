-- The characters of a safe look are shown.
use Rattle.std.proofs.Common.{subst}
use Rattle.twp_excerpt.specs.declared.escaped.Look.TheVariants.{Letter, Byte, Code}
use Rattle.twp_excerpt.specs.steps.Looks.{IsSafe}
use Rattle.twp_excerpt.proofs.LookFacts.{adding_shown}
use Rattle.twp_excerpt.proofs.escaped.Look.write.Goals as goal

pub returns-in-Letter-clause-safe : goal.returns-in-Letter-clause-safe
returns-in-Letter-clause-safe c =
    adding_shown (Letter c.in-Letter.letter) _ _ _ (subst IsSafe c.in-Letter.is c.requires)
    c.write_letter.ensures

pub returns-in-Byte-clause-safe : goal.returns-in-Byte-clause-safe
returns-in-Byte-clause-safe c =
    adding_shown (Byte c.in-Byte.byte) _ _ _ (subst IsSafe c.in-Byte.is c.requires) c.write_byte.ensures

pub returns-in-Code-clause-safe : goal.returns-in-Code-clause-safe
returns-in-Code-clause-safe c =
    adding_shown (Code c.in-Code.character) _ _ _ (subst IsSafe c.in-Code.is c.requires) c.write_code.ensures
