-- Each character of an escape takes one column.
use Rattle.std.proofs.Common.{subst, sym, ap, ◌∙◌, ◌+◌}
use Rattle.twp_excerpt.specs.Signs.{width}
use Rattle.twp_excerpt.specs.steps.Looks.{IsSafe, look_text}
use Rattle.twp_excerpt.proofs.LookFacts.{letter_width, byte_width, code_width}
use Rattle.twp_excerpt.proofs.escaped.Look.columns.Goals as goal

pub returns-in-Letter-clause-width : goal.returns-in-Letter-clause-width
returns-in-Letter-clause-width c =
    letter_width c.in-Letter.field-0 (subst IsSafe c.in-Letter.is c.requires)
    ∙ ap (λ l. width (look_text l)) (sym c.in-Letter.is)

pub returns-in-Byte-clause-width : goal.returns-in-Byte-clause-width
returns-in-Byte-clause-width c =
    byte_width c.in-Byte.field-0 (subst IsSafe c.in-Byte.is c.requires)
    ∙ ap (λ l. width (look_text l)) (sym c.in-Byte.is)

pub returns-in-Code-clause-width : goal.returns-in-Code-clause-width
returns-in-Code-clause-width c =
    ap (λ n. 4 + n) c.hex_digits.ensures.value
    ∙ code_width c.in-Code.character (subst IsSafe c.in-Code.is c.requires)
    ∙ ap (λ l. width (look_text l)) (sym c.in-Code.is)
