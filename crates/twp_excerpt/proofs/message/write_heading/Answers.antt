-- The line, and the column after it.
use Rattle.std.proofs.Common.{subst, sym}
use Rattle.std.specs.Prelude.{string_bytes}
use Rattle.twp_excerpt.specs.Messages.{heading_text, number_text}
use Rattle.twp_excerpt.specs.Signs.{Adding}
use Rattle.twp_excerpt.proofs.AddingFacts.{adding_failed, adding_then}
use Rattle.twp_excerpt.proofs.message.write_heading.Goals as goal

pub returns-in_err-write_number-in-Place-clause-heading :
    goal.returns-in_err-write_number-in-Place-clause-heading
returns-in_err-write_number-in-Place-clause-heading c =
    let spot = c.in-Place.spot in
    subst
    (λ h.
    Adding (heading_text h) c.from_residual.result (string_bytes c.args.out.now)
    (string_bytes c.write_number-in-Place.new.out))
    (sym c.in-Place.is)
    (adding_failed (number_text spot.line) (number_text spot.column) _ _ _ _ c.from_residual.ensures.0
    c.write_number-in-Place.ensures.number)

pub returns-in_ok-write_number-in-Place-clause-heading :
    goal.returns-in_ok-write_number-in-Place-clause-heading
returns-in_ok-write_number-in-Place-clause-heading c =
    let spot = c.in-Place.spot in
    subst
    (λ h.
    Adding (heading_text h) c.write_number-in-Place-2.result (string_bytes c.args.out.now)
    (string_bytes c.write_number-in-Place-2.new.out))
    (sym c.in-Place.is)
    (adding_then (number_text spot.line) (number_text spot.column) _ _ _ _
    c.in_ok-write_number-in-Place.ensures.number.whole
    c.write_number-in-Place-2.ensures.number)
