use Rattle.std.proofs.Common.{ap₂, subst, ◌++◌}
use Rattle.std.specs.Prelude.{string_bytes}
use Rattle.twp_excerpt.specs.Excerpts.{dots, line_text}
use Rattle.twp_excerpt.specs.Signs.{Adding, signs}
use Rattle.twp_excerpt.proofs.AddingFacts.{adding_failed, adding_then}
use Rattle.twp_excerpt.proofs.kept_part.KeptPart.write_front.Goals as goal

pub returns-in_err-write_in_line-clause-added : goal.returns-in_err-write_in_line-clause-added
returns-in_err-write_in_line-clause-added c = λ piece is.
    subst
    (λ text.
    Adding text c.from_residual.result (string_bytes c.args.out.now) (string_bytes c.write_in_line.new.out))
    (ap₂ (λ s b. line_text s ++ dots b) is.kept_is is.cut_is)
    (adding_failed (line_text (signs c.args.self.now.bytes.now)) (dots c.args.self.now.cut) _ _ _ _
    c.from_residual.ensures.0
    c.write_in_line.ensures.added)

pub returns-clause-added : goal.returns-clause-added
returns-clause-added c = λ piece is.
    subst
    (λ text.
    Adding text c.write_dots.result (string_bytes c.args.out.now) (string_bytes c.write_dots.new.out))
    (ap₂ (λ s b. line_text s ++ dots b) is.kept_is is.cut_is)
    (adding_then (line_text (signs c.args.self.now.bytes.now)) (dots c.args.self.now.cut) _ _ _ _
    c.in_ok-write_in_line.ensures.added.whole
    c.write_dots.ensures.added)
