use Rattle.std.proofs.Common.{ap₂, subst, ◌++◌}
use Rattle.std.specs.Prelude.{string_bytes}
use Rattle.twp_excerpt.specs.Excerpts.{dots, line_text}
use Rattle.twp_excerpt.specs.Signs.{Adding, signs}
use Rattle.twp_excerpt.proofs.AddingFacts.{adding_failed, adding_then}
use Rattle.twp_excerpt.proofs.kept_part.KeptPart.write_end.Goals as goal

pub returns-in_err-write_dots-clause-added : goal.returns-in_err-write_dots-clause-added
returns-in_err-write_dots-clause-added c = λ piece is.
    subst
    (λ text.
    Adding text c.from_residual.result (string_bytes c.args.out.now) (string_bytes c.write_dots.new.out))
    (ap₂ (λ s b. dots b ++ line_text s) is.kept_is is.cut_is)
    (adding_failed (dots c.args.self.now.cut) (line_text (signs c.args.self.now.bytes.now)) _ _ _ _
    c.from_residual.ensures.0
    c.write_dots.ensures.added)

pub returns-clause-added : goal.returns-clause-added
returns-clause-added c = λ piece is.
    subst
    (λ text.
    Adding text c.write_in_line.result (string_bytes c.args.out.now) (string_bytes c.write_in_line.new.out))
    (ap₂ (λ s b. dots b ++ line_text s) is.kept_is is.cut_is)
    (adding_then (dots c.args.self.now.cut) (line_text (signs c.args.self.now.bytes.now)) _ _ _ _
    c.in_ok-write_dots.ensures.added.whole
    c.write_in_line.ensures.added)
