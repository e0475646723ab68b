-- Spaces, the number, and a bar.
use Rattle.std.proofs.Common.{◌++◌}
use Rattle.std.specs.Prelude.{codes}
use Rattle.twp_excerpt.proofs.AddingFacts.{adding_failed, adding_then}
use Rattle.twp_excerpt.proofs.excerpt.write_gutter.Goals as goal

pub returns-in_err-push_printable-clause-added : goal.returns-in_err-push_printable-clause-added
returns-in_err-push_printable-clause-added c =
    adding_failed (codes "  ") (c.args.number.now ++ codes " | ") _ _ _ _ c.from_residual.ensures.0
    c.push_printable.ensures.added

pub returns-in_err-push_printable-2-clause-added : goal.returns-in_err-push_printable-2-clause-added
returns-in_err-push_printable-2-clause-added c =
    adding_then (codes "  ") (c.args.number.now ++ codes " | ") _ _ _ _
    c.in_ok-push_printable.ensures.added.whole
    (adding_failed c.args.number.now (codes " | ") _ _ _ _
    c.from_residual-in_err-push_printable-2.ensures.0
    c.push_printable-2.ensures.added)

pub returns-clause-added : goal.returns-clause-added
returns-clause-added c =
    adding_then (codes "  ") (c.args.number.now ++ codes " | ") _ _ _ _
    c.in_ok-push_printable.ensures.added.whole
    (adding_then c.args.number.now (codes " | ") _ _ _ _ c.in_ok-push_printable-2.ensures.added.whole
    c.push_printable-3.ensures.added)
