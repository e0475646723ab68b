-- Spaces and a bar.
use Rattle.std.proofs.Common.{◌+◌, refl}
use Rattle.std.specs.Prelude.{codes, replicate}
use Rattle.twp_excerpt.proofs.AddingFacts.{adding_failed, adding_then}
use Rattle.twp_excerpt.proofs.ShownFacts.{shown_printable}
use Rattle.twp_excerpt.proofs.excerpt.write_empty_gutter.Goals as goal

pub push_many-requires : goal.push_many-requires
push_many-requires c = shown_printable 32 refl

pub returns-in_err-push_many-clause-added : goal.returns-in_err-push_many-clause-added
returns-in_err-push_many-clause-added c =
    adding_failed (replicate (2 + c.args.digits) 32) (codes " | ") _ _ _ _ c.from_residual.ensures.0
    c.push_many.ensures.added

pub returns-clause-added : goal.returns-clause-added
returns-clause-added c =
    adding_then (replicate (2 + c.args.digits) 32) (codes " | ") _ _ _ _
    c.in_ok-push_many.ensures.added.whole
    c.push_printable.ensures.added
