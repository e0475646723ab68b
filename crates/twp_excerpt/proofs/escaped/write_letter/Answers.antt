use Rattle.std.proofs.Common.{◌∷◌, []}
use Rattle.twp_excerpt.proofs.AddingFacts.{adding_failed, adding_then}
use Rattle.twp_excerpt.proofs.ShownFacts.{shown_printable}
use Rattle.twp_excerpt.proofs.escaped.write_letter.Goals as goal

pub push_shown-requires : goal.push_shown-requires
push_shown-requires c = shown_printable c.args.letter c.requires

pub returns-in_err-push_printable : goal.returns-in_err-push_printable
returns-in_err-push_printable c =
    adding_failed (92 ∷ []) (c.args.letter ∷ []) _ _ _ _ c.from_residual.ensures.0
    c.push_printable.ensures.added

pub returns : goal.returns
returns c =
    adding_then (92 ∷ []) (c.args.letter ∷ []) _ _ _ _ c.in_ok-push_printable.ensures.added.whole
    c.push_shown.ensures.added
