-- The text is added, or nothing is.
use Rattle.twp_excerpt.specs.Shown.{is_shown}
use Rattle.twp_excerpt.proofs.AddingFacts.{adding_tried}
use Rattle.twp_excerpt.proofs.ShownFacts.{adds_tried, own_text, printable_text}
use Rattle.twp_excerpt.proofs.escaped.push_printable.Goals as goal

pub returns-clause-added : goal.returns-clause-added
returns-clause-added c =
    adding_tried c.args.text.now c.args.text.now _ _ _ (own_text c.args.text.now c.requires)
    c.push_str.ensures.bytes

pub returns-clause-safe : goal.returns-clause-safe
returns-clause-safe c =
    adds_tried is_shown _ _ _ _ (printable_text c.args.text.now c.requires) c.push_str.ensures.bytes
