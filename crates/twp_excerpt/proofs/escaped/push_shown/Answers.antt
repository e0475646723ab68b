-- The character is added, or nothing is.
use Rattle.std.proofs.Common.{◌∷◌, [], sym, encode_utf8}
use Rattle.std.proofs.lemmas.List.{append-nil}
use Rattle.twp_excerpt.specs.Shown.{is_shown}
use Rattle.twp_excerpt.proofs.AddingFacts.{adding_tried}
use Rattle.twp_excerpt.proofs.ShownFacts.{adds_tried, text_of_one}
use Rattle.twp_excerpt.proofs.escaped.push_shown.Goals as goal

pub returns-clause-added : goal.returns-clause-added
returns-clause-added c =
    adding_tried (c.args.character ∷ []) (encode_utf8 c.args.character) _ _ _
    (sym (append-nil (encode_utf8 c.args.character)))
    c.push.ensures.bytes

pub returns-clause-safe : goal.returns-clause-safe
returns-clause-safe c =
    adds_tried is_shown _ _ _ _ (text_of_one is_shown c.args.character c.requires) c.push.ensures.bytes
