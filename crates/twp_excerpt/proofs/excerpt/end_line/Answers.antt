-- The line feed is added, or nothing is.
use Rattle.std.proofs.Common.{◌∷◌, [], encode_utf8, sym}
use Rattle.std.proofs.lemmas.List.{append-nil}
use Rattle.twp_excerpt.proofs.AddingFacts.{adding_tried}
use Rattle.twp_excerpt.proofs.excerpt.end_line.Goals as goal

pub returns-clause-added : goal.returns-clause-added
returns-clause-added c =
    adding_tried (10 ∷ []) (encode_utf8 10) _ _ _ (sym (append-nil (encode_utf8 10))) c.push.ensures.bytes
