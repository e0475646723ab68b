-- A bad record has no other place.
use Rattle.std.proofs.Common.{◌∙◌}
use Rattle.twp_explain.proofs.TractFacts.{holds_on_ok}
use Rattle.twp_explain.proofs.tracts.explain.Goals as goal

pub returns-in-TractRow-clause-other : goal.returns-in-TractRow-clause-other
returns-in-TractRow-clause-other g c = λ none line some listed.
    holds_on_ok c.explain.result (rw c.in-TractRow.is (c.explain.ensures.other ∙ none))
