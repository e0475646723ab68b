-- The other place is the name of the first tract that has it.
use Rattle.twp_explain.proofs.TractFacts.{holds_on_ok, named_before}
use Rattle.twp_explain.proofs.tracts.explain_name.Goals as goal

pub returns-clause-other : goal.returns-clause-other
returns-clause-other c = λ none some listed. holds_on_ok c.write.result
    (named_before c.args.listed.now c.in-Some.earlier c.in_ok-number.number c.other_place.result
    (rw c.in_ok-number.was at (c.first_named.ensures listed)) some
    (λ one. rw c.in-Some.is at (c.in_ok-earlier.ensures one)) c.other_place.ensures)
