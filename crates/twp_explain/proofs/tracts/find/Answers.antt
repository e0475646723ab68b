-- The fault is shown in the record of its number.
use Rattle.std.proofs.Common.{◌≤◌, ap, refl, sym, subst}
use Rattle.twp_diagnose.specs.declared.location.Location.TheVariants.{Line}
use Rattle.twp_explain.specs.BlamedTracts.{in_its_record}
use Rattle.twp_explain.specs.OtherTracts.{of_its_record}
use Rattle.twp_explain.proofs.TractFacts.{listed_itself}
use Rattle.twp_explain.proofs.tracts.find.Goals as goal

pub returns-clause-place : goal.returns-clause-place
returns-clause-place g c = λ one.
    in_its_record c.in-Some.listed (rw c.in-Some.is at (c.in_ok-listed.ensures one))
    (c.in_ok-explain.ensures.place (ap Line c.start.ensures) refl)

pub returns-clause-other : goal.returns-clause-other
returns-clause-other g c = λ one.
    let is = rw c.in-Some.is at (c.in_ok-listed.ensures one) in
    of_its_record c.in-Some.listed is
    (c.in_ok-explain.ensures.other refl (ap Line c.start.ensures)
    (subst (λ n. 1 ≤ n) (sym is.record_is.number_is) one)
    (listed_itself c.args.tracts.now c.args.refusal.at c.in-Some.listed is))
