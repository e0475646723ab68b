-- What was found ends with what is at fault.
use Rattle.twp_grid.specs.Lands.{lotting}
use Rattle.twp_diagnose.specs.declared.finding.Finding.{Finding}
use Rattle.twp_diagnose.proofs.FindingFacts.{of_found}
use Rattle.twp_sentences.specs.OtherPlaces.{IsOtherPlace}
use Rattle.twp_sentences.specs.Underlined.{EndsWithFault}
use Rattle.twp_sentences.proofs.descriptions.stops.stop_of_places.Goals as goal

pub returns-clause-ends : goal.returns-clause-ends
returns-clause-ends g c =
    of_found
    (λ (finding : Finding). EndsWithFault c.args.origin.now c.args.bytes.now c.args.description.now
    c.args.fault finding.place)
    c.find.result c.of.result c.of.ensures.found c.find.ensures.end

pub returns-clause-other : goal.returns-clause-other
returns-clause-other g c =
    of_found
    (λ (finding : Finding). IsOtherPlace (lotting (g.P.Lotting.layout c.args.lots.now)) c.args.origin.now
    c.args.bytes.now c.args.township c.args.description.now c.args.fault finding.other)
    c.find.result c.of.result c.of.ensures.found c.find.ensures.other
