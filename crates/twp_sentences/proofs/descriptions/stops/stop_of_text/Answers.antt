use Rattle.std.proofs.Common.{◌≡◌, None, sym}
use Rattle.twp_diagnose.specs.declared.finding.Finding.{Finding}
use Rattle.twp_diagnose.proofs.FindingFacts.{of_found}
use Rattle.twp_sentences.proofs.ShownFacts.{ends_there, text_shown}
use Rattle.twp_sentences.proofs.descriptions.stops.stop_of_text.Goals as goal

-- it is shown where it was found
pub returns-clause-shown : goal.returns-clause-shown
returns-clause-shown g c =
    text_shown c.find.result c.of.result c.args.origin.now c.args.bytes.now
    c.args.fault c.in-Some.refusal (sym c.in-Some.ensures) c.of.ensures.found c.find.ensures.refusal
    c.find.ensures.place

pub returns-clause-ends : goal.returns-clause-ends
returns-clause-ends g c = λ small.
    ends_there c.find.result c.of.result c.args.origin.now c.args.bytes.now c.in-Some.refusal
    c.of.ensures.found c.find.ensures.refusal (c.find.ensures.end small)

pub returns-clause-other : goal.returns-clause-other
returns-clause-other g c =
    of_found (λ (finding : Finding). finding.other ≡ None) c.find.result c.of.result c.of.ensures.found
    c.find.ensures.other
