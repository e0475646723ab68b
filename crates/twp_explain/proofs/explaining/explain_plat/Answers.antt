-- Nothing is explained of notes that make a plat, or that have another refusal.
use Rattle.twp_explain.proofs.FindingFacts.{platted_is_none, none_of_notes}
use Rattle.twp_explain.proofs.explaining.explain_plat.Goals as goal

pub returns-in-Ok-clause-none : goal.returns-in-Ok-clause-none
returns-in-Ok-clause-none c = λ none.
    platted_is_none c.args.notes.now.bytes.now c.in-Ok.field-0 c.args.verdict c.in-Ok.ensures.plat

pub returns-in-Err-clause-none : goal.returns-in-Err-clause-none
returns-in-Err-clause-none c =
    none_of_notes c.explain.result c.args.notes.now.bytes.now c.in-Err.stop c.args.verdict
    c.in-Err.ensures.found c.explain.ensures.none
