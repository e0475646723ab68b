use Rattle.twp_diagnose.proofs.StepFacts.{link_taken}
use Rattle.twp_diagnose.proofs.mark.take_link.Goals as goal

pub returns-clause-taken : goal.returns-clause-taken
returns-clause-taken c =
    link_taken c.args.tokens.now c.first_of_step.new.tokens c.take_second.new.tokens c.in_ok-first.first
    c.take_second.result c.in_ok-first.ensures.found c.take_second.ensures.taken
