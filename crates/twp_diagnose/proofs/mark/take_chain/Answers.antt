use Rattle.twp_diagnose.proofs.ChainFacts.{part_ends}
use Rattle.twp_diagnose.proofs.mark.take_chain.Goals as goal

pub returns : goal.returns
returns c =
    part_ends c.args.tokens.now c.take_second.new.tokens c.args.first c.in-Some.end c.take_links.result
    c.in-Some.ensures.taken c.take_links.ensures
