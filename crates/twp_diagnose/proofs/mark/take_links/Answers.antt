use Rattle.std.proofs.Common.{◌∙◌}
use Rattle.twp_diagnose.proofs.StepFacts.{links_go_on}
use Rattle.twp_diagnose.proofs.mark.take_links.Goals as goal

pub links-preserved : goal.links-preserved
links-preserved c = record {
  taken = λ list has. links_go_on list c.args.start c.links.end c.in-Some.further c.links.tokens
      c.take_link.new.tokens (c.links.invariant.taken list has) c.in-Some.ensures.taken;
  end = c.take_link.ensures.end ∙ c.links.invariant.end;
}
