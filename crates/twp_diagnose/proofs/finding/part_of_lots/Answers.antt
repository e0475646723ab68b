use Rattle.std.proofs.Common.{refl}
use Rattle.twp_diagnose.proofs.PartFacts.{part_found}
use Rattle.twp_diagnose.proofs.finding.part_of_lots.Goals as goal

pub returns : goal.returns
returns g c =
    part_found (g.P.Lotting.layout c.args.lots.now) c.args.township c.args.section c.args.steps.now _
    c.in-Some.block _ _ _ c.in-Some.ensures.0 c.in-Some.ensures.1 c.empty-land.ensures c.add.ensures
    c.keep_off_lots.ensures refl c.in_ok-held.ensures c.holds_whole_lots-are_whole.ensures
    c.in_ok-rest.ensures.text
