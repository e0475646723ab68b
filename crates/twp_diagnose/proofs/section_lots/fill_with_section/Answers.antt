use Rattle.twp_grid.specs.Lands.{lotting}
use Rattle.twp_diagnose.proofs.SectionLotFacts.{section_filled}
use Rattle.twp_diagnose.proofs.section_lots.fill_with_section.Goals as goal

pub add_section-requires : goal.add_section-requires
add_section-requires g c = record { room = g.met.L.Land.roomy c.clear.new.self c.args.section }

pub returns : goal.returns
returns g c =
    section_filled (lotting (g.P.Lotting.layout c.args.lots.now)) c.args.section c.add_section.result _ _
    c.clear.ensures c.add_section.ensures.places c.add_section.ensures.met
