-- The block is added to the places of the section for which there is room.
use Rattle.std.proofs.Common.{◌==◌, nat_le, arith}
use Rattle.std.proofs.lemmas.Bool.{and_parts}
use Rattle.std.proofs.lemmas.Bool.Decides.{nat_tests}
use Rattle.twp_grid.specs.Winding.{SECTION_COUNT, IsSection}
use Rattle.twp_land.specs.Storage.{is_section}
use Rattle.twp_land.proofs.OneSections.{added_in_one}
use Rattle.twp_land.proofs.one_section.OneSectionGrowingSet.add_apart.Goals as goal

pub returns-clause-places : goal.returns-clause-places
returns-clause-places g c = λ apart.
    let section = c.args._section in
    let parts = and_parts (is_section section) (c.args.self.now.number == section) c.requires in
    let sides = and_parts (nat_le 1 section) (nat_le section SECTION_COUNT) parts.0 in
    let range : IsSection section = (grind (arith, nat_tests), grind (arith, nat_tests)) in
    added_in_one c.args.self.now.number section (g.P.Plot.held c.args.self.now.plot)
    (g.P.Plot.held c.add_apart.new.plot) c.args.block range parts.1 (c.add_apart.ensures.added apart)
