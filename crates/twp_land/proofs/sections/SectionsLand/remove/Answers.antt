use Rattle.std.proofs.Common.{arith}
use Rattle.twp_grid.specs.Lands.{block_places}
use Rattle.twp_land.proofs.LandFacts.{removed_where_kept}
use Rattle.twp_land.proofs.LandRanges.{removed_within}
use Rattle.twp_land.proofs.sections.SectionsLand.remove.Goals as goal

pub invariant_of-self : goal.invariant_of-self
invariant_of-self g c =
    let at = c.number.ensures in
    record {
      few = c.args.self.now.few;
      within = removed_within _ _ (block_places c.args.section c.args.block) _ _
          (rw (c.from.ensures, at.value)
          (removed_where_kept g.P.Plot.held c.args.self.now.plots c.args.section c.args.block
          c.index-self-from.result c.remove.new.self (rw at.value at at.range) (omega arith)
          (rw (c.from.ensures, at.value) at c.remove.ensures)))
          c.args.self.now.within;
    }

pub returns : goal.returns
returns g c =
    let at = c.number.ensures in
    rw (c.from.ensures, at.value)
    (removed_where_kept g.P.Plot.held c.args.self.now.plots c.args.section c.args.block
    c.index-self-from.result c.remove.new.self (rw at.value at at.range) (omega arith)
    (rw (c.from.ensures, at.value) at c.remove.ensures))
