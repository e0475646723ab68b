use Rattle.std.proofs.Common.{◌+◌, arith}
use Rattle.twp_land.proofs.LandFacts.{added_where_kept}
use Rattle.twp_land.proofs.LandRanges.{added_within}
use Rattle.twp_land.proofs.sections.SectionsLand.add.Goals as goal

pub invariant_of-self : goal.invariant_of-self
invariant_of-self g c =
    let at = c.number.ensures in
    let range = rw at.value at at.range in
    let reach = rw (c.from-index.ensures, at.value) at c.widen.ensures in
    record {
      few = omega (arith, reach.end, c.args.self.now.few);
      within =
          rw (c.from-index.ensures, at.value)
          (added_within _ _ c.args.section c.args.block (c.args.self.now.reach.first + 1)
          c.args.self.now.reach.end (c.widen.new.self.first + 1) c.widen.new.self.end
          (added_where_kept g.P.Plot.held c.args.self.now.plots c.args.section c.args.block
          c.index-self-index.result c.add.new.self range (omega arith)
          (rw (c.from-index.ensures, at.value) at c.add.ensures))
          (omega (arith, reach.first)) (omega (arith, reach.end)) (omega (arith, reach.first, range.0))
          (omega (arith, reach.end)) c.args.self.now.within);
    }

pub returns : goal.returns
returns g c =
    let at = c.number.ensures in
    rw (c.from-index.ensures, at.value)
    (added_where_kept g.P.Plot.held c.args.self.now.plots c.args.section c.args.block
    c.index-self-index.result c.add.new.self (rw at.value at at.range) (omega arith)
    (rw (c.from-index.ensures, at.value) at c.add.ensures))
