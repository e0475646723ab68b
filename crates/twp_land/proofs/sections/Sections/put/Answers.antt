use Rattle.std.proofs.Common.{◌+◌, arith}
use Rattle.twp_land.proofs.LandFacts.{held_after}
use Rattle.twp_land.proofs.RowLands.{put_within}
use Rattle.twp_land.proofs.sections.Sections.put.Goals as goal

pub invariant_of-self : goal.invariant_of-self
invariant_of-self g c =
    let at = c.number.ensures in
    let range = rw at.value at at.range in
    let reach = rw (c.from-at.ensures, at.value) at c.widen.ensures in
    record {
      few = omega (arith, reach.end, c.args.self.now.few);
      within =
          rw (c.from-at.ensures, at.value)
          (put_within g.P.Plot.held c.args.self.now.plots c.args.section c.args.plot
          (c.args.self.now.reach.first + 1) c.args.self.now.reach.end (c.widen.new.self.first + 1)
          c.widen.new.self.end range (omega arith) (omega (arith, reach.first)) (omega (arith, reach.end))
          (omega (arith, reach.first, range.0)) (omega (arith, reach.end)) c.args.self.now.within);
    }

pub returns : goal.returns
returns g c =
    let at = c.number.ensures in
    rw (c.from-at.ensures, at.value)
    (held_after g.P.Plot.held c.args.self.now.plots c.args.section c.args.plot (rw at.value at at.range)
    (omega arith))
