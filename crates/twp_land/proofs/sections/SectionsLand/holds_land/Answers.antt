-- A section in which the set lacks a place of the other, or no such section.
use Rattle.std.proofs.Common.{arith, refl}
use Rattle.twp_land.proofs.TakenLands.{contains_at, contains_next}
use Rattle.twp_land.proofs.sections.SectionsLand.holds_land.Goals as goal

pub loop-index-init : goal.loop-index-init
loop-index-init g c section column row most held =
    let lies = c.args.other.now.within section column row held in absurd (omega (arith, lies.0))

pub returns-then-not-holds_plot : goal.returns-then-not-holds_plot
returns-then-not-holds_plot g c = (
  λ h. cc h,
  λ contains.
      cc
      (c.holds_plot.ensures.1
      (contains_at g.P.Plot.held c.args.self.now.plots c.args.other.now.plots c.loop-index.index
      c.index-self-index.result c.index-other-index.result (omega arith) (omega arith) (omega arith)
      contains)),
)

pub loop-index-preserved : goal.loop-index-preserved
loop-index-preserved g c =
    contains_next g.P.Plot.held c.args.self.now.plots c.args.other.now.plots c.loop-index.index
    c.index-self-index.result c.index-other-index.result (omega arith) (omega arith) (omega arith)
    (c.holds_plot.ensures.0 c.if-not-holds_plot.false) c.loop-index.invariant

pub returns : goal.returns
returns g c = (
  λ _. λ section column row held.
      c.loop-index.invariant section column row
      (omega (arith, (c.args.other.now.within section column row held).1)) held,
  λ _. refl,
)
