use Rattle.std.proofs.Common.{◌∙◌, ap, refl, sym}
use Rattle.twp_land.specs.Storage.{held_by_lane}
use Rattle.twp_land.proofs.LotSections.{whole_of_none}
use Rattle.twp_land.proofs.lots.holds_whole_lots.Goals as goal

pub returns-then-same_plot : goal.returns-then-same_plot
returns-then-same_plot c = (
  λ _ lot. whole_of_none c.args.section lot (held_by_lane c.args.lanes.now) (λ column row.
      ap (λ h. h column row) (sym c.of_lanes.ensures)
      ∙ c.same_plot.ensures.0 c.if-same_plot.true column row
      ∙ ap (λ h. h column row) c.empty.ensures),
  λ _. refl,
)
