use Rattle.std.proofs.Common.{◌∙◌, sym, ap}
use Rattle.twp_land.proofs.row_comparing.are_empty.Goals as goal

pub returns : goal.returns
returns c =
    let joined = rw (c.of_lanes-either.ensures, c.of_lanes.ensures) at c.add_plot.ensures in (
      λ same column row.
          ap (λ h. h column row) (sym joined)
          ∙ c.same_plot.ensures.0 same column row
          ∙ ap (λ h. h column row) c.empty.ensures,
      λ none. c.same_plot.ensures.1 (λ column row.
          ap (λ h. h column row) joined
          ∙ none column row
          ∙ ap (λ h. h column row) (sym c.empty.ensures)),
    )
