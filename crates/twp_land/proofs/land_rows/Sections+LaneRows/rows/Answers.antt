-- The rows of one more section are those of the set.
use Rattle.std.proofs.Common.{◌≡◌, ℕ, ◌+◌, ◌-◌, Bool, ap, sym, ◌∙◌, arith, length-set}
use Rattle.twp_grid.specs.Winding.{IsSection}
use Rattle.twp_land.specs.Storage.{held_by_section, held_by_lane, land_of_rows}
use Rattle.twp_land.proofs.LandFacts.{held_after}
use Rattle.twp_land.proofs.LotFacts.{section_is}
use Rattle.twp_land.proofs.RowLands.{places_to, to_all, alike_next}
use Rattle.twp_land.proofs.land_rows.Sections+LaneRows.rows.Goals as goal

pub loop-number-preserved : goal.loop-number-preserved
loop-number-preserved c =
    let at = c.loop-number.invariant in
    let number : ℕ = c.loop-number.number in
    let places : ℕ → ℕ → ℕ → Bool = held_by_section (λ plot. held_by_lane plot.lanes) c.args.self.now.plots in
    let is : c.unwrap-section.result ≡ number =
    section_is number c.unwrap-section.result _ c.new.ensures c.unwrap-section.ensures in
    let range : IsSection number = (at.first, omega arith) in
    let part : held_by_lane c.lanes.result ≡ places number =
    c.lanes.ensures ∙ sym c.plot.ensures ∙ ap places is in
    let put = held_after held_by_lane c.loop-number.rows number c.lanes.result range at.all in
    rw c.from.ensures (record {
      all = length-set c.loop-number.rows (number - 1) c.lanes.result ∙ at.all;
      alike =
          ap (λ p. places_to (number + 1 - 1) p) put
          ∙ alike_next (land_of_rows c.loop-number.rows) places number (held_by_lane c.lanes.result) at.first
          at.alike part;
      first = omega arith;
    })

pub returns : goal.returns
returns c =
    let at = c.loop-number.invariant in
    sym (to_all held_by_lane c.loop-number.rows (c.loop-number.number - 1) (omega arith))
    ∙ at.alike
    ∙ to_all _ c.args.self.now.plots (c.loop-number.number - 1) (omega arith)
