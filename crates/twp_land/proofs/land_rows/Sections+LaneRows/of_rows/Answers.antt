-- The part in one more section is put into the set, or has no places.
use Rattle.std.proofs.Common.{◌≡◌, ℕ, ◌+◌, ◌-◌, ap, sym, ◌∙◌, arith, []}
use Rattle.twp_land.specs.Storage.{held_by_lane, land_of_rows}
use Rattle.twp_land.proofs.LandFacts.{kept_at}
use Rattle.twp_land.proofs.LotFacts.{section_is}
use Rattle.twp_land.proofs.RowLands.{to_none, to_all, put_next, skip_next}
use Rattle.twp_land.proofs.land_rows.Sections+LaneRows.of_rows.Goals as goal

pub loop-number-init : goal.loop-number-init
loop-number-init c =
    record { stored = c.empty-land.ensures ∙ to_none held_by_lane c.args.rows.now; first = omega arith }

pub loop-number-preserved-then-same_plot : goal.loop-number-preserved-then-same_plot
loop-number-preserved-then-same_plot c =
    let at = c.loop-number.invariant in
    let rows = c.args.rows.now in
    let number : ℕ = c.loop-number.number in
    let back : number - 1 + 1 ≡ number = omega (arith, at.first) in
    let part : held_by_lane c.of_lanes-plot.result.lanes ≡ land_of_rows rows number =
    rw c.from.ensures at c.of_lanes-plot.ensures
    ∙ sym (kept_at held_by_lane rows (number - 1) [] (omega arith) (omega arith))
    ∙ ap (λ n. land_of_rows rows n) back in
    let same = c.same_plot.ensures.0 c.if-same_plot.true in
    record {
      stored = skip_next _ (land_of_rows rows) number at.first at.stored (λ column row.
          ap (λ h. h column row) (sym part)
          ∙ same column row
          ∙ ap (λ h. h column row) c.empty.ensures);
      first = omega arith;
    }

pub loop-number-preserved : goal.loop-number-preserved
loop-number-preserved c =
    let at = c.loop-number.invariant in
    let rows = c.args.rows.now in
    let number : ℕ = c.loop-number.number in
    let back : number - 1 + 1 ≡ number = omega (arith, at.first) in
    let part : held_by_lane c.of_lanes-plot.result.lanes ≡ land_of_rows rows number =
    rw c.from.ensures at c.of_lanes-plot.ensures
    ∙ sym (kept_at held_by_lane rows (number - 1) [] (omega arith) (omega arith))
    ∙ ap (λ n. land_of_rows rows n) back in
    let is : c.unwrap-section.result ≡ number =
    section_is number c.unwrap-section.result _ c.new.ensures c.unwrap-section.ensures in
    record {
      stored =
          rw is at c.put.ensures ∙ put_next _ (land_of_rows rows) number _ at.first at.stored part;
      first = omega arith;
    }

pub returns : goal.returns
returns c =
    c.loop-number.invariant.stored
    ∙ to_all held_by_lane c.args.rows.now (c.loop-number.number - 1) (omega arith)
