-- The places of one more section are made.
use Rattle.std.proofs.Common.{◌≡◌, ℕ, ◌+◌, ◌&&◌, [], refl, sym, ◌∙◌, arith, length-set}
use Rattle.twp_grid.specs.Lands.{intersection}
use Rattle.twp_land.specs.Storage.{held_by_lane, land_of_rows, held_by_both}
use Rattle.twp_land.proofs.LandFacts.{kept_at}
use Rattle.twp_land.proofs.RowLands.{to_all}
use Rattle.twp_land.proofs.MadeLands.{made_first, made_next, made_to_all}
use Rattle.twp_land.proofs.row_combining.write_intersection.Goals as goal

pub loop-index-init : goal.loop-index-init
loop-index-init c = record {
  all = omega arith;
  made_so_far = made_first held_by_lane (λ a b. a && b) c.args.made.now c.args.rows.now c.args.other.now refl;
}

pub loop-index-preserved : goal.loop-index-preserved
loop-index-preserved c =
    let at = c.loop-index.invariant in
    let index : ℕ = c.loop-index.index in
    let first : held_by_lane c.of_lanes-plot.result.lanes ≡ land_of_rows c.args.rows.now (index + 1) =
    c.of_lanes-plot.ensures
    ∙ sym (kept_at held_by_lane c.args.rows.now index [] (omega arith) (omega arith)) in
    let second : held_by_lane c.of_lanes.result.lanes ≡ land_of_rows c.args.other.now (index + 1) =
    c.of_lanes.ensures
    ∙ sym (kept_at held_by_lane c.args.other.now index [] (omega arith) (omega arith)) in
    let part : held_by_lane c.lanes.result
    ≡ intersection (land_of_rows c.args.rows.now) (land_of_rows c.args.other.now) (index + 1) =
    c.lanes.ensures ∙ c.keep_common_plot.ensures ∙ (λ i. held_by_both (first i) (second i)) in
    record {
      all = length-set c.loop-index.made index c.lanes.result ∙ at.all;
      made_so_far =
          made_next c.loop-index.made _ index c.lanes.result (omega arith) at.all at.made_so_far part;
    }

pub returns : goal.returns
returns c =
    let at = c.loop-index.invariant in
    sym (to_all held_by_lane c.loop-index.made c.loop-index.index (omega arith))
    ∙ at.made_so_far
    ∙ made_to_all held_by_lane (λ a b. a && b) c.args.rows.now c.args.other.now c.loop-index.index
    (omega arith) refl
