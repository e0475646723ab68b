use Rattle.std.proofs.Common.{◌≡◌, ℕ, ◌+◌, ◌-◌, ◌*◌, ◌≤◌}
use Rattle.twp_grid.specs.Places.{PLACE_DIGITS}
use Rattle.twp_grid.specs.Spans.{whole_block}
use Rattle.twp_grid.specs.Lands.{count_held}
use Rattle.twp_plat.specs.Closing.{CLOSING_MOST}
use Rattle.twp_grid.specs.Spans.{over_positions}
use Rattle.twp_plat.specs.steps.Accounts.{over_by, AreUnitsBy}
use Rattle.twp_plat.proofs.SectionSums.{of_lots, places_where, piece_where}
use Rattle.twp_plat.proofs.land_area.units_with_lots.Given as goal

-- for the lots so far, their places are subtracted and their pieces are added
abbrev pub invariant-loop-lot : goal.invariant-loop-lot
invariant-loop-lot g l =
    let held = g.L.PlaceSet.places l.land l.section in
    record {
      taken : l.off_lots + over_positions (of_lots l.section l.lot (places_where held))
          ≡ count_held held (whole_block PLACE_DIGITS);
      gained : (pieces : ℕ → ℕ → ℕ → ℕ) → AreUnitsBy l.account l.plat pieces
          → l.units ≡ over_positions (of_lots l.section l.lot (piece_where held (pieces l.section)));
      most : l.units ≤ (l.lot - 1) * (CLOSING_MOST * CLOSING_MOST * over_by l.account l.plat);
      first : 1 ≤ l.lot;
    }
