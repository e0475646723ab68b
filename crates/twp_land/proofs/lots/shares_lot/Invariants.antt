use Rattle.std.proofs.Common.{◌≡◌, ℕ, ◌<◌, ◌≤◌, true, Some}
use Rattle.twp_grid.specs.Places.{PLACE_DIGITS}
use Rattle.twp_grid.specs.Spans.{in_rectangle}
use Rattle.twp_grid.specs.Lands.{lot_of_place}
use Rattle.twp_land.proofs.lots.shares_lot.Given as goal

-- the lots so far have no place in the block
abbrev pub invariant-loop-lot : goal.invariant-loop-lot
invariant-loop-lot l =
    (lot column row : ℕ) → 1 ≤ lot → lot < l.lot → in_rectangle l.block column row ≡ true
    → lot_of_place PLACE_DIGITS l.section column row ≡ Some lot → ⊥
