-- Land in which each place is divided into four: its lots, and how many places it contains.
use Rattle.std.proofs.Common.{◌≡◌, ℕ, suc, ◌*◌, ◌/◌, ◌≤◌, ◌&&◌, Bool, is_none, ap, ◌∙◌}
use Rattle.std.proofs.Math.Path.{fun_ext}
use Rattle.twp_grid.specs.Lots.{POSITIONS_ACROSS, lot_at_position}
use Rattle.twp_grid.specs.Places.{places_across, position_along}
use Rattle.twp_grid.specs.Spans.{whole_block, position_block}
use Rattle.twp_grid.specs.Spans.{one_where}
use Rattle.twp_grid.proofs.FinerPlaces.{same_position, whole_finer, position_finer}
use Rattle.twp_grid.specs.Lands.{count_held}
use Rattle.twp_grid.specs.FinerLands.{cut_in_four}
use Rattle.twp_grid.specs.Lands.{lot_of_place, off_lots}
use Rattle.twp_grid.specs.Lands.{standard_lots}

-- a place lies in the same lot as the larger place that contains it
pub same_lot : (g section column row : ℕ) → POSITIONS_ACROSS ≤ places_across g
    → lot_of_place (suc g) section column row ≡ lot_of_place g section (column / 2) (row / 2)
same_lot g section column row fits =
    ap (λ c. lot_at_position section c (position_along (suc g) row)) (same_position g column fits)
    ∙ ap (λ r. lot_at_position section (position_along g (column / 2)) r) (same_position g row fits)

pub same_off_lots : (g section : ℕ) (held : ℕ → ℕ → Bool) → POSITIONS_ACROSS ≤ places_across g
    → off_lots (standard_lots (suc g)) section (cut_in_four held)
    ≡ cut_in_four (off_lots (standard_lots g) section held)
same_off_lots g section held fits =
    fun_ext (λ column. fun_ext (λ row.
    ap (λ lot. held (column / 2) (row / 2) && is_none lot) (same_lot g section column row fits)))

-- four places for each larger one
pub count_of_section : (g : ℕ) (held : ℕ → ℕ → Bool)
    → count_held (cut_in_four held) (whole_block (suc g)) ≡ 4 * count_held held (whole_block g)
count_of_section g held = whole_finer g (λ column row. one_where (held column row))

pub count_of_position : (g column row : ℕ) (held : ℕ → ℕ → Bool) → POSITIONS_ACROSS ≤ places_across g
    → count_held (cut_in_four held) (position_block (suc g) column row)
    ≡ 4 * count_held held (position_block g column row)
count_of_position g column row held fits = position_finer g column row (λ c r. one_where (held c r)) fits
