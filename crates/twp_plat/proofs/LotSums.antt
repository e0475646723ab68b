-- Sums over the places of land with whole lots: over its lots, and its places off the lots.
use Rattle.std.proofs.Common.{◌≡◌, ◌==◌, ℕ, ◌+◌, ◌*◌, ◌<◌, ◌≤◌, ◌&&◌, Bool, true, false, List, []}
use Rattle.std.proofs.Common.{◌∷◌, Option, Some, None, ap, refl, sym, ◌∙◌, arith, cond}
use Rattle.std.proofs.Common.{if◌then◌else◌, is_none}
use Rattle.std.specs.Prelude.{filter, sum_by}
use Rattle.std.specs.Option.{option_map_or}
use Rattle.std.proofs.lemmas.Bool.{eq-eqb, ne_eqb}
use Rattle.std.proofs.lemmas.List.Sums.{sum_by-cons}
use Rattle.std.proofs.lemmas.Nat.{div-mul-add, mul-le}
use Rattle.twp_grid.specs.Winding.{SECTION_COUNT}
use Rattle.twp_grid.specs.Lots.{POSITIONS_ACROSS, Lot, lot, lots, lot_at_position}
use Rattle.twp_grid.specs.Places.{places_across, places_to_position, position_along}
use Rattle.twp_grid.specs.Spans.{whole_block, position_block}
use Rattle.twp_grid.specs.Spans.{total, total_over, one_where, over_positions}
use Rattle.twp_grid.proofs.TotalFacts.{total-ext, total-same, total-scale, total-both, total-swap}
use Rattle.twp_grid.proofs.TotalFacts.{total-all_zero}
use Rattle.twp_grid.proofs.TilingFacts.{position_has_places}
use Rattle.twp_grid.specs.Lands.{count_held}
use Rattle.twp_grid.specs.Lands.{lot_of_place, IsWholeOrNot, HasWholeLots}
use Rattle.twp_grid.specs.Lands.{off_lots}
use Rattle.twp_grid.specs.Lands.{standard_lots}
use Rattle.twp_plat.specs.LandAreas.{places_of_position, piece_where_held, section_sum}
use Rattle.twp_plat.specs.LandAreas.{township_sum}
use Rattle.twp_plat.specs.PlatAccounts.{holds_lot, lots_held, places_off_lots}
use Rattle.twp_plat.specs.steps.Accounts.{position_units}
use Rattle.twp_plat.proofs.PositionSums.{positions-ext, positions-both, positions-scale}
use Rattle.twp_plat.proofs.PositionSums.{total_blocks}

-- the sum over a section's places by positions of p by p places each
by_fours : (p : ℕ) (f : ℕ → ℕ → ℕ) → total (4 * p) (λ up. total (4 * p) (λ along. f (0 + along) (0 + up)))
    ≡ over_positions (λ column row.
    total p (λ up. total p (λ along. f (column * p + along) (row * p + up))))
by_fours p f =
    total-ext (4 * p) _ (λ up. total (4 * p) (λ along. f along up))
    (λ up _. total-ext (4 * p) _ (λ along. f along up) (λ along _. at along up))
    ∙ total_blocks 4 p (λ up. total (4 * p) (λ along. f along up))
    ∙ total-ext 4 (λ row. total p (λ up. total (4 * p) (λ along. f along (row * p + up)))) _
    (λ row _. in_rows row)
  where
    at : (along up : ℕ) → f (0 + along) (0 + up) ≡ f along up
    at along up =
        let e : 0 + along ≡ along = omega arith in
        let e' : 0 + up ≡ up = omega arith in
        ap (λ c. f c (0 + up)) e ∙ ap (λ r. f along r) e'

    in_rows : (row : ℕ) → total p (λ up. total (4 * p) (λ along. f along (row * p + up)))
        ≡ total 4 (λ column. total p (λ up. total p (λ along. f (column * p + along) (row * p + up))))
    in_rows row =
        total-ext p (λ up. total (4 * p) (λ along. f along (row * p + up)))
        (λ up. total 4 (λ column. total p (λ along. f (column * p + along) (row * p + up))))
        (λ up _. total_blocks 4 p (λ along. f along (row * p + up)))
        ∙ total-swap p 4 (λ up column. total p (λ along. f (column * p + along) (row * p + up)))

pub by_position : (g : ℕ) → POSITIONS_ACROSS ≤ places_across g → (f : ℕ → ℕ → ℕ)
    → total_over (whole_block g) f
    ≡ over_positions (λ column row. total_over (position_block g column row) f)
by_position g fits f =
    ap (λ n. total n (λ up. total n (λ along. f (0 + along) (0 + up)))) (position_has_places g fits).1
    ∙ by_fours (places_to_position g) f

-- how many of a position's places the set contains
abbrev pub held_of : ℕ → (ℕ → ℕ → Bool) → ℕ → ℕ → ℕ
held_of g held column row = count_held held (position_block g column row)

-- the sum over a position's places is its units times the number of its places in the set
position_sum : (g : ℕ) (units : ℕ → ℕ → ℕ) (held : ℕ → ℕ → Bool) (column row : ℕ)
    → total_over (position_block g column row) (piece_where_held g units held)
    ≡ units column row * held_of g held column row
position_sum g units held column row =
    let p : ℕ = places_to_position g in
    total-ext p (λ up. total p (λ along. piece_where_held g units held (column * p + along) (row * p + up)))
    (λ up. units column row * total p (λ along. one_where (held (column * p + along) (row * p + up))))
    (λ up in_up.
    total-ext p (λ along. piece_where_held g units held (column * p + along) (row * p + up))
    (λ along. units column row * one_where (held (column * p + along) (row * p + up)))
    (λ along in_along.
    rw (div-mul-add column p along in_along, div-mul-add row p up in_up)
    (where_held (held (column * p + along) (row * p + up)) (units column row)))
    ∙ total-scale p (units column row) (λ along. one_where (held (column * p + along) (row * p + up))))
    ∙ total-scale p (units column row)
    (λ up. total p (λ along. one_where (held (column * p + along) (row * p + up))))
  where
    where_held : (b : Bool) (u : ℕ) → (if b then u else 0) ≡ u * one_where b
    where_held true u = omega arith
    where_held false u = omega arith

-- the places of a position are all off the lots, or none are
off_of : (g section column row : ℕ) (held : ℕ → ℕ → Bool)
    → held_of g (off_lots (standard_lots g) section held) column row
    ≡ (if is_none (lot_at_position section column row) then held_of g held column row else 0)
off_of g section column row held =
    let p : ℕ = places_to_position g in
    total-ext p (λ up. total p
    (λ along. one_where (off_lots (standard_lots g) section held (column * p + along) (row * p + up))))
    (λ up. total p (λ along.
    one_where (held (column * p + along) (row * p + up) && is_none
    (lot_at_position section column row)))) (λ up in_up.
    total-ext p
    (λ along. one_where (off_lots (standard_lots g) section held (column * p + along) (row * p + up)))
    (λ along. one_where (held (column * p + along) (row * p + up) && is_none
    (lot_at_position section column row))) (λ along in_along.
    rw (div-mul-add column p along in_along, div-mul-add row p up in_up) refl))
    ∙ by_test (is_none (lot_at_position section column row))
  where
    both : (b : Bool) → one_where (b && true) ≡ one_where b
    both true = refl
    both false = refl

    neither : (b : Bool) → one_where (b && false) ≡ 0
    neither true = refl
    neither false = refl

    by_test : (test : Bool)
        → total (places_to_position g)
        (λ up. total (places_to_position g)
        (λ along. one_where (held (column * places_to_position g + along)
        (row * places_to_position g + up) && test))) ≡ (if test then held_of g held column row else 0)
    by_test true = total-ext (places_to_position g) _ _
        (λ up _. total-ext (places_to_position g) _ _
        (λ along _. both (held (column * places_to_position g + along) (row * places_to_position g + up))))
    by_test false = total-all_zero (places_to_position g) _
        (λ up _. total-all_zero (places_to_position g) _
        (λ along _. neither (held (column * places_to_position g + along)
        (row * places_to_position g + up))))

-- a lot is contained wholly or not at all
all_or_none : (g section number column row : ℕ) (held : ℕ → ℕ → Bool) → 0 < places_to_position g
    → IsWholeOrNot (standard_lots g) section number held → lot_at_position section column row ≡ Some number
    → held_of g held column row
    ≡ places_of_position g * one_where
    (held (column * places_to_position g) (row * places_to_position g))
all_or_none g section number column row held some whole is =
    let p : ℕ = places_to_position g in
    total-ext p (λ up. total p (λ along. one_where (held (column * p + along) (row * p + up))))
    (λ up. p * one_where (held (column * p) (row * p))) (λ up in_up.
    total-ext p (λ along. one_where (held (column * p + along) (row * p + up)))
    (λ along. one_where (held (column * p) (row * p))) (λ along in_along.
    ap one_where (alike along up in_along in_up))
    ∙ total-same p (one_where (held (column * p) (row * p))))
    ∙ total-same p (p * one_where (held (column * p) (row * p)))
    ∙ order p (one_where (held (column * p) (row * p)))
  where
    order : (p one : ℕ) → p * (p * one) ≡ p * p * one
    order p one = omega arith

    first : (position : ℕ) → position_along g (position * places_to_position g) ≡ position
    first position =
        let zeroth : position * places_to_position g + 0 ≡ position * places_to_position g = omega arith in
        rw zeroth at (div-mul-add position (places_to_position g) 0 some)

    alike : (along up : ℕ) → along < places_to_position g → up < places_to_position g
        → held (column * places_to_position g + along) (row * places_to_position g + up)
        ≡ held (column * places_to_position g) (row * places_to_position g)
    alike along up in_along in_up =
        let p : ℕ = places_to_position g in
        let there : lot_of_place g section (column * p + along) (row * p + up) ≡ Some number =
        rw (div-mul-add column p along in_along, div-mul-add row p up in_up) is in
        let at : lot_of_place g section (column * p) (row * p) ≡ Some number =
        rw (first column, first row) is in
        whole.alike (column * p + along) (row * p + up) (column * p) (row * p) there at

-- the units of a position's lot, if the set contains it
abbrev lot_value : (g : ℕ) → (ℕ → ℕ → ℕ) → (section : ℕ) → (ℕ → ℕ → Bool) → ℕ → ℕ → ℕ
lot_value g lot_units section held column row =
    option_map_or (λ number. if held_of g held column row ==
    places_of_position g then lot_units section number else 0) (lot_at_position section column row) 0

-- the amount for a position: its lot, if the set contains it, and its places off the lots
at_position : (g : ℕ) (lot_units : ℕ → ℕ → ℕ) (regular section : ℕ) (held : ℕ → ℕ → Bool) (column row : ℕ)
    (found : Option ℕ) → 0 < places_to_position g
    → ((number : ℕ) → IsWholeOrNot (standard_lots g) section number held)
    → lot_at_position section column row ≡ found
    → position_units lot_units regular section column row * held_of g held column row
    ≡ places_of_position g * lot_value g lot_units section held column row + regular * held_of g
    (off_lots (standard_lots g) section held) column row
at_position g lot_units regular section held column row None some whole there =
    let off = off_of g section column row held in
    rw (off, there) (none regular (held_of g held column row) (places_of_position g))
  where
    none : (r h n : ℕ) → r * h ≡ n * 0 + r * h
    none r h n = omega arith
at_position g lot_units regular section held column row (Some number) some whole there =
    let off = off_of g section column row held in
    let all = all_or_none g section number column row held some (whole number) there in
    rw (off, there) (rw all
    (by_test (held (column * places_to_position g) (row * places_to_position g))
    (lot_units section number) (places_of_position g) regular (square (places_to_position g) some)))
  where
    square : (p : ℕ) → 0 < p → 0 < p * p
    square p some = let least = mul-le 1 1 p p some some in omega arith

    by_test : (b : Bool) (u n r : ℕ) → 0 < n → u * (n * one_where b)
        ≡ n * (if n * one_where b == n then u else 0) + r * 0
    by_test true u n r some =
        let same : (n * 1 == n) ≡ true = eq-eqb (n * 1) n (omega arith) in
        rw same (omega arith)
    by_test false u n r some =
        let differs : (n * 0 == n) ≡ false = ne_eqb (n * 0) n (λ e. absurd (omega arith)) in
        rw differs (omega arith)

-- the amount for a section
of_section : (g : ℕ) → POSITIONS_ACROSS ≤ places_across g
    → (lot_units : ℕ → ℕ → ℕ) (regular section : ℕ) (held : ℕ → ℕ → Bool)
    → ((number : ℕ) → IsWholeOrNot (standard_lots g) section number held)
    → section_sum g (position_units lot_units regular section) held
    ≡ places_of_position g * over_positions (lot_value g lot_units section held) + regular * count_held
    (off_lots (standard_lots g) section held) (whole_block g)
of_section g fits lot_units regular section held whole =
    let units : ℕ → ℕ → ℕ = position_units lot_units regular section in
    let value : ℕ → ℕ → ℕ = lot_value g lot_units section held in
    let off : ℕ → ℕ → ℕ = held_of g (off_lots (standard_lots g) section held) in
    let n : ℕ = places_of_position g in
    let some = (position_has_places g fits).0 in
    by_position g fits (piece_where_held g units held)
    ∙ positions-ext (λ column row. total_over (position_block g column row) (piece_where_held g units held))
    (λ column row. n * value column row + regular * off column row) (λ column row _ _.
    position_sum g units held column row
    ∙ at_position g lot_units regular section held column row (lot_at_position section column row) some
    whole refl)
    ∙ positions-both (λ column row. n * value column row) (λ column row. regular * off column row)
    ∙ ap (λ t. t + over_positions (λ column row. regular * off column row)) (positions-scale n value)
    ∙ ap (λ t. n * over_positions value + t) (positions-scale regular off)
    ∙ ap (λ t. n * over_positions value + regular * t)
    (sym (by_position g fits (λ column row. one_where (off_lots (standard_lots g) section held column row))))

-- a function's value at the lot that fills a position, or 0 if none does
abbrev pub at_lot : (Lot → ℕ) → ℕ → ℕ → ℕ → ℕ
at_lot f section column row =
    option_map_or (λ number. f (lot section number column row)) (lot_at_position section column row) 0

-- the sum over the table of lots, section by section and position by position
pub over_table : (f : Lot → ℕ)
    → sum_by f lots ≡ total SECTION_COUNT (λ before. over_positions (at_lot f (before + 1)))
unfolding total lots lot_at_position
over_table f = omega arith

-- a sum over the numbers that pass a test
pub filtered : (test : Lot → Bool) (f : Lot → ℕ) (table : List Lot) → sum_by f (filter test table)
    ≡ sum_by (λ l. if test l then f l else 0) table
filtered test f [] = refl
filtered test f (l ∷ table) = by_test (test l) refl (filtered test f table)
  where
    by_test : (b : Bool) → test l ≡ b → sum_by f (filter test table)
        ≡ sum_by (λ l. if test l then f l else 0) table
        → sum_by f (cond (test l) (l ∷ filter test table) (filter test table))
        ≡ sum_by (λ l. if test l then f l else 0) (l ∷ table)
    by_test true is rest =
        let left : sum_by f (cond (test l) (l ∷ filter test table) (filter test table))
        ≡ f l + sum_by f (filter test table) = rw is (sum_by-cons f l (filter test table)) in
        let first : (if test l then f l else 0) ≡ f l = rw is refl in
        let right = sum_by-cons (λ l. if test l then f l else 0) l table in
        omega (arith, left, first, right, rest)
    by_test false is rest =
        let left : sum_by f (cond (test l) (l ∷ filter test table) (filter test table))
        ≡ sum_by f (filter test table) = rw is refl in
        let first : (if test l then f l else 0) ≡ 0 = rw is refl in
        let right = sum_by-cons (λ l. if test l then f l else 0) l table in
        omega (arith, left, first, right, rest)

-- the sum over all places is the sum over the lots and the places off the lots
pub sum_by_lots : (g : ℕ) → POSITIONS_ACROSS ≤ places_across g
    → (lot_units : ℕ → ℕ → ℕ) (regular : ℕ) (places : ℕ → ℕ → ℕ → Bool)
    → HasWholeLots (standard_lots g) places
    → places_of_position g * sum_by (λ l. lot_units l.section l.number)
    (lots_held g places) + regular * places_off_lots g places
    ≡ township_sum g (position_units lot_units regular) places
sum_by_lots g fits lot_units regular places whole =
    let n : ℕ = places_of_position g in
    let value : ℕ → ℕ = λ before. over_positions
    (lot_value g lot_units (before + 1) (places (before + 1))) in
    let off : ℕ → ℕ = λ before. count_held (off_lots (standard_lots g) (before + 1) (places (before + 1)))
    (whole_block g) in
    let lots_are : sum_by (λ l. lot_units l.section l.number) (lots_held g places) ≡ total 36 value =
    filtered (holds_lot g places) (λ l. lot_units l.section l.number) lots
    ∙ over_table (λ l. if holds_lot g places l then lot_units l.section l.number else 0) in
    let sum : township_sum g (position_units lot_units regular) places
    ≡ n * total 36 value + regular * total 36 off =
    total-ext 36 (λ before. section_sum g (position_units lot_units regular (before + 1))
    (places (before + 1))) (λ before. n * value before + regular * off before) (λ before below.
    of_section g fits lot_units regular (before + 1) (places (before + 1))
    (λ number. whole (before + 1) number (omega arith, omega arith)))
    ∙ total-both 36 (λ before. n * value before) (λ before. regular * off before)
    ∙ ap (λ t. t + total 36 (λ before. regular * off before)) (total-scale 36 n value)
    ∙ ap (λ t. n * total 36 value + t) (total-scale 36 regular off) in
    ap (λ t. n * t + regular * total 36 off) lots_are ∙ sym sum
