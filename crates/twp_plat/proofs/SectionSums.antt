-- The land in a section: its lots, and its places off the lots.
use Rattle.std.proofs.Common.{◌≡◌, ◌≢◌, ℕ, ◌+◌, ◌*◌, ◌<◌, ◌≤◌, Bool, true, false, Option, Some, None, ap}
use Rattle.std.proofs.Common.{refl, sym, ◌∙◌, arith, if◌then◌else◌, nat_lt}
use Rattle.std.proofs.lemmas.Bool.Decides.{nat_tests}
use Rattle.twp_grid.specs.Winding.{IsSection}
use Rattle.twp_grid.specs.Lots.{IsPosition, lot_at_position, position_of_lot, number_of_lots}
use Rattle.twp_grid.specs.Places.{PLACE_DIGITS, position_along}
use Rattle.twp_grid.specs.Spans.{whole_block, position_block, in_rectangle}
use Rattle.twp_grid.specs.Spans.{total, total_over, one_where, over_positions}
use Rattle.twp_grid.proofs.TotalFacts.{total-ext, total-same, total-scale, total-le, total-all_zero}
use Rattle.twp_grid.specs.Lands.{count_held, Meets}
use Rattle.twp_grid.specs.Lands.{lot_of_place, IsWholeOrNot}
use Rattle.twp_grid.specs.Lands.{STANDARD_LOTS}
use Rattle.twp_land.proofs.LotFacts.{fills, has_lot}
use Rattle.twp_plat.specs.LandAreas.{piece_where_held, section_sum}
use Rattle.twp_plat.specs.steps.Bounds.{ACROSS, TO_POSITION, OF_POSITION, SECTION_PLACES_MOST}
use Rattle.twp_plat.specs.steps.Bounds.{REGULAR_UNITS, REGULAR_PLACE_UNITS}
use Rattle.twp_plat.proofs.PositionSums.{positions-ext, positions-le, positions-zero, positions-both}
use Rattle.twp_plat.proofs.PositionSums.{positions-scale, positions_differ, by_position}

-- the lot has a number less than n
abbrev pub is_below : Option ℕ → ℕ → Bool
is_below None n = false
is_below (Some lot) n = nat_lt lot n

-- a function's value at a position whose lot has a number less than n; otherwise 0
abbrev pub of_lots : ℕ → ℕ → (ℕ → ℕ → ℕ) → ℕ → ℕ → ℕ
of_lots section n f column row = if is_below (lot_at_position section column row) n then f column row else 0

-- a function's value at the other positions
abbrev pub off_lots : ℕ → ℕ → (ℕ → ℕ → ℕ) → ℕ → ℕ → ℕ
off_lots section n f column row = if is_below (lot_at_position section column row) n then 0 else f column row

-- the number of a position's places, if the set contains its first place; otherwise 0
abbrev pub places_where : (ℕ → ℕ → Bool) → ℕ → ℕ → ℕ
places_where held column row = if held (column * TO_POSITION) (row * TO_POSITION) then OF_POSITION else 0

-- a position's piece, if the set contains its first place; otherwise 0
abbrev pub piece_where : (ℕ → ℕ → Bool) → (ℕ → ℕ → ℕ) → ℕ → ℕ → ℕ
piece_where held pieces column row =
    if held (column * TO_POSITION) (row * TO_POSITION) then pieces column row else 0

-- the same number, by a test of the first place
pub places_held : (held : ℕ → ℕ → Bool) (column row : ℕ) (test : Bool)
    → test ≡ held (column * TO_POSITION) (row * TO_POSITION)
    → test ≡ true → places_where held column row ≡ OF_POSITION
places_held held column row test is holds = ap (λ b. if b then OF_POSITION else 0) (sym is ∙ holds)

pub places_not_held : (held : ℕ → ℕ → Bool) (column row : ℕ) (test : Bool)
    → test ≡ held (column * TO_POSITION) (row * TO_POSITION) → test ≡ false → places_where held column row ≡ 0
places_not_held held column row test is holds = ap (λ b. if b then OF_POSITION else 0) (sym is ∙ holds)

pub piece_held : (held : ℕ → ℕ → Bool) (pieces : ℕ → ℕ → ℕ) (column row : ℕ) (test : Bool)
    → test ≡ held (column * TO_POSITION) (row * TO_POSITION) → test ≡ true
    → piece_where held pieces column row ≡ pieces column row
piece_held held pieces column row test is holds =
    ap (λ b. if b then pieces column row else 0) (sym is ∙ holds)

pub piece_not_held : (held : ℕ → ℕ → Bool) (pieces : ℕ → ℕ → ℕ) (column row : ℕ) (test : Bool)
    → test ≡ held (column * TO_POSITION) (row * TO_POSITION) → test ≡ false
    → piece_where held pieces column row ≡ 0
piece_not_held held pieces column row test is holds =
    ap (λ b. if b then pieces column row else 0) (sym is ∙ holds)

-- how many of a position's places the set contains
abbrev pub held_of : (ℕ → ℕ → Bool) → ℕ → ℕ → ℕ
held_of held column row = count_held held (position_block PLACE_DIGITS column row)

-- no lots come before lot 1
pub of_lots-none : (section : ℕ) (f : ℕ → ℕ → ℕ) → IsSection section
    → over_positions (of_lots section 1 f) ≡ 0
of_lots-none section f range = positions-zero (of_lots section 1 f) (λ column row in_column in_row.
    go column row (lot_at_position section column row) refl)
  where
    go : (column row : ℕ) (lot : Option ℕ) → lot_at_position section column row ≡ lot
        → of_lots section 1 f column row ≡ 0
    go column row None is = rw is refl
    go column row (Some lot) is =
        let there = fills section column row lot range is in
        let least : 1 ≤ lot = there.least in
        let test : nat_lt lot 1 ≡ false = grind (arith, nat_tests) in
        rw (is, test) refl

-- one more lot
pub of_lots-next : (section n column row : ℕ) (f : ℕ → ℕ → ℕ) → IsSection section → n ≤ number_of_lots section
    → IsPosition column row → position_of_lot section n ≡ Some (column, row)
    → over_positions (of_lots section (n + 1) f) ≡ over_positions (of_lots section n f) + f column row
of_lots-next section n column row f range most position is =
    let here = has_lot section n column row range most is in
    let below : nat_lt n n ≡ false = grind (arith, nat_tests) in
    let next : nat_lt n (n + 1) ≡ true = grind (arith, nat_tests) in
    let before : of_lots section n f column row ≡ 0 = rw (here, below) refl in
    let after : of_lots section (n + 1) f column row ≡ f column row = rw (here, next) refl in
    let differ =
    positions_differ column row (of_lots section n f) (of_lots section (n + 1) f) position.0 position.1
    (λ c r in-c in-r other. same c r (lot_at_position section c r) refl other) in
    omega arith
  where
    passed : (lot : ℕ) → lot ≢ n → nat_lt lot (n + 1) ≡ nat_lt lot n
    passed lot other = grind (arith, nat_tests)

    same : (c r : ℕ) (lot : Option ℕ) → lot_at_position section c r ≡ lot → ((c ≡ column) × (r ≡ row) → ⊥)
        → of_lots section (n + 1) f c r ≡ of_lots section n f c r
    same c r None there other = rw there refl
    same c r (Some lot) there other =
        let differs : lot ≢ n = λ e.
        let filled = fills section c r lot range there in
        let at : position_of_lot section n ≡ Some (c, r) = rw e at filled.position in
        let place : ℕ × ℕ = (c, r) in
        let place' : ℕ × ℕ = (column, row) in
        let equal : place ≡ place' = cc (sym at ∙ is) in
        other (ap (λ (p : ℕ × ℕ). p.0) equal, ap (λ (p : ℕ × ℕ). p.1) equal) in
        rw (there, passed lot differs) refl

-- a section has no more than this many places
pub few_places : (held : ℕ → ℕ → Bool) → count_held held (whole_block PLACE_DIGITS) ≤ SECTION_PLACES_MOST
few_places held =
    let inner : (up : ℕ) → total ACROSS (λ along. one_where (held (0 + along) (0 + up))) ≤ ACROSS = λ up.
    let most =
    total-le ACROSS (λ along. one_where (held (0 + along) (0 + up))) (λ along. 1)
    (λ along _. one (held (0 + along) (0 + up))) in
    let ones = total-same ACROSS 1 in
    omega arith in
    let most =
    total-le ACROSS (λ up. total ACROSS (λ along. one_where (held (0 + along) (0 + up)))) (λ up. ACROSS)
    (λ up _. inner up) in
    let rows = total-same ACROSS ACROSS in
    omega arith
  where
    one : (b : Bool) → one_where b ≤ 1
    one true = omega arith
    one false = omega arith

-- the places in the set, by positions
pub held_by_position : (held : ℕ → ℕ → Bool)
    → count_held held (whole_block PLACE_DIGITS) ≡ over_positions (held_of held)
held_by_position held = by_position (λ column row. one_where (held column row))

-- a place of a position lies in it
along_position : (position k : ℕ) → k < TO_POSITION
    → position_along PLACE_DIGITS (position * TO_POSITION + k) ≡ position
along_position position k below = omega arith

-- a lot is contained wholly or not at all, as its first place shows
pub held_of_lot : (section lot column row : ℕ) (held : ℕ → ℕ → Bool)
    → IsWholeOrNot STANDARD_LOTS section lot held → lot_at_position section column row ≡ Some lot
    → held_of held column row ≡ places_where held column row
held_of_lot section lot column row held whole is =
    total-ext TO_POSITION (λ up. total TO_POSITION (λ along.
    one_where (held (column * TO_POSITION + along) (row * TO_POSITION + up))))
    (λ up. TO_POSITION * one_where (held (column * TO_POSITION) (row * TO_POSITION))) (λ up in_up.
    total-ext TO_POSITION (λ along. one_where (held (column * TO_POSITION + along) (row * TO_POSITION + up)))
    (λ along. one_where (held (column * TO_POSITION) (row * TO_POSITION))) (λ along in_along.
    ap one_where (alike along up in_along in_up))
    ∙ total-same TO_POSITION (one_where (held (column * TO_POSITION) (row * TO_POSITION))))
    ∙ total-same TO_POSITION (TO_POSITION * one_where (held (column * TO_POSITION) (row * TO_POSITION)))
    ∙ sixteen (held (column * TO_POSITION) (row * TO_POSITION))
  where
    sixteen : (b : Bool) → TO_POSITION * (TO_POSITION * one_where b) ≡ (if b then OF_POSITION else 0)
    sixteen true = refl
    sixteen false = refl

    first : (position : ℕ) → position_along PLACE_DIGITS (position * TO_POSITION) ≡ position
    first position = omega arith

    alike : (along up : ℕ) → along < TO_POSITION → up < TO_POSITION
        → held (column * TO_POSITION + along) (row * TO_POSITION + up)
        ≡ held (column * TO_POSITION) (row * TO_POSITION)
    alike along up in_along in_up =
        let there : lot_of_place PLACE_DIGITS section (column * TO_POSITION + along) (row * TO_POSITION + up)
        ≡ Some lot =
        rw (along_position column along in_along, along_position row up in_up) is in
        let at : lot_of_place PLACE_DIGITS section (column * TO_POSITION) (row * TO_POSITION) ≡ Some lot =
        rw (first column, first row) is in
        whole.alike (column * TO_POSITION + along) (row * TO_POSITION + up) (column * TO_POSITION)
        (row * TO_POSITION) there at

-- the sum over a position's places is its piece times the number of its places in the set
pub position_sum : (held : ℕ → ℕ → Bool) (pieces : ℕ → ℕ → ℕ) (column row : ℕ)
    → total_over (position_block PLACE_DIGITS column row) (piece_where_held PLACE_DIGITS pieces held)
    ≡ pieces column row * held_of held column row
position_sum held pieces column row =
    total-ext TO_POSITION
    (λ up. total TO_POSITION (λ along.
    piece_where_held PLACE_DIGITS pieces held (column * TO_POSITION + along) (row * TO_POSITION + up)))
    (λ up. pieces column row * total TO_POSITION (λ along.
    one_where (held (column * TO_POSITION + along) (row * TO_POSITION + up))))
    (λ up in_up.
    total-ext TO_POSITION (λ along.
    piece_where_held PLACE_DIGITS pieces held (column * TO_POSITION + along) (row * TO_POSITION + up))
    (λ along. pieces column row * one_where (held (column * TO_POSITION + along) (row * TO_POSITION + up)))
    (λ along in_along.
    at along up in_along in_up)
    ∙ total-scale TO_POSITION (pieces column row)
    (λ along. one_where (held (column * TO_POSITION + along) (row * TO_POSITION + up))))
    ∙ total-scale TO_POSITION (pieces column row)
    (λ up.
    total TO_POSITION (λ along. one_where (held (column * TO_POSITION + along) (row * TO_POSITION + up))))
  where
    where_held : (b : Bool) (p : ℕ) → (if b then p else 0) ≡ p * one_where b
    where_held true p = omega arith
    where_held false p = omega arith

    at : (along up : ℕ) → along < TO_POSITION → up < TO_POSITION
        → piece_where_held PLACE_DIGITS pieces held (column * TO_POSITION + along) (row * TO_POSITION + up)
        ≡ pieces column row * one_where (held (column * TO_POSITION + along) (row * TO_POSITION + up))
    at along up in_along in_up =
        rw (along_position column along in_along, along_position row up in_up)
        (where_held (held (column * TO_POSITION + along) (row * TO_POSITION + up)) (pieces column row))

-- the places that are subtracted with lots are no more than all places in the set
pub lots_within : (section n : ℕ) (held : ℕ → ℕ → Bool) → IsSection section
    → ((lot : ℕ) → IsWholeOrNot STANDARD_LOTS section lot held)
    → over_positions (of_lots section n (places_where held)) ≤ count_held held (whole_block PLACE_DIGITS)
lots_within section n held range whole =
    rw (held_by_position held)
    (positions-le (of_lots section n (places_where held)) (held_of held)
    (λ column row in_column in_row. go column row (lot_at_position section column row) refl))
  where
    at_most : (b : Bool) (k : ℕ) → (if b then k else 0) ≤ k
    at_most true k = omega arith
    at_most false k = omega arith

    go : (column row : ℕ) (lot : Option ℕ) → lot_at_position section column row ≡ lot
        → of_lots section n (places_where held) column row ≤ held_of held column row
    go column row None is = rw is (omega arith)
    go column row (Some lot) is =
        rw (held_of_lot section lot column row held (whole lot) is)
        (at_most (is_below (lot_at_position section column row) n) (places_where held column row))

-- the lots in the set and its places off the lots are the whole set
record AtPosition (over section last : ℕ) (held : ℕ → ℕ → Bool) (pieces : ℕ → ℕ → ℕ) (column row : ℕ)
    : Type 0 where
  places_are : held_of held column row
      ≡ off_lots section last (held_of held) column row + of_lots section last (places_where held) column row
  sum_is : pieces column row * held_of held column row
      ≡ OF_POSITION * of_lots section last (piece_where held pieces) column row
      + REGULAR_UNITS * over * off_lots section last (held_of held) column row

-- off its lots, the positions of a section are regular
abbrev pub AreRegular : ℕ → ℕ → (ℕ → ℕ → ℕ) → Type 0
AreRegular over section pieces =
    (column row : ℕ) → IsPosition column row → lot_at_position section column row ≡ None
    → pieces column row ≡ REGULAR_UNITS * over

at_position : (over section last : ℕ) (held : ℕ → ℕ → Bool) (pieces : ℕ → ℕ → ℕ) (column row : ℕ)
    (lot : Option ℕ)
    → AreRegular over section pieces
    → IsSection section → ((lot : ℕ) → IsWholeOrNot STANDARD_LOTS section lot held)
    → number_of_lots section < last → IsPosition column row
    → lot_at_position section column row ≡ lot → AtPosition over section last held pieces column row
at_position over section last held pieces column row None are range whole most position there =
    let regular = are column row position there in
    record {
      places_are = rw there (omega arith);
      sum_is = rw (there, regular) (omega arith);
    }
at_position over section last held pieces column row (Some lot) are range whole most position there =
    let filled = fills section column row lot range there in
    let number : lot < last = omega (arith, filled.most) in
    let test : nat_lt lot last ≡ true = grind (arith, nat_tests) in
    let all = held_of_lot section lot column row held (whole lot) there in
    record {
      places_are = rw (there, test, all) (omega arith);
      sum_is =
          rw (there, test, all)
          (in_lot (held (column * TO_POSITION) (row * TO_POSITION)) (pieces column row) over);
    }
  where
    in_lot : (b : Bool) (p over : ℕ)
        → p * (if b then OF_POSITION else 0) ≡ OF_POSITION * (if b then p else 0) + REGULAR_UNITS * over * 0
    in_lot true p over = omega arith
    in_lot false p over = omega arith

pub sum_of_section : (over section last count units : ℕ) (held : ℕ → ℕ → Bool) (pieces : ℕ → ℕ → ℕ)
    → AreRegular over section pieces
    → IsSection section → ((lot : ℕ) → IsWholeOrNot STANDARD_LOTS section lot held)
    → number_of_lots section < last
    → count + over_positions (of_lots section last (places_where held))
    ≡ count_held held (whole_block PLACE_DIGITS)
    → units ≡ over_positions (of_lots section last (piece_where held pieces))
    → OF_POSITION * (units + REGULAR_PLACE_UNITS * (over * count)) ≡ section_sum PLACE_DIGITS pieces held
sum_of_section over section last count units held pieces are range whole most taken gained =
    let each : (column row : ℕ) → column < 4 → row < 4 → AtPosition over section last held pieces column row =
    λ column row in_column in_row.
    at_position over section last held pieces column row (lot_at_position section column row) are range
    whole most (in_column, in_row) refl in
    let places : over_positions (held_of held)
    ≡ over_positions (off_lots section last (held_of held))
    + over_positions (of_lots section last (places_where held)) =
    positions-ext (held_of held) (λ column row.
    off_lots section last (held_of held) column row + of_lots section last (places_where held) column row)
    (λ column row in_column in_row. (each column row in_column in_row).places_are)
    ∙ positions-both (off_lots section last (held_of held)) (of_lots section last (places_where held)) in
    let all = held_by_position held in
    let rest : count ≡ over_positions (off_lots section last (held_of held)) = omega arith in
    let lots : ℕ → ℕ → ℕ = of_lots section last (piece_where held pieces) in
    let off : ℕ → ℕ → ℕ = off_lots section last (held_of held) in
    let sum : section_sum PLACE_DIGITS pieces held
    ≡ OF_POSITION * over_positions lots + REGULAR_UNITS * over * over_positions off =
    by_position (piece_where_held PLACE_DIGITS pieces held)
    ∙ positions-ext (λ column row.
    total_over (position_block PLACE_DIGITS column row) (piece_where_held PLACE_DIGITS pieces held))
    (λ column row. OF_POSITION * lots column row + REGULAR_UNITS * over * off column row)
    (λ column row in_column in_row.
    position_sum held pieces column row ∙ (each column row in_column in_row).sum_is)
    ∙ positions-both (λ column row. OF_POSITION * lots column row)
    (λ column row. REGULAR_UNITS * over * off column row)
    ∙ ap (λ t. t + over_positions (λ column row. REGULAR_UNITS * over * off column row))
    (positions-scale OF_POSITION lots)
    ∙ ap (λ t. OF_POSITION * over_positions lots + t) (positions-scale (REGULAR_UNITS * over) off) in
    product units count over (over_positions lots) (over_positions off) gained rest ∙ sym sum
  where
    product : (units count over lots off : ℕ) → units ≡ lots → count ≡ off
        → OF_POSITION * (units + REGULAR_PLACE_UNITS * (over * count))
        ≡ OF_POSITION * lots + REGULAR_UNITS * over * off
    product units count over lots off same same' = rw (same, same') (omega arith)

-- the sum over a section if the set contains no place of it
pub none_held : (pieces : ℕ → ℕ → ℕ) (held : ℕ → ℕ → Bool) → ¬ Meets held (whole_block PLACE_DIGITS)
    → section_sum PLACE_DIGITS pieces held ≡ 0
none_held pieces held none =
    total-all_zero ACROSS
    (λ up. total ACROSS (λ along. piece_where_held PLACE_DIGITS pieces held (0 + along) (0 + up)))
    (λ up in_up.
    total-all_zero ACROSS (λ along. piece_where_held PLACE_DIGITS pieces held (0 + along) (0 + up))
    (λ along in_along.
    let inside : in_rectangle (whole_block PLACE_DIGITS) (0 + along) (0 + up) ≡ true =
    grind (arith, nat_tests) in
    not_held (held (0 + along) (0 + up))
    (pieces (position_along PLACE_DIGITS (0 + along)) (position_along PLACE_DIGITS (0 + up)))
    (λ is. none (record { column = 0 + along; row = 0 + up; inside = inside; is_held = is }))))
  where
    not_held : (test : Bool) (piece : ℕ) → (test ≡ true → ⊥) → (if test then piece else 0) ≡ 0
    not_held true piece none = absurd (none refl)
    not_held false piece none = refl
