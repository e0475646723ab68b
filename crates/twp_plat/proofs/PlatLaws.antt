-- The laws over plat areas.
use Rattle.std.proofs.Common.{◌≡◌, ℕ, ◌+◌, ◌*◌, ◌/◌, ◌<◌, ◌≤◌, ◌||◌, Bool, true, false}
use Rattle.std.proofs.Common.{List, [], ◌∷◌, Option, Some, None, length, ap, refl, sym, ◌∙◌}
use Rattle.std.proofs.Common.{inl, inr, arith, if◌then◌else◌}
use Rattle.std.specs.Prelude.{sum_by}
use Rattle.std.specs.Option.{option_map_or}
use Rattle.std.proofs.Math.Nat.{le_of_mul-le-mul_left}
use Rattle.std.proofs.lemmas.Bool.{cases_lt}
use Rattle.std.proofs.lemmas.List.Sums.{sum_by-cons}
use Rattle.twp_measure.specs.Areas.{Fraction, HUNDREDTH_OF_AN_ACRE, IsRounded}
use Rattle.twp_grid.specs.Winding.{SECTION_COUNT, IsSection}
use Rattle.twp_grid.specs.Lots.{POSITIONS_ACROSS, IsPosition, Lot, lot, lots, lot_at_position}
use Rattle.twp_grid.specs.Places.{places_across, position_along}
use Rattle.twp_grid.specs.Spans.{whole_block}
use Rattle.twp_grid.specs.Spans.{total, total_over, over_positions}
use Rattle.twp_grid.proofs.TotalFacts.{total-ext, total-le, total-scale}
use Rattle.twp_grid.proofs.TilingFacts.{one_position}
use Rattle.twp_grid.specs.Lands.{union}
use Rattle.twp_grid.specs.Lands.{HasWholeLots}
use Rattle.twp_grid.specs.Lands.{standard_lots}
use Rattle.twp_land.proofs.LotFacts.{fills}
use Rattle.twp_plat.specs.Plats.{SurveyPlat, IsPlat}
use Rattle.twp_plat.specs.Pieces.{over_of}
use Rattle.twp_plat.specs.Pieces.{ArePieces}
use Rattle.twp_plat.proofs.RatioFacts.{cancelled}
use Rattle.twp_plat.proofs.SectionPieces.{piece_at}
use Rattle.twp_plat.specs.LandAreas.{places_of_position, piece_where_held}
use Rattle.twp_plat.specs.LandAreas.{township_sum}
use Rattle.twp_plat.specs.PlatFigures.{PlatFigures, AreFigures}
use Rattle.twp_plat.specs.PlatAccounts.{holds_lot, lots_held, places_off_lots, printed_units}
use Rattle.twp_plat.specs.PlatAccounts.{IsPlatArea}
use Rattle.twp_plat.specs.PlatAccountLaws.{OnePlatArea, DisjointPlatAreasAdd, PlatAreaIsNear}
use Rattle.twp_plat.specs.steps.Accounts.{position_units}
use Rattle.twp_plat.proofs.AreaLaws.{township-ext, township-both, some_places}
use Rattle.twp_plat.proofs.PlatFigureFacts.{same_lot}
use Rattle.twp_plat.proofs.LotSums.{filtered, at_lot, over_table, sum_by_lots}
use Rattle.twp_plat.proofs.PositionSums.{positions-ext}
use Rattle.twp_plat.proofs.RegularUnits.{regular_units}

-- the units of a lot on a plat
abbrev units_of : PlatFigures → ℕ → ℕ → ℕ
units_of figures section number = HUNDREDTH_OF_AN_ACRE * figures.lots section number

-- two sets of figures of a plat agree at each lot
lot_alike : (plat : SurveyPlat) (figures figures' : PlatFigures) (section column row number : ℕ)
    → AreFigures plat figures → AreFigures plat figures' → IsSection section
    → lot_at_position section column row ≡ Some number → figures.lots section number
    ≡ figures'.lots section number
lot_alike plat figures figures' section column row number are are' range is =
    let there = fills section column row number range is in
    same_lot plat figures' section number (figures.lots section number) range are'
    (record {
      column = column;
      row = row;
      position_is = there.position;
      figure_is =
          are.lots section number column row range there.position;
    })

-- functions that agree at the lots of the table have the same sum
found_alike : (found : Option ℕ) (f f' : ℕ → ℕ)
    → ((number : ℕ) → found ≡ Some number → f number ≡ f' number) → option_map_or f found 0
    ≡ option_map_or f' found 0
found_alike None f f' same = refl
found_alike (Some number) f f' same = same number refl

pub table-ext : (f f' : Lot → ℕ)
    → ((section column row number : ℕ) → IsSection section
    → lot_at_position section column row ≡ Some number
    → f (lot section number column row) ≡ f' (lot section number column row))
    → sum_by f lots ≡ sum_by f' lots
table-ext f f' same =
    over_table f
    ∙ total-ext SECTION_COUNT (λ before. over_positions (at_lot f (before + 1)))
    (λ before. over_positions (at_lot f' (before + 1))) (λ before below.
    positions-ext (at_lot f (before + 1)) (at_lot f' (before + 1)) (λ column row _ _.
    found_alike (lot_at_position (before + 1) column row)
    (λ number. f (lot (before + 1) number column row))
    (λ number. f' (lot (before + 1) number column row)) (λ number is.
    same (before + 1) column row number (omega arith, omega arith) is)))
    ∙ sym (over_table f')

-- the printed units of the lots in the set have only one sum
printed_alike : (g : ℕ) (plat : SurveyPlat) (places : ℕ → ℕ → ℕ → Bool) (figures figures' : PlatFigures)
    → AreFigures plat figures → AreFigures plat figures'
    → sum_by (printed_units figures) (lots_held g places)
    ≡ sum_by (printed_units figures') (lots_held g places)
printed_alike g plat places figures figures' are are' =
    filtered (holds_lot g places) (printed_units figures) lots
    ∙ table-ext (λ l. if holds_lot g places l then printed_units figures l else 0)
    (λ l. if holds_lot g places l then printed_units figures' l else 0)
    (λ section column row number range is.
    ap (λ h. if holds_lot g places (lot section number column row) then 100000 * h else 0)
    (lot_alike plat figures figures' section column row number are are' range is))
    ∙ sym (filtered (holds_lot g places) (printed_units figures') lots)

-- if places have a nominal share, positions have places
pub shared : (g share : ℕ) → places_of_position g * share ≡ 400000000 → POSITIONS_ACROSS ≤ places_across g
shared g share is = go (places_across g) refl
  where
    go : (across : ℕ) → places_across g ≡ across → POSITIONS_ACROSS ≤ across
    go across same = elim (cases_lt across 4) [
      | inl few ↦
          let none : across / 4 * (across / 4) * share ≡ 0 = nothing (across / 4) share (omega arith) in
          absurd (omega (arith, none, rw same at is))
      | inr many ↦ many
    ]
      where
        nothing : (p share : ℕ) → p ≡ 0 → p * p * share ≡ 0
        nothing p share none = rw none (omega arith)

pub one_share : (n share share' : ℕ) → 0 < n → n * share ≡ 400000000 → n * share' ≡ 400000000 → share ≡ share'
one_share n share share' some is is' = cancelled share share' n some (omega arith)

pub one_plat_area : OnePlatArea
one_plat_area g plat places area area' is is' =
    let some = some_places g (shared g is.share is.share_is) in
    let share : is.share ≡ is'.share =
    one_share (places_of_position g) is.share is'.share some is.share_is is'.share_is in
    let lots_are = printed_alike g plat places is.figures is'.figures is.are is'.are in
    let units : area.units ≡ area'.units =
    is.sum_is ∙ ap (λ t. t + is.share * places_off_lots g places) lots_are
    ∙ ap (λ s. sum_by (printed_units is'.figures) (lots_held g places) + s * places_off_lots g places)
    share ∙ sym is'.sum_is in
    let over : area.over ≡ area'.over = is.over_is ∙ sym is'.over_is in
    let make : ℕ → ℕ → Fraction = λ units over. record { units = units; over = over } in
    ap (λ u. make u area.over) units ∙ ap (make area'.units) over

-- a plat area is a sum over places
place_sum : (g : ℕ) (plat : SurveyPlat) (places : ℕ → ℕ → ℕ → Bool) (area : Fraction)
    → HasWholeLots (standard_lots g) places → (is : IsPlatArea g plat places area)
    → places_of_position g * area.units
    ≡ township_sum g (position_units (units_of is.figures) 400000000) places
place_sum g plat places area whole is =
    let by_lots = sum_by_lots g (shared g is.share is.share_is)
    (units_of is.figures) 400000000 places whole in
    product (places_of_position g) area.units _ is.share (places_off_lots g places) is.sum_is is.share_is
    ∙ by_lots
  where
    product : (n units lots share off : ℕ) → units ≡ lots + share * off → n * share ≡ 400000000
        → n * units ≡ n * lots + 400000000 * off
    product n units lots share off is is' =
        let all : n * units ≡ n * lots + n * share * off = rw is (omega arith) in
        rw is' at all

-- if two sets contain lots wholly or not at all, so does their union
both_whole : (g : ℕ) (places more : ℕ → ℕ → ℕ → Bool) → HasWholeLots (standard_lots g) places
    → HasWholeLots (standard_lots g) more
    → HasWholeLots (standard_lots g) (union places more)
both_whole g places more whole whole' section number range = record {
  alike = λ column row column' row' is is'.
      rw (
        (whole section number range).alike column row column' row' is is',
        (whole' section number range).alike column row column' row' is is',
      ) refl;
}

units_alike : (plat : SurveyPlat) (figures figures' : PlatFigures) (section column row : ℕ)
    → AreFigures plat figures → AreFigures plat figures' → IsSection section
    → position_units (units_of figures) 400000000 section column row
    ≡ position_units (units_of figures') 400000000 section column row
units_alike plat figures figures' section column row are are' range =
    go (lot_at_position section column row) refl
  where
    go : (found : Option ℕ) → lot_at_position section column row ≡ found
        → option_map_or (units_of figures section) (lot_at_position section column row) 400000000
        ≡ option_map_or (units_of figures' section) (lot_at_position section column row) 400000000
    go None is = rw is refl
    go (Some number) is =
        rw is (ap (λ h. 100000 * h)
        (lot_alike plat figures figures' section column row number are are' range is))

pub disjoint_plat_areas_add : DisjointPlatAreasAdd
disjoint_plat_areas_add g plat places more area other whole whole' apart is is' =
    let fits = shared g is.share is.share_is in
    let n : ℕ = places_of_position g in
    let some = some_places g fits in
    let units : ℕ → ℕ → ℕ → ℕ = position_units (units_of is.figures) 400000000 in
    let units' : ℕ → ℕ → ℕ → ℕ = position_units (units_of is'.figures) 400000000 in
    let first : ℕ → ℕ → ℕ → ℕ = λ section. piece_where_held g (units section) (places section) in
    let second : ℕ → ℕ → ℕ → ℕ = λ section. piece_where_held g (units section) (more section) in
    let sum : township_sum g units (union places more)
    ≡ township_sum g units places + township_sum g units more =
    township-ext g (λ section. piece_where_held g (units section) (union places more section))
    (λ section column row. first section column row + second section column row)
    (λ section column row range in_column in_row.
    either (places section column row) (more section column row)
    (units section (position_along g column) (position_along g row)) (apart section column row))
    ∙ township-both g first second in
    let same : township_sum g units' more ≡ township_sum g units more =
    township-ext g (λ section. piece_where_held g (units' section) (more section)) second
    (λ section column row range in_column in_row.
    ap (λ u. if more section column row then u else 0)
    (units_alike plat is'.figures is.figures section (position_along g column)
    (position_along g row) is'.are is.are range)) in
    let by_lots = sum_by_lots g fits (units_of is.figures) 400000000 (union places more)
    (both_whole g places more whole whole') in
    record {
      figures = is.figures;
      are = is.are;
      share = is.share;
      share_is = is.share_is;
      over_is = is.over_is;
      sum_is = added n area.units other.units _ is.share (places_off_lots g (union places more)) some
          is.share_is (place_sum g plat places area whole is) (place_sum g plat more other whole' is'
          ∙ same) (by_lots ∙ sum);
    }
  where
    either : (a b : Bool) (u : ℕ) → (a ≡ true → b ≡ true → ⊥) → (if a || b then u else 0)
        ≡ (if a then u else 0) + (if b then u else 0)
    either true true u apart = absurd (apart refl refl)
    either true false u apart = omega arith
    either false true u apart = omega arith
    either false false u apart = omega arith

    added : {s s' : ℕ} → (n u u' lots share off : ℕ) → 0 < n → n * share ≡ 400000000 → n * u ≡ s
        → n * u' ≡ s' → n * lots + 400000000 * off ≡ s + s' → u + u' ≡ lots + share * off
    added {s} {s'} n u u' lots share off some share_is is is' both =
        let parts : n * lots + n * share * off ≡ s + s' = rw (sym share_is) at both in
        cancelled (u + u') (lots + share * off) n some (omega arith)

-- the sum of a function's values at each place of a township
abbrev sum_over : ℕ → (ℕ → ℕ → ℕ → ℕ) → ℕ
sum_over g f = total SECTION_COUNT (λ before. total_over (whole_block g) (f (before + 1)))

-- such sums in order, and their multiples
township-le : (g : ℕ) (f f' : ℕ → ℕ → ℕ → ℕ)
    → ((section column row : ℕ) → IsSection section → column < places_across g
    → row < places_across g → f section column row ≤ f' section column row)
    → sum_over g f ≤ sum_over g f'
township-le g f f' least =
    total-le SECTION_COUNT (λ before. total_over (whole_block g) (f (before + 1)))
    (λ before. total_over (whole_block g) (f' (before + 1))) (λ before below.
    total-le (places_across g)
    (λ up. total (places_across g) (λ along. f (before + 1) (0 + along) (0 + up)))
    (λ up. total (places_across g) (λ along. f' (before + 1) (0 + along) (0 + up))) (λ up in_up.
    total-le (places_across g) (λ along. f (before + 1) (0 + along) (0 + up))
    (λ along. f' (before + 1) (0 + along) (0 + up)) (λ along in_along.
    least (before + 1) (0 + along) (0 + up) (omega arith, omega arith) (omega arith) (omega arith))))

township-scale : (g k : ℕ) (f : ℕ → ℕ → ℕ → ℕ)
    → sum_over g (λ section column row. k * f section column row) ≡ k * sum_over g f
township-scale g k f =
    total-ext SECTION_COUNT
    (λ before. total_over (whole_block g) (λ column row. k * f (before + 1) column row))
    (λ before. k * total_over (whole_block g) (f (before + 1))) (λ before below.
    total-ext (places_across g)
    (λ up. total (places_across g) (λ along. k * f (before + 1) (0 + along) (0 + up)))
    (λ up. k * total (places_across g) (λ along. f (before + 1) (0 + along) (0 + up))) (λ up in_up.
    total-scale (places_across g) k (λ along. f (before + 1) (0 + along) (0 + up)))
    ∙ total-scale (places_across g) k
    (λ up. total (places_across g) (λ along. f (before + 1) (0 + along) (0 + up))))
    ∙ total-scale SECTION_COUNT k (λ before. total_over (whole_block g) (f (before + 1)))

-- for a lot, the exact units and the printed units differ by at most half a hundredth of an acre
record IsNear (over exact printed lots : ℕ) : Type 0 where
  above : exact ≤ over * printed + 50000 * over * lots
  below : over * printed ≤ exact + 50000 * over * lots

of_figure : (h exact over : ℕ) → 2 * h * (100000 * over) ≤ 2 * exact + 100000 * over
    → 2 * exact < 2 * h * (100000 * over) + 100000 * over → IsNear over exact (100000 * h) 1
of_figure h exact over least most = record { above = omega arith; below = omega arith }

at_position : (plat : SurveyPlat) (pieces : ℕ → ℕ → ℕ → ℕ) (figures : PlatFigures)
    (section column row : ℕ) (found : Option ℕ) → IsPlat plat → ArePieces plat pieces
    → AreFigures plat figures
    → IsSection section → IsPosition column row → lot_at_position section column row ≡ found
    → IsNear (over_of plat) (pieces section column row)
    (position_units (units_of figures) 400000000 section column row)
    (position_units (λ _ _. 1) 0 section column row)
at_position plat pieces figures section column row None is are figures_are range position there =
    let regular = regular_units plat pieces section column row is are range position there in
    rw (there, regular) (record { above = omega arith; below = omega arith })
at_position plat pieces figures section column row (Some number) is are figures_are range position there =
    let fill = fills section column row number range there in
    let figure = figures_are.lots section number column row range fill.position in
    let piece = piece_at plat pieces section column row figure.area are range position figure.piece_is
    figure.over_is in
    let rounded : IsRounded (record { units = pieces section column row; over = over_of plat })
    (figures.lots section number) = rw (sym piece, sym figure.over_is) figure.rounded in
    rw there (of_figure (figures.lots section number) (pieces section column row)
    (over_of plat) rounded.least rounded.most)

where_held : (held : Bool) (over exact printed lots : ℕ) → IsNear over exact printed lots
    → IsNear over (if held then exact else 0) (if held then printed else 0) (if held then lots else 0)
where_held true over exact printed lots near = near
where_held false over exact printed lots near = record { above = omega arith; below = omega arith }

ones : {X : Type 0} (xs : List X) → sum_by (λ _. 1) xs ≡ length xs
ones [] = refl
ones (x ∷ xs) = let first = sum_by-cons (λ _. 1) x xs in omega (arith, first, ones xs)

-- both sums over places
sums_near : (g : ℕ) → POSITIONS_ACROSS ≤ places_across g
    → (plat : SurveyPlat) (places : ℕ → ℕ → ℕ → Bool) (pieces : ℕ → ℕ → ℕ → ℕ) (figures : PlatFigures)
    → IsPlat plat
    → ArePieces plat pieces → AreFigures plat figures
    → IsNear (over_of plat) (township_sum g pieces places)
    (township_sum g (position_units (units_of figures) 400000000) places)
    (township_sum g (position_units (λ _ _. 1) 0) places)
sums_near g fits plat places pieces figures is are figures_are =
    let over : ℕ = over_of plat in
    let exact : ℕ → ℕ → ℕ → ℕ = λ section. piece_where_held g (pieces section) (places section) in
    let printed : ℕ → ℕ → ℕ → ℕ =
    λ section. piece_where_held g (position_units (units_of figures) 400000000 section)
    (places section) in
    let lots_in : ℕ → ℕ → ℕ → ℕ =
    λ section. piece_where_held g (position_units (λ _ _. 1) 0 section) (places section) in
    let near : (section column row : ℕ) → IsSection section → column < places_across g
    → row < places_across g → IsNear over (exact section column row) (printed section column row)
    (lots_in section column row) =
    λ section column row range in_column in_row.
    let c : ℕ = position_along g column in
    let r : ℕ = position_along g row in
    where_held (places section column row) over (pieces section c r)
    (position_units (units_of figures) 400000000 section c r) (position_units (λ _ _. 1) 0 section c r)
    (at_position plat pieces figures section c r (lot_at_position section c r) is are figures_are range
    (one_position g fits column row (in_column, in_row)).0 refl) in
    let printed_sum = township-scale g over printed in
    let lots_sum = township-scale g (50000 * over) lots_in in
    let above = township-le g exact
    (λ section column row.
    over * printed section column row + 50000 * over * lots_in section column row)
    (λ section column row range in_column in_row.
    (near section column row range in_column in_row).above) in
    let above_sum = township-both g (λ section column row. over * printed section column row)
    (λ section column row. 50000 * over * lots_in section column row) in
    let below = township-le g (λ section column row. over * printed section column row)
    (λ section column row. exact section column row + 50000 * over * lots_in section column row)
    (λ section column row range in_column in_row.
    (near section column row range in_column in_row).below) in
    let below_sum = township-both g exact
    (λ section column row. 50000 * over * lots_in section column row) in
    record {
      above = added (sum_over g exact) _ (over * sum_over g printed) (50000 * over * sum_over g lots_in) above
          (above_sum ∙ ap (λ t.
          t + sum_over g (λ section column row. 50000 * over * lots_in section column row)) printed_sum
          ∙ ap (λ t. over * sum_over g printed + t) lots_sum);
      below = moved (sum_over g (λ section column row. over * printed section column row)) _ _
          (added _ _ (sum_over g exact) (50000 * over * sum_over g lots_in) below
          (below_sum ∙ ap (λ t. sum_over g exact + t) lots_sum)) printed_sum;
    }
  where
    added : (a b c d : ℕ) → a ≤ b → b ≡ c + d → a ≤ c + d
    added a b c d least is = omega arith

    moved : (a b c : ℕ) → a ≤ b → a ≡ c → c ≤ b
    moved a b c least is = omega arith

pub plat_area_is_near : PlatAreaIsNear
plat_area_is_near g plat places exact printed is whole area plat_area =
    let fits = shared g plat_area.share plat_area.share_is in
    let near = sums_near g fits plat places area.pieces plat_area.figures is area.are plat_area.are in
    let lots_are = sum_by_lots g fits (λ _ _. 1) 0 places whole in
    let count = ones (lots_held g places) in
    let sum = place_sum g plat places printed whole plat_area in
    let n : ℕ = places_of_position g in
    let some = some_places g fits in
    let above : exact.units ≤ over_of plat * printed.units + 50000 * over_of plat * length
    (lots_held g places) =
    cancel n exact.units printed.units (over_of plat) _ _ _ (length (lots_held g places)) some area.sum_is
    sum (counted n _ _ _ count lots_are) near.above in
    let below : over_of plat * printed.units ≤ exact.units + 50000 * over_of plat * length
    (lots_held g places) =
    cancel' n exact.units printed.units (over_of plat) _ _ _ (length (lots_held g places)) some area.sum_is
    sum (counted n _ _ _ count lots_are) near.below in
    record {
      above = rw (area.over_is, plat_area.over_is) (omega arith);
      below =
          rw (area.over_is, plat_area.over_is) (omega arith);
    }
  where
    counted : (n lots off sum : ℕ) {len : ℕ} → lots ≡ len → n * lots + 0 * off ≡ sum → n * len ≡ sum
    counted n lots off sum {len} is is' = rw (sym is) (omega arith)

    cancel : (n e p over E P L len : ℕ) → 0 < n → n * e ≡ E → n * p ≡ P → n * len ≡ L
        → E ≤ over * P + 50000 * over * L → e ≤ over * p + 50000 * over * len
    cancel n e p over E P L len some is is' is'' least =
        let known : n * e ≤ over * (n * p) + 50000 * over * (n * len) = rw (is, is', is'') least in
        le_of_mul-le-mul_left {m = e} {n = over * p + 50000 * over * len} {k = n} (omega arith) some

    cancel' : (n e p over E P L len : ℕ) → 0 < n → n * e ≡ E → n * p ≡ P → n * len ≡ L
        → over * P ≤ E + 50000 * over * L → over * p ≤ e + 50000 * over * len
    cancel' n e p over E P L len some is is' is'' least =
        let known : over * (n * p) ≤ n * e + 50000 * over * (n * len) = rw (is, is', is'') least in
        le_of_mul-le-mul_left {m = over * p} {n = e + 50000 * over * len} {k = n} (omega arith) some
