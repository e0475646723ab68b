-- The steps of the code that adds areas.
use Rattle.std.proofs.Common.{◌≡◌, ℕ, zero, suc, ◌+◌, ◌-◌, ◌*◌, ◌<◌, ◌≤◌, Bool, Option, Some}
use Rattle.std.proofs.Common.{IfSome, ap, refl, sym, ◌∙◌, arith}
use Rattle.std.specs.Option.{SomeIff}
use Rattle.std.specs.Prelude.{sum_by}
use Rattle.std.proofs.lemmas.Nat.{mul-le}
use Rattle.twp_measure.specs.Areas.{Fraction, IsArea, HUNDREDTH_OF_AN_ACRE}
use Rattle.twp_grid.specs.Lots.{IsPosition, position_of_lot}
use Rattle.twp_grid.specs.Places.{PLACE_DIGITS}
use Rattle.twp_grid.specs.Spans.{whole_block}
use Rattle.twp_grid.specs.Spans.{total}
use Rattle.twp_grid.proofs.TotalFacts.{total-next, total-zero}
use Rattle.twp_grid.specs.Lands.{no_places, Meets, LieWithin}
use Rattle.twp_grid.specs.Lands.{HasWholeLots}
use Rattle.twp_grid.specs.Lands.{STANDARD_LOTS}
use Rattle.twp_land.proofs.LandRanges.{nothing_within}
use Rattle.twp_plat.specs.Plats.{SurveyPlat, IsPlat}
use Rattle.twp_plat.specs.LandAreas.{section_sum, township_sum}
use Rattle.twp_plat.specs.steps.Bounds.{OF_POSITION, SECTION_PLACES_MOST, LOTS_MOST, SECTION_UNITS_MOST}
use Rattle.twp_plat.specs.steps.Bounds.{REGULAR_UNITS, REGULAR_PLACE_UNITS}
use Rattle.twp_plat.specs.Closing.{CLOSING_MOST}
use Rattle.twp_plat.specs.PlatAccounts.{lots_held, places_off_lots, printed_units}
use Rattle.twp_plat.specs.PlatAccounts.{IsAreaBy}
use Rattle.twp_plat.specs.steps.Accounts.{over_by, position_units, AreUnitsBy}
use Rattle.twp_plat.specs.declared.land_area.Account.{Account}
use Rattle.twp_plat.specs.declared.land_area.Account.TheVariants.{Exact, Plat}
use Rattle.twp_plat.proofs.SectionPieces.{pieces_of}
use Rattle.twp_plat.proofs.SectionSums.{none_held}
use Rattle.twp_plat.proofs.PlatFigureFacts.{plat_figures}
use Rattle.twp_plat.proofs.LotSums.{sum_by_lots}

-- the place of a lot
pub record LotAt (section lot column row : ℕ) : Type 0 where
  pub position : position_of_lot section lot ≡ Some (column, row)
  pub within : IsPosition column row

pub lot_at_is : (section lot : ℕ) (found : Option (ℕ × ℕ)) (p : ℕ × ℕ) → found ≡ position_of_lot section lot
    → IfSome found (λ (column, row). IsPosition column row)
    → found ≡ Some p → LotAt section lot p.0 p.1
lot_at_is section lot found p is within there =
    record { position = sym is ∙ there; within = rw there at within }

-- one more term is added
pub grows : (n k units more : ℕ) → 1 ≤ n → units ≤ (n - 1) * k → more ≤ k → units + more ≤ (n + 1 - 1) * k
grows zero k units more first most added = absurd (omega arith)
grows (suc n) k units more first most added =
    let e : suc n - 1 ≡ n = omega arith in
    let e' : suc n + 1 - 1 ≡ n + 1 = omega arith in
    let least : units ≤ n * k = rw e at most in
    rw e' (omega arith)

-- the sum for a section is bounded
pub bounded : (lots units places over regular : ℕ) → lots ≤ LOTS_MOST → places ≤ SECTION_PLACES_MOST
    → units ≤ lots * (CLOSING_MOST * CLOSING_MOST * over) → regular ≡ REGULAR_PLACE_UNITS * (over * places)
    → units + regular ≤ SECTION_UNITS_MOST * over
bounded lots units places over regular few few' most is =
    let first =
    mul-le lots (CLOSING_MOST * CLOSING_MOST * over) LOTS_MOST (CLOSING_MOST * CLOSING_MOST * over) few
    (omega arith) in
    let second = mul-le over places over SECTION_PLACES_MOST (omega arith) few' in
    omega arith

-- the sums over the places of sections 1, 2, and so on
abbrev pub sections_sum : (ℕ → ℕ → ℕ → ℕ) → (ℕ → ℕ → ℕ → Bool) → ℕ → ℕ
sections_sum pieces places count =
    total count (λ before. section_sum PLACE_DIGITS (pieces (before + 1)) (places (before + 1)))

-- the sum for a number of sections
abbrev pub IsSumOf : Account → SurveyPlat → (ℕ → ℕ → ℕ → Bool) → ℕ → ℕ → Type 0
IsSumOf account plat places count units =
    (pieces : ℕ → ℕ → ℕ → ℕ) → AreUnitsBy account plat pieces
    → OF_POSITION * units ≡ sections_sum pieces places count

pub sum-next : (account : Account) (plat : SurveyPlat) (places : ℕ → ℕ → ℕ → Bool)
    (number section units more : ℕ)
    → 1 ≤ number → section ≡ number → IsSumOf account plat places (number - 1) units
    → ((pieces : ℕ → ℕ → ℕ → ℕ) → AreUnitsBy account plat pieces
    → OF_POSITION * more ≡ section_sum PLACE_DIGITS (pieces section) (places section))
    → IsSumOf account plat places (number + 1 - 1) (units + more)
sum-next account plat places number section units more first is so_far added pieces are =
    let last : number - 1 + 1 ≡ section = omega arith in
    let count : number + 1 - 1 ≡ number - 1 + 1 = omega arith in
    let next : sections_sum pieces places (number - 1 + 1)
    ≡ sections_sum pieces places (number - 1)
    + section_sum PLACE_DIGITS (pieces (number - 1 + 1)) (places (number - 1 + 1)) =
    total-next (number - 1)
    (λ before. section_sum PLACE_DIGITS (pieces (before + 1)) (places (before + 1))) in
    let same : section_sum PLACE_DIGITS (pieces (number - 1 + 1)) (places (number - 1 + 1))
    ≡ section_sum PLACE_DIGITS (pieces section) (places section) =
    ap (λ s. section_sum PLACE_DIGITS (pieces s) (places s)) last in
    let all : sections_sum pieces places (number + 1 - 1) ≡ sections_sum pieces places (number - 1 + 1) =
    ap (sections_sum pieces places) count in
    both units more _ _ _ (so_far pieces are) (added pieces are)
    (all ∙ next ∙ ap (λ t. sections_sum pieces places (number - 1) + t) same)
  where
    both : (u m s s' sum : ℕ) → OF_POSITION * u ≡ s → OF_POSITION * m ≡ s' → sum ≡ s + s'
        → OF_POSITION * (u + m) ≡ sum
    both u m s s' sum e e' is = omega arith

-- the sum over more sections, none of whose places is in the set
pub sum-without : (pieces : ℕ → ℕ → ℕ → ℕ) (places : ℕ → ℕ → ℕ → Bool) (count more : ℕ)
    → ((section : ℕ) → count < section → section ≤ count + more
    → ¬ Meets (places section) (whole_block PLACE_DIGITS))
    → sections_sum pieces places (count + more) ≡ sections_sum pieces places count
sum-without pieces places count zero none = ap (sections_sum pieces places) (omega arith)
sum-without pieces places count (suc more) none =
    let f : ℕ → ℕ = λ before. section_sum PLACE_DIGITS (pieces (before + 1)) (places (before + 1)) in
    let empty : f (count + more) ≡ 0 =
    none_held (pieces (count + more + 1)) (places (count + more + 1))
    (none (count + more + 1) (omega arith) (omega arith)) in
    let before : total (count + more) f ≡ total count f =
    sum-without pieces places count more (λ section above below. none section above (omega arith)) in
    ap (λ n. total n f) next ∙ total-next (count + more) f ∙ omega (arith, empty, before)
  where
    next : count + suc more ≡ count + more + 1
    next = omega arith

-- the set contains no place before its first section
pub sum-first : (account : Account) (plat : SurveyPlat) (places : ℕ → ℕ → ℕ → Bool) (first last : ℕ)
    → LieWithin places first last → IsSumOf account plat places (first - 1) 0
sum-first account plat places first last within pieces are =
    let none = sum-without pieces places 0 (first - 1) (λ section above below held.
    let lies = within section held.column held.row held.is_held in omega (arith, lies.0)) in
    let all : 0 + (first - 1) ≡ first - 1 = omega arith in
    sym (sym (ap (sections_sum pieces places) all) ∙ none ∙ total-zero _)

-- the set contains no place after its last section
pub sum-last : (account : Account) (plat : SurveyPlat) (places : ℕ → ℕ → ℕ → Bool)
    (first last number units : ℕ)
    → LieWithin places first last → 1 ≤ number → last < number → number ≤ 37
    → IsSumOf account plat places (number - 1) units → IsSumOf account plat places (37 - 1) units
sum-last account plat places first last number units within least after most so_far pieces are =
    let none = sum-without pieces places (number - 1) (37 - number) (λ section above below held.
    let lies = within section held.column held.row held.is_held in omega (arith, lies.1)) in
    let all : number - 1 + (37 - number) ≡ 36 = omega arith in
    so_far pieces are ∙ sym (sym (ap (sections_sum pieces places) all) ∙ none)

-- the set is empty
pub sum-none : (account : Account) (plat : SurveyPlat) (places : ℕ → ℕ → ℕ → Bool) → places ≡ no_places
    → IsSumOf account plat places (37 - 1) 0
sum-none account plat places none = sum-first account plat places 37 36 (nothing_within places 37 36 none)

-- the value of a fraction within bounds
pub area_is : (units over : ℕ) (found : Option Fraction) (area : Fraction)
    → SomeIff found (IsArea units over) (record { units = units; over = over }) → found ≡ Some area
    → area ≡ record { units = units; over = over }
area_is units over found area is there = (rw there at is).1

-- the sum over all sections is the land's area
pub land_area : (account : Account) (plat : SurveyPlat) (places : ℕ → ℕ → ℕ → Bool) (number units over : ℕ)
    (area : Fraction)
    → IsPlat plat → HasWholeLots STANDARD_LOTS places
    → over ≡ over_by account plat → number ≡ 37 → IsSumOf account plat places (number - 1) units
    → area ≡ record { units = units; over = over } → IsAreaBy account PLACE_DIGITS plat places area
land_area Exact plat places number units over area is whole over_is all sum area_is =
    let has = pieces_of plat is in
    let count : number - 1 ≡ 36 = omega arith in
    let total_is : OF_POSITION * units ≡ township_sum PLACE_DIGITS has.pieces places =
    rw count at (sum has.pieces has.are) in
    rw area_is (record { pieces = has.pieces; are = has.are; over_is = over_is; sum_is = total_is })
land_area Plat plat places number units over area is whole over_is all sum area_is =
    let (figures, are) = plat_figures plat is in
    let lot_units : ℕ → ℕ → ℕ = λ section lot. HUNDREDTH_OF_AN_ACRE * figures.lots section lot in
    let count : number - 1 ≡ 36 = omega arith in
    let total_is : OF_POSITION * units
    ≡ township_sum PLACE_DIGITS (position_units lot_units REGULAR_UNITS) places =
    rw count at
    (sum (position_units lot_units REGULAR_UNITS)
    (record { figures = figures; are = are; units_are = refl })) in
    let by_lots = sum_by_lots PLACE_DIGITS (omega arith) lot_units REGULAR_UNITS places whole in
    let units_are : units
    ≡ sum_by (printed_units figures) (lots_held PLACE_DIGITS places)
    + REGULAR_PLACE_UNITS * places_off_lots PLACE_DIGITS places =
    parts units _ _ (total_is ∙ sym by_lots) in
    rw area_is (record {
      figures = figures;
      are = are;
      share = REGULAR_PLACE_UNITS;
      share_is = refl;
      over_is = over_is;
      sum_is = units_are;
    })
  where
    parts : (units lots off : ℕ) → OF_POSITION * units ≡ OF_POSITION * lots + REGULAR_UNITS * off
        → units ≡ lots + REGULAR_PLACE_UNITS * off
    parts units lots off is = omega arith
