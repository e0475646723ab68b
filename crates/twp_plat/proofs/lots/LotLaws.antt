-- The laws of areas by the lots of a plat.
use Rattle.std.proofs.Common.{◌≡◌, ◌==◌, ℕ, ◌+◌, ◌*◌, ◌<◌, ◌&&◌, ◌||◌, not, Bool, true, false, refl, ap, sym}
use Rattle.std.proofs.Common.{◌∙◌}
use Rattle.std.proofs.Common.{arith, inl, inr, nat_lt, if◌then◌else◌}
use Rattle.std.specs.Prelude.{sum_by}
use Rattle.std.proofs.lemmas.Bool.{cases_lt}
use Rattle.std.proofs.lemmas.Bool.Decides.{nat_tests}
use Rattle.twp_measure.specs.Areas.{Fraction}
use Rattle.twp_grid.specs.Winding.{IsSection, SECTION_COUNT}
use Rattle.twp_grid.specs.Places.{IsPlace}
use Rattle.twp_grid.specs.Spans.{one_where, total}
use Rattle.twp_grid.specs.Lands.{HasWholeLots, IsWholeOrNot, LOT_NUMBER_MOST, Lotting, difference}
use Rattle.twp_grid.specs.Lands.{intersection}
use Rattle.twp_grid.specs.Lands.{lot_places, standard_lots, union}
use Rattle.twp_grid.proofs.TotalFacts.{total-all_zero, total-both, total-ext}
use Rattle.twp_land.specs.LotMaps.{land_off_lots}
use Rattle.twp_land.proofs.CombinedLots.{combined_lots_are_whole}
use Rattle.twp_plat.specs.LandAreas.{places_of_position}
use Rattle.twp_plat.specs.PlatAccounts.{lots_held, printed_units}
use Rattle.twp_plat.specs.LotAreas.{IsLotArea, contains_lot, count_off_lots, returned_units, size_of_lot}
use Rattle.twp_plat.specs.LotAreas.{units_of_lots}
use Rattle.twp_plat.specs.LotAreaLaws.{OneLotArea, LotAreaIsPlatArea, LotAreasAdd}
use Rattle.twp_plat.proofs.AreaLaws.{some_places}
use Rattle.twp_plat.proofs.CountFacts.{SomePlace, counted_none, counted_some, counts_add}
use Rattle.twp_plat.proofs.PlatLaws.{shared, one_share}
use Rattle.twp_plat.proofs.StandardUnits.{units_alike, off_alike}
use Rattle.twp_plat.proofs.ContainedLots.{decided, of_lot}

-- the units of all lots that the set contains, and how many of its places are land in no lot
abbrev all_units : Lotting → (ℕ → ℕ → ℕ) → (ℕ → ℕ → ℕ → Bool) → ℕ
all_units lots figure places = total SECTION_COUNT (λ before. units_of_lots lots figure places (before + 1))

abbrev all_off : Lotting → (ℕ → ℕ → ℕ → Bool) → ℕ
all_off lots places = total SECTION_COUNT (λ before. count_off_lots lots places (before + 1))

-- places have only one nominal share
same_share : (lots : Lotting) (figure : ℕ → ℕ → ℕ) (places more : ℕ → ℕ → ℕ → Bool) (area area' : Fraction)
    → (is : IsLotArea lots figure places area) → (is' : IsLotArea lots figure more area')
    → is'.share ≡ is.share
same_share lots figure places more area area' is is' =
    let some = some_places lots.digits (shared lots.digits is.share is.share_is) in
    sym (one_share (places_of_position lots.digits) is.share is'.share some is.share_is is'.share_is)

-- the units by another area's share
by_share : (lots : Lotting) (figure : ℕ → ℕ → ℕ) (places more : ℕ → ℕ → ℕ → Bool) (area area' : Fraction)
    → (is : IsLotArea lots figure places area) → IsLotArea lots figure more area'
    → area'.units ≡ all_units lots figure more + is.share * all_off lots more
by_share lots figure places more area area' is is' =
    is'.sum_is ∙ ap (λ s. all_units lots figure more + s * all_off lots more)
    (same_share lots figure places more area area' is is')

pub one_lot_area : OneLotArea
one_lot_area lots figure places area area' is is' =
    let units : area.units ≡ area'.units =
    is.sum_is ∙ sym (by_share lots figure places places area area' is is') in
    let over : area.over ≡ area'.over = is.over_is ∙ sym is'.over_is in
    let make : ℕ → ℕ → Fraction = λ units over. record { units = units; over = over } in
    ap (λ u. make u area.over) units ∙ ap (make area'.units) over

pub lot_area_is_plat_area : LotAreaIsPlatArea
lot_area_is_plat_area g plat figures figure places area are has is = record {
  figures = figures;
  are = are;
  share = is.share;
  share_is = is.share_is;
  over_is = is.over_is;
  sum_is =
      let fits = shared g is.share is.share_is in
      is.sum_is
      ∙ ap (λ t. t + is.share * all_off (standard_lots g) places)
      (units_alike g fits figure figures places has)
      ∙ ap (λ t. sum_by (printed_units figures) (lots_held g places) + is.share * t) (off_alike g places);
}

-- a lot counts as often in two sets as in their union and their intersection
record OfLot (lots : Lotting) (figure : ℕ → ℕ → ℕ) (places more : ℕ → ℕ → ℕ → Bool) (section number : ℕ)
    : Type 0 where
  joined : returned_units lots figure (union places more) section number
      + returned_units lots figure (intersection places more) section number
      ≡ returned_units lots figure places section number + returned_units lots figure more section number
  parted : returned_units lots figure (difference places more) section number
      + returned_units lots figure (intersection places more) section number
      ≡ returned_units lots figure places section number

of_each : (lots : Lotting) (figure : ℕ → ℕ → ℕ) (places more : ℕ → ℕ → ℕ → Bool) (section number : ℕ)
    → HasWholeLots lots places → HasWholeLots lots more → IsSection section
    → OfLot lots figure places more section number
of_each lots figure places more section number whole whole' range =
    elim (cases_lt 0 (size_of_lot lots section number)) [
      | inl some ↦ there (counted_some lots.digits (lot_places lots section number section) some)
      | inr few ↦
          let test : nat_lt 0 (size_of_lot lots section number) ≡ false = grind (arith, nat_tests, few) in
          record { joined = rw test refl; parted = rw test refl }
    ]
  where
    units : ℕ
    units = 100000 * figure section number

    sums : (a b : Bool) (u : ℕ) → (if a || b then u else 0) + (if a && b then u else 0)
        ≡ (if a then u else 0) + (if b then u else 0)
    sums true true u = refl
    sums true false u = refl
    sums false true u = omega arith
    sums false false u = refl

    parts : (a b : Bool) (u : ℕ) → (if a && not b then u else 0) + (if a && b then u else 0)
        ≡ (if a then u else 0)
    parts true true u = omega arith
    parts true false u = omega arith
    parts false true u = refl
    parts false false u = refl

    there : SomePlace lots.digits (lot_places lots section number section)
        → OfLot lots figure places more section number
    there found =
        let c = found.column in
        let r = found.row in
        let lot = of_lot lots section number found.column found.row found.is_held in
        let wholes = combined_lots_are_whole lots places more whole whole' in
        let first = decided lots places section number c r lot.0 lot.1 (whole section number range) in
        let second = decided lots more section number c r lot.0 lot.1 (whole' section number range) in
        let either =
        decided lots (union places more) section number c r lot.0 lot.1 (wholes.0 section number range) in
        let both =
        decided lots (intersection places more) section number c r lot.0 lot.1
        (wholes.1 section number range) in
        let rest =
        decided lots (difference places more) section number c r lot.0 lot.1
        (wholes.2 section number range) in
        record {
          joined =
              rw (first, second, either, both)
              (sums (places section found.column found.row) (more section found.column found.row)
              (100000 * figure section number));
          parted =
              rw (first, both, rest)
              (parts (places section found.column found.row) (more section found.column found.row)
              (100000 * figure section number));
        }

-- sums over the lots of all sections
lots_add : (f g h k : ℕ → ℕ → ℕ)
    → ((section number : ℕ) → IsSection section → f section number + g section number
    ≡ h section number + k section number)
    → total SECTION_COUNT (λ before. total LOT_NUMBER_MOST (λ less. f (before + 1) (less + 1)))
    + total SECTION_COUNT (λ before. total LOT_NUMBER_MOST (λ less. g (before + 1) (less + 1)))
    ≡ total SECTION_COUNT (λ before. total LOT_NUMBER_MOST (λ less. h (before + 1) (less + 1)))
    + total SECTION_COUNT (λ before. total LOT_NUMBER_MOST (λ less. k (before + 1) (less + 1)))
lots_add f g h k same =
    sym (pairs f g)
    ∙ total-ext SECTION_COUNT _ _ (λ before below.
    total-ext LOT_NUMBER_MOST _ _
    (λ less _. same (before + 1) (less + 1) (omega arith, omega (arith, below))))
    ∙ pairs h k
  where
    pairs : (f g : ℕ → ℕ → ℕ)
        → total SECTION_COUNT (λ before. total LOT_NUMBER_MOST (λ less.
        f (before + 1) (less + 1) + g (before + 1) (less + 1)))
        ≡ total SECTION_COUNT (λ before. total LOT_NUMBER_MOST (λ less. f (before + 1) (less + 1)))
        + total SECTION_COUNT (λ before. total LOT_NUMBER_MOST (λ less. g (before + 1) (less + 1)))
    pairs f g =
        total-ext SECTION_COUNT _
        (λ before. total LOT_NUMBER_MOST (λ less. f (before + 1) (less + 1))
        + total LOT_NUMBER_MOST (λ less. g (before + 1) (less + 1)))
        (λ before _.
        total-both LOT_NUMBER_MOST (λ less. f (before + 1) (less + 1)) (λ less. g (before + 1) (less + 1)))
        ∙ total-both SECTION_COUNT (λ before. total LOT_NUMBER_MOST (λ less. f (before + 1) (less + 1)))
        (λ before. total LOT_NUMBER_MOST (λ less. g (before + 1) (less + 1)))

-- sums over the places in no lot
off_add : (lots : Lotting) (a b a' b' : ℕ → ℕ → ℕ → Bool)
    → ((section c r : ℕ) → one_where (land_off_lots lots section (a section) c r)
    + one_where (land_off_lots lots section (b section) c r)
    ≡ one_where (land_off_lots lots section (a' section) c r)
    + one_where (land_off_lots lots section (b' section) c r))
    → all_off lots a + all_off lots b ≡ all_off lots a' + all_off lots b'
off_add lots a b a' b' same =
    sym
    (total-both SECTION_COUNT (λ before. count_off_lots lots a (before + 1))
    (λ before. count_off_lots lots b (before + 1)))
    ∙ total-ext SECTION_COUNT _ _ (λ before _.
    counts_add lots.digits (land_off_lots lots (before + 1) (a (before + 1)))
    (land_off_lots lots (before + 1) (b (before + 1))) (land_off_lots lots (before + 1) (a' (before + 1)))
    (land_off_lots lots (before + 1) (b' (before + 1))) (λ c r. same (before + 1) c r))
    ∙ total-both SECTION_COUNT (λ before. count_off_lots lots a' (before + 1))
    (λ before. count_off_lots lots b' (before + 1))

weighted : (s u v w x o p q r : ℕ) → u + v ≡ w + x → o + p ≡ q + r
    → (u + s * o) + (v + s * p) ≡ (w + s * q) + (x + s * r)
weighted s u v w x o p q r is is' =
    let left : s * o + s * p ≡ s * (o + p) = omega arith in
    let right : s * q + s * r ≡ s * (q + r) = omega arith in
    let same : s * (o + p) ≡ s * (q + r) = ap (λ t. s * t) is' in
    omega (arith, is, left, right, same)

joined_one : (a b n l : Bool) → one_where (((a || b) && n) && l) + one_where (((a && b) && n) && l)
    ≡ one_where ((a && n) && l) + one_where ((b && n) && l)
joined_one true true n l = refl
joined_one true false n l = refl
joined_one false true n l = omega arith
joined_one false false n l = refl

parted_one : (a b n l : Bool) → one_where (((a && not b) && n) && l) + one_where (((a && b) && n) && l)
    ≡ one_where ((a && n) && l) + one_where ((false && n) && l)
parted_one true true n l = omega arith
parted_one true false n l = refl
parted_one false true n l = refl
parted_one false false n l = refl

pub lot_areas_add : LotAreasAdd
lot_areas_add lots figure places more first second either both rest whole whole' is is' is-either is-both
    is-rest =
    let of_second = by_share lots figure places more first second is is' in
    let of_either = by_share lots figure places (union places more) first either is is-either in
    let of_both = by_share lots figure places (intersection places more) first both is is-both in
    let of_rest = by_share lots figure places (difference places more) first rest is is-rest in
    let units =
    lots_add (returned_units lots figure (union places more))
    (returned_units lots figure (intersection places more))
    (returned_units lots figure places) (returned_units lots figure more)
    (λ s n range. (of_each lots figure places more s n whole whole' range).joined) in
    let off =
    off_add lots (union places more) (intersection places more) places more (λ s c r.
    joined_one (places s c r) (more s c r) _ (lots.has_land s c r)) in
    let units' =
    lots_add (returned_units lots figure (difference places more))
    (returned_units lots figure (intersection places more)) (returned_units lots figure places) (λ s n. 0)
    (λ s n range. (of_each lots figure places more s n whole whole' range).parted ∙ none _) in
    let off' =
    off_add lots (difference places more) (intersection places more) places (λ s c r. false) (λ s c r.
    parted_one (places s c r) (more s c r) _ (lots.has_land s c r)) in (
      sums either.units both.units first.units second.units _ _ _ _ of_either of_both is.sum_is of_second
          (weighted is.share _ _ _ _ _ _ _ _ units off),
      sums rest.units both.units first.units 0 _ _ _ _ of_rest of_both is.sum_is (nothing is.share)
          (weighted is.share _ _ _ _ _ _ _ _ units' off')
          ∙ sym (none first.units),
    )
  where
    none : (n : ℕ) → n ≡ n + 0
    none n = omega arith

    zeros : total SECTION_COUNT (λ before. total LOT_NUMBER_MOST (λ less. 0)) ≡ 0
    zeros = total-all_zero SECTION_COUNT _ (λ _ _. total-all_zero LOT_NUMBER_MOST _ (λ _ _. refl))

    empty : all_off lots (λ s c r. false) ≡ 0
    empty = total-all_zero SECTION_COUNT _ (λ _ _. counted_none lots.digits _ (λ c r. refl))

    nothing : (share : ℕ) → 0 ≡ total SECTION_COUNT (λ before. total LOT_NUMBER_MOST (λ less. 0))
        + share * all_off lots (λ s c r. false)
    nothing share = rw (zeros, empty) (omega arith)

    sums : (a b c d a' b' c' d' : ℕ) → a ≡ a' → b ≡ b' → c ≡ c' → d ≡ d' → a' + b' ≡ c' + d' → a + b ≡ c + d
    sums a b c d a' b' c' d' x y z w all = omega arith
