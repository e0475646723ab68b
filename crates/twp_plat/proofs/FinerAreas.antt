-- If each place is divided into four, the areas of land are the same.
use Rattle.std.proofs.Common.{◌≡◌, ◌==◌, ℕ, suc, ◌+◌, ◌*◌, ◌/◌, ◌<◌, ◌≤◌, ◌↔◌, Bool, filter, sum_by}
use Rattle.std.proofs.Common.{if◌then◌else◌, sym, ap, ◌∙◌, arith}
use Rattle.std.proofs.Math.Path.{fun_ext}
use Rattle.std.proofs.lemmas.Bool.Decides.{nat_tests}
use Rattle.twp_measure.specs.Areas.{Fraction}
use Rattle.twp_grid.specs.Winding.{SECTION_COUNT}
use Rattle.twp_grid.specs.Lots.{POSITIONS_ACROSS, Lot, lots}
use Rattle.twp_grid.specs.Places.{places_across, places_to_position, position_along}
use Rattle.twp_grid.specs.Spans.{whole_block, position_block}
use Rattle.twp_grid.specs.Spans.{total_over}
use Rattle.twp_grid.proofs.TotalFacts.{total-ext, total-scale}
use Rattle.twp_grid.proofs.FinerPlaces.{position_twice, same_position, whole_finer}
use Rattle.twp_grid.specs.Lands.{count_held}
use Rattle.twp_grid.specs.FinerLands.{cut_in_four, finer_land}
use Rattle.twp_grid.specs.Lands.{off_lots}
use Rattle.twp_grid.specs.Lands.{standard_lots}
use Rattle.twp_grid.proofs.FinerLands.{same_off_lots, count_of_section, count_of_position}
use Rattle.twp_plat.specs.Plats.{SurveyPlat}
use Rattle.twp_plat.proofs.RatioFacts.{cancelled}
use Rattle.twp_plat.specs.LandAreas.{places_of_position, piece_where_held, section_sum, township_sum}
use Rattle.twp_plat.specs.LandAreas.{IsLandArea}
use Rattle.twp_plat.specs.PlatAccounts.{lots_held, places_off_lots, printed_units}
use Rattle.twp_plat.specs.PlatAccounts.{IsNominalShare, IsPlatArea}
use Rattle.twp_plat.proofs.AreaLaws.{some_places}

-- a position has four times as many places
pub position_of_four : (g : ℕ) → POSITIONS_ACROSS ≤ places_across g
    → places_of_position (suc g) ≡ 4 * places_of_position g
position_of_four g fits =
    ap (λ side. side * side) (position_twice g fits) ∙ square (places_to_position g)
  where
    square : (side : ℕ) → 2 * side * (2 * side) ≡ 4 * (side * side)
    square side = omega arith

-- the sum of the pieces of places is four times as much
same_piece : (g : ℕ) (pieces : ℕ → ℕ → ℕ) (held : ℕ → ℕ → Bool) → POSITIONS_ACROSS ≤ places_across g
    → piece_where_held (suc g) pieces (cut_in_four held)
    ≡ (λ column row. piece_where_held g pieces held (column / 2) (row / 2))
same_piece g pieces held fits =
    fun_ext (λ column. fun_ext (λ row.
    ap (λ c. if held (column / 2) (row / 2) then pieces c (position_along (suc g) row) else 0)
    (same_position g column fits)
    ∙ ap (λ r. if held (column / 2) (row / 2) then pieces (position_along g (column / 2)) r else 0)
    (same_position g row fits)))

section_of_four : (g : ℕ) (pieces : ℕ → ℕ → ℕ) (held : ℕ → ℕ → Bool) → POSITIONS_ACROSS ≤ places_across g
    → section_sum (suc g) pieces (cut_in_four held) ≡ 4 * section_sum g pieces held
section_of_four g pieces held fits =
    ap (λ f. total_over (whole_block (suc g)) f) (same_piece g pieces held fits)
    ∙ whole_finer g (piece_where_held g pieces held)

pub township_of_four : (g : ℕ) (pieces : ℕ → ℕ → ℕ → ℕ) (places : ℕ → ℕ → ℕ → Bool)
    → POSITIONS_ACROSS ≤ places_across g
    → township_sum (suc g) pieces (finer_land places) ≡ 4 * township_sum g pieces places
township_of_four g pieces places fits =
    total-ext SECTION_COUNT
    (λ before. section_sum (suc g) (pieces (before + 1)) (finer_land places (before + 1)))
    (λ before. 4 * section_sum g (pieces (before + 1)) (places (before + 1)))
    (λ before _. section_of_four g (pieces (before + 1)) (places (before + 1)) fits)
    ∙ total-scale SECTION_COUNT 4 (λ before. section_sum g (pieces (before + 1)) (places (before + 1)))

-- the exact area
pub same_area : (g : ℕ) (plat : SurveyPlat) (places : ℕ → ℕ → ℕ → Bool) (area : Fraction)
    → POSITIONS_ACROSS ≤ places_across g
    → IsLandArea g plat places area ↔ IsLandArea (suc g) plat (finer_land places) area
same_area g plat places area fits = (forth, back)
  where
    times_four : (n m u s t : ℕ) → m ≡ 4 * n → t ≡ 4 * s → n * u ≡ s → m * u ≡ t
    times_four n m u s t more more' is = rw (more, more') (omega arith)

    by_four : (n m u s t : ℕ) → m ≡ 4 * n → t ≡ 4 * s → m * u ≡ t → n * u ≡ s
    by_four n m u s t more more' is = let same = rw (more, more') at is in omega arith

    forth : IsLandArea g plat places area → IsLandArea (suc g) plat (finer_land places) area
    forth is = record {
      pieces = is.pieces;
      are = is.are;
      over_is = is.over_is;
      sum_is =
          times_four (places_of_position g) (places_of_position (suc g)) area.units
          (township_sum g is.pieces places) (township_sum (suc g) is.pieces (finer_land places))
          (position_of_four g fits) (township_of_four g is.pieces places fits) is.sum_is;
    }

    back : IsLandArea (suc g) plat (finer_land places) area → IsLandArea g plat places area
    back is = record {
      pieces = is.pieces;
      are = is.are;
      over_is = is.over_is;
      sum_is =
          by_four (places_of_position g) (places_of_position (suc g)) area.units
          (township_sum g is.pieces places) (township_sum (suc g) is.pieces (finer_land places))
          (position_of_four g fits) (township_of_four g is.pieces places fits) is.sum_is;
    }

-- the lots in the set, and its places off the lots
same_lots : (g : ℕ) (places : ℕ → ℕ → ℕ → Bool) → POSITIONS_ACROSS ≤ places_across g
    → lots_held (suc g) (finer_land places) ≡ lots_held g places
same_lots g places fits =
    ap (λ (test : Lot → Bool). filter test lots) (fun_ext (λ lot.
    ap (λ count. count == places_of_position (suc g))
    (count_of_position g lot.column lot.row (places lot.section) fits)
    ∙ ap (λ all. 4 * count_of lot == all) (position_of_four g fits)
    ∙ same_test (count_of lot) (places_of_position g)))
  where
    count_of : Lot → ℕ
    count_of lot = count_held (places lot.section) (position_block g lot.column lot.row)

    same_test : (m n : ℕ) → (4 * m == 4 * n) ≡ (m == n)
    same_test m n = grind (arith, nat_tests)

off_lots_of_four : (g : ℕ) (places : ℕ → ℕ → ℕ → Bool) → POSITIONS_ACROSS ≤ places_across g
    → places_off_lots (suc g) (finer_land places) ≡ 4 * places_off_lots g places
off_lots_of_four g places fits =
    total-ext SECTION_COUNT
    (λ before. count_held (off_lots (standard_lots (suc g)) (before + 1) (finer_land places (before + 1)))
    (whole_block (suc g)))
    (λ before. 4 * count_held (off_lots (standard_lots g) (before + 1) (places (before + 1))) (whole_block g))
    (λ before _.
    ap (λ off. count_held off (whole_block (suc g))) (same_off_lots g (before + 1) (places (before + 1)) fits)
    ∙ count_of_section g (off_lots (standard_lots g) (before + 1) (places (before + 1))))
    ∙ total-scale SECTION_COUNT 4
    (λ before. count_held (off_lots (standard_lots g) (before + 1) (places (before + 1))) (whole_block g))

-- the plat area
pub same_plat_area : (g share : ℕ) (plat : SurveyPlat) (places : ℕ → ℕ → ℕ → Bool) (area : Fraction)
    → POSITIONS_ACROSS ≤ places_across g → IsNominalShare (suc g) share
    → IsPlatArea g plat places area ↔ IsPlatArea (suc g) plat (finer_land places) area
same_plat_area g share plat places area fits whole = (forth, back)
  where
    fourth : (n m a b all : ℕ) → 0 < n → m ≡ 4 * n → n * a ≡ all → m * b ≡ all → a ≡ 4 * b
    fourth n m a b all some more is is' =
        let same = rw more at is' in
        cancelled a (4 * b) n some (omega arith)

    shares : (a b off off' lots_sum units : ℕ) → a ≡ 4 * b → off' ≡ 4 * off → units ≡ lots_sum + a * off
        → units ≡ lots_sum + b * off'
    shares a b off off' lots_sum units less more is =
        let same = rw less at is in
        rw more (omega arith)

    four_shares : (b off off' lots_sum units : ℕ) → off' ≡ 4 * off → units ≡ lots_sum + b * off'
        → units ≡ lots_sum + 4 * b * off
    four_shares b off off' lots_sum units more is = let same = rw more at is in omega arith

    times_four : (n m b all : ℕ) → m ≡ 4 * n → m * b ≡ all → n * (4 * b) ≡ all
    times_four n m b all more is = let same = rw more at is in omega arith

    forth : IsPlatArea g plat places area → IsPlatArea (suc g) plat (finer_land places) area
    forth is = record {
      figures = is.figures;
      are = is.are;
      share = share;
      share_is = whole;
      over_is = is.over_is;
      sum_is =
          shares is.share share (places_off_lots g places) (places_off_lots (suc g) (finer_land places))
          (sum_by (printed_units is.figures) (lots_held g places)) area.units
          (fourth (places_of_position g) (places_of_position (suc g)) is.share share _ (some_places g fits)
          (position_of_four g fits) is.share_is whole)
          (off_lots_of_four g places fits) is.sum_is
          ∙ ap (λ held. sum_by (printed_units is.figures) held
          + share * places_off_lots (suc g) (finer_land places)) (sym (same_lots g places fits));
    }

    back : IsPlatArea (suc g) plat (finer_land places) area → IsPlatArea g plat places area
    back is = record {
      figures = is.figures;
      are = is.are;
      share = 4 * is.share;
      share_is =
          times_four (places_of_position g) (places_of_position (suc g)) is.share _ (position_of_four g fits)
          is.share_is;
      over_is = is.over_is;
      sum_is =
          four_shares is.share (places_off_lots g places) (places_off_lots (suc g) (finer_land places))
          (sum_by (printed_units is.figures) (lots_held g places)) area.units (off_lots_of_four g places fits)
          (is.sum_is
          ∙ ap (λ held. sum_by (printed_units is.figures) held
          + is.share * places_off_lots (suc g) (finer_land places)) (same_lots g places fits));
    }
