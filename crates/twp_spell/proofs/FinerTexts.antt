-- If each place is divided into four, the canonical text of land is the same.
use Rattle.std.proofs.Common.{◌≡◌, ℕ, suc, ◌*◌, ◌/◌, ◌≤◌, ◌<◌, ◌↔◌, Bool, List, [], ◌∷◌}
use Rattle.std.proofs.Common.{sym, ap, subst, ◌∙◌}
use Rattle.std.proofs.Common.{arith}
use Rattle.std.proofs.Math.Nat.{pow-succ'}
use Rattle.std.specs.List.{AllZip}
use Rattle.twp_grid.specs.Lots.{POSITIONS_ACROSS}
use Rattle.twp_grid.specs.Places.{places_across}
use Rattle.twp_grid.specs.Townships.{Designation}
use Rattle.twp_grid.specs.FinerLands.{cut_in_four, finer_land}
use Rattle.twp_grid.specs.Lands.{lot_of_place, off_lots}
use Rattle.twp_grid.specs.Lands.{standard_lots, HoldsEach}
use Rattle.twp_grid.proofs.FinerLands.{same_lot, same_off_lots}
use Rattle.twp_land.specs.steps.StandardLots.{are_standard_lots}
use Rattle.twp_spell.specs.CanonicalText.{HoldsSome, IsLotHeld, IsSectionList, IsSectionText}
use Rattle.twp_spell.specs.CanonicalText.{IsSectionOfLand, IsCanonicalText}
use Rattle.twp_spell.specs.CanonicalText.IsSectionList.{all, by_parts}
use Rattle.twp_spell.specs.WrittenParts.{AreWrittenParts}
use Rattle.twp_spell.proofs.CanonicalFacts.{one_text}
use Rattle.twp_spell.proofs.FinerParts.{place_coarser, place_finer, twice, same_parts}
use Rattle.twp_spell.proofs.Listings.{listed_as}

-- of the four places that a place is divided into, one is in the land if that place is
held_at_twice : (held : ℕ → ℕ → Bool) (column row : ℕ)
    → cut_in_four held (2 * column) (2 * row) ≡ held column row
held_at_twice held column row =
    ap (λ n. held n (2 * row / 2)) (twice column) ∙ ap (λ n. held column n) (twice row)

some_finer : (g : ℕ) (held : ℕ → ℕ → Bool) → HoldsSome g held → HoldsSome (suc g) (cut_in_four held)
some_finer g held some = record {
  column = 2 * some.column;
  row = 2 * some.row;
  place = place_finer g some.column some.row some.place;
  is_held = held_at_twice held some.column some.row ∙ some.is_held;
}

some_coarser : (g : ℕ) (held : ℕ → ℕ → Bool) → HoldsSome (suc g) (cut_in_four held) → HoldsSome g held
some_coarser g held some = record {
  column = some.column / 2;
  row = some.row / 2;
  place = place_coarser g some.column some.row some.place;
  is_held = some.is_held;
}

each_finer : (g section : ℕ) (held : ℕ → ℕ → Bool) → HoldsEach (standard_lots g) section held
    → HoldsEach (standard_lots (suc g)) section (cut_in_four held)
each_finer g section held each column row place land =
    each (column / 2) (row / 2) (place_coarser g column row place) land

each_coarser : (g section : ℕ) (held : ℕ → ℕ → Bool)
    → HoldsEach (standard_lots (suc g)) section (cut_in_four held) → HoldsEach (standard_lots g) section held
each_coarser g section held each column row place land =
    sym (held_at_twice held column row) ∙ each (2 * column) (2 * row) (place_finer g column row place) land

-- the lots in the land
lot_finer : (g section : ℕ) (held : ℕ → ℕ → Bool) (lot : ℕ) → POSITIONS_ACROSS ≤ places_across g
    → IsLotHeld (standard_lots g) section held lot
    → IsLotHeld (standard_lots (suc g)) section (cut_in_four held) lot
lot_finer g section held lot fits is = record {
  column = 2 * is.column;
  row = 2 * is.row;
  place = place_finer g is.column is.row is.place;
  of_lot =
      same_lot g section (2 * is.column) (2 * is.row) fits
      ∙ ap (λ n. lot_of_place g section n (2 * is.row / 2)) (twice is.column)
      ∙ ap (λ n. lot_of_place g section is.column n) (twice is.row)
      ∙ is.of_lot;
  is_held = held_at_twice held is.column is.row ∙ is.is_held;
}

lot_coarser : (g section : ℕ) (held : ℕ → ℕ → Bool) (lot : ℕ) → POSITIONS_ACROSS ≤ places_across g
    → IsLotHeld (standard_lots (suc g)) section (cut_in_four held) lot
    → IsLotHeld (standard_lots g) section held lot
lot_coarser g section held lot fits is = record {
  column = is.column / 2;
  row = is.row / 2;
  place = place_coarser g is.column is.row is.place;
  of_lot = sym (same_lot g section is.column is.row fits) ∙ is.of_lot;
  is_held = is.is_held;
}

-- a section's list and text
list_finer : (g section : ℕ) (held : ℕ → ℕ → Bool) (text : List ℕ) → POSITIONS_ACROSS ≤ places_across g
    → IsSectionList (standard_lots g) section held text
    → IsSectionList (standard_lots (suc g)) section (cut_in_four held) text
list_finer g section held text fits (all each is) = all (each_finer g section held each) is
list_finer g section held text fits (by_parts short lots parts lots_are parts_are is) =
    by_parts (λ each. short (each_coarser g section held each)) lots parts
    (listed_as (IsLotHeld (standard_lots g) section held)
    (IsLotHeld (standard_lots (suc g)) section (cut_in_four held)) ◌<◌ lots
    (λ lot held_lot. lot_finer g section held lot fits held_lot)
    (λ lot held_lot. lot_coarser g section held lot fits held_lot) lots_are)
    (subst (λ off. AreWrittenParts (suc g) off parts) (sym (same_off_lots g section held fits))
    ((same_parts g (off_lots (standard_lots g) section held) parts).0 parts_are))
    is

section_finer : (g : ℕ) (places : ℕ → ℕ → ℕ → Bool) (section : ℕ) (text : List ℕ)
    → POSITIONS_ACROSS ≤ places_across g
    → IsSectionText (standard_lots g) places section text
    → IsSectionText (standard_lots (suc g)) (finer_land places) section text
section_finer g places section text fits is = record {
  list = is.list;
  list_is = list_finer g section (places section) is.list fits is.list_is;
  text_is = is.text_is;
}

lines_finer : (g : ℕ) (places : ℕ → ℕ → ℕ → Bool) (sections : List ℕ) (lines : List (List ℕ))
    → POSITIONS_ACROSS ≤ places_across g
    → AllZip (IsSectionText (standard_lots g) places) sections lines
    → AllZip (IsSectionText (standard_lots (suc g)) (finer_land places)) sections lines
lines_finer g places [] [] fits are = tt
lines_finer g places [] (line ∷ lines) fits are = absurd are
lines_finer g places (section ∷ sections) [] fits are = absurd are
lines_finer g places (section ∷ sections) (line ∷ lines) fits are =
    (section_finer g places section line fits are.0, lines_finer g places sections lines fits are.1)

text_finer : (g : ℕ) (township : Designation) (places : ℕ → ℕ → ℕ → Bool) (text : List ℕ)
    → POSITIONS_ACROSS ≤ places_across g
    → IsCanonicalText (standard_lots g) township places text
    → IsCanonicalText (standard_lots (suc g)) township (finer_land places) text
text_finer g township places text fits is = record {
  sections = is.sections;
  lines = is.lines;
  sections_are =
      listed_as (IsSectionOfLand g places) (IsSectionOfLand (suc g) (finer_land places)) ◌<◌ is.sections
      (λ section of_land. (of_land.0, some_finer g (places section) of_land.1))
      (λ section of_land. (of_land.0, some_coarser g (places section) of_land.1)) is.sections_are;
  lines_are = lines_finer g places is.sections is.lines fits is.lines_are;
  text_is = is.text_is;
}

finer_fits : (g : ℕ) → POSITIONS_ACROSS ≤ places_across g → POSITIONS_ACROSS ≤ places_across (suc g)
finer_fits g fits = let power = pow-succ' 2 g in omega arith

pub same_text : (g : ℕ) (township : Designation) (places : ℕ → ℕ → ℕ → Bool) (text : List ℕ)
    → POSITIONS_ACROSS ≤ places_across g
    → IsCanonicalText (standard_lots g) township places text
    ↔ IsCanonicalText (standard_lots (suc g)) township (finer_land places) text
same_text g township places text fits = (text_finer g township places text fits, back)
  where
    back : IsCanonicalText (standard_lots (suc g)) township (finer_land places) text
        → IsCanonicalText (standard_lots g) township places text
    back is =
        let found = one_text (standard_lots g) (are_standard_lots g fits) township places in
        let only = one_text (standard_lots (suc g)) (are_standard_lots (suc g) (finer_fits g fits)) township
        (finer_land places) in
        let same : found.0 ≡ text =
        only.2 found.0 (text_finer g township places found.0 fits found.1) ∙ sym (only.2 text is) in
        subst (λ t. IsCanonicalText (standard_lots g) township places t) same found.1
