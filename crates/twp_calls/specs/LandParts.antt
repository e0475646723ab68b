-- The written parts of land as data: the lots and the aliquot parts of its canonical text, in their order.
use Rattle.std.specs.Prelude.{◌≡◌, ℕ, ◌+◌, ◌<◌, ◌≤◌, ◌++◌, Bool, List, [], ◌∷◌, length, map, Some}
use Rattle.std.specs.Prelude.{drop, slice_index_or}
use Rattle.std.specs.List.{flat_map, AllZip}
use Rattle.twp_grid.specs.Lots.{position_of_lot}
use Rattle.twp_grid.specs.Places.{PLACE_DIGITS}
use Rattle.twp_grid.specs.Spans.{Rectangle, whole_block, position_block}
use Rattle.twp_grid.specs.Winding.{SECTION_COUNT}
use Rattle.twp_grid.specs.Lands.{off_lots}
use Rattle.twp_grid.specs.Lands.{STANDARD_LOTS, HoldsEach}
use Rattle.twp_spell.specs.CanonicalText.{IsLotHeld}
use Rattle.twp_grid.specs.Listing.{AreListed}
use Rattle.twp_spell.specs.PartBlocks.{AreWrittenBlocks}
use Rattle.twp_calls.specs.Answers.{ACCEPTED, NO_ROOM, bare, with_text}
use Rattle.twp_calls.specs.Calls.{Answers}
use Rattle.twp_calls.specs.LandCalls.{OnRegularLand}
use Rattle.twp_calls.specs.declared.answer.TownshipAnswer.{TownshipAnswer}
use Rattle.twp_calls.specs.declared.land.TownshipLand.{TownshipLand as GivenLand}
use Rattle.twp_calls.specs.declared.land_parts.TownshipPart.{TownshipPart}

-- a block of a section, with the lot that it is, or 0
abbrev pub part_with : ℕ → ℕ → Rectangle → TownshipPart
part_with section lot block = record {
  section = section;
  lot = lot;
  column = block.columns.start;
  row = block.rows.start;
  columns = block.columns.len;
  rows = block.rows.len;
}

-- the part is this lot of the section, with the block of its position
pub record IsLotPart (section lot : ℕ) (part : TownshipPart) : Type 0 where
  pub column : ℕ
  pub row : ℕ
  pub position_is : position_of_lot section lot ≡ Some (column, row)
  pub part_is : part ≡ part_with section lot (position_block PLACE_DIGITS column row)

-- The parts of a section: the section, if the land contains every place of it; otherwise the lots in
-- the land, by ascending number, and then the written parts of the land off the lots.
pub data AreSectionParts (section : ℕ) (held : ℕ → ℕ → Bool) (parts : List TownshipPart) : Type 0 where
  all : HoldsEach STANDARD_LOTS section held → parts ≡ part_with section 0 (whole_block PLACE_DIGITS) ∷ []
      → AreSectionParts section held parts
  by_parts : ¬ HoldsEach STANDARD_LOTS section held → (lots : List ℕ) (of_lots : List TownshipPart)
      (blocks : List Rectangle) → AreListed (IsLotHeld STANDARD_LOTS section held) ◌<◌ lots
      → AllZip (IsLotPart section) lots of_lots
      → AreWrittenBlocks PLACE_DIGITS (off_lots STANDARD_LOTS section held) blocks
      → parts ≡ of_lots ++ map (part_with section 0) blocks → AreSectionParts section held parts

-- the parts of the first sections, up to this number of them, one section after another
pub record ArePartsTo (count : ℕ) (places : ℕ → ℕ → ℕ → Bool) (parts : List TownshipPart)
    : Type 0 where
  pub lists : List (List TownshipPart)
  pub count_is : length lists ≡ count
  pub each : (before : ℕ) → before < count
      → AreSectionParts (before + 1) (places (before + 1)) (slice_index_or lists before [])
  pub parts_are : parts ≡ flat_map (λ list. list) lists

-- the parts of land
abbrev pub AreLandParts : (ℕ → ℕ → ℕ → Bool) → List TownshipPart → Type 0
AreLandParts = ArePartsTo SECTION_COUNT

-- Parts were written at the front of the room, or there is less room than their number.
pub data IsPartsPut (parts old new : List TownshipPart) (answer : TownshipAnswer) : Type 0 where
  parts_put : length parts ≤ length old → new ≡ parts ++ drop (length parts) old
      → answer ≡ with_text (bare ACCEPTED) (length parts) → IsPartsPut parts old new answer
  parts_not_put : length old < length parts → answer ≡ with_text (bare NO_ROOM) (length parts)
      → IsPartsPut parts old new answer

-- the parts of land were put there
pub record ArePartsPut (places : ℕ → ℕ → ℕ → Bool) (old new : List TownshipPart)
    (answer : TownshipAnswer) : Type 0 where
  pub parts : List TownshipPart
  pub are : AreLandParts places parts
  pub put_is : IsPartsPut parts old new answer

-- `township_land_parts`, which nothing refuses
abbrev pub IsLandPartsCall : GivenLand → List TownshipPart → List TownshipPart → TownshipAnswer → Type 0
IsLandPartsCall land old new = OnRegularLand land (λ township places.
    Answers (ArePartsPut places old new) (λ answer. ⊥))
