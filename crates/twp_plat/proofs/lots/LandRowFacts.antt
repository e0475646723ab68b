-- What one record of a lot table with land is for, and the places that it holds.
use Rattle.std.proofs.Common.{◌≡◌, ℕ, ◌≤◌, ◌<◌, List, length, inl, inr}
use Rattle.std.proofs.Common.{sym}
use Rattle.std.proofs.Common.{ap, subst, ◌∙◌, arith}
use Rattle.twp_grid.specs.Winding.{IsSection}
use Rattle.twp_grammar.specs.declared.item.Step.{Step}
use Rattle.twp_measure.specs.LengthTexts.{IsShortNumber}
use Rattle.twp_notes.specs.Records.{Fields, field, record_at}
use Rattle.twp_plat.specs.LandTexts.{AreAliquotParts, parts_at}
use Rattle.twp_plat.specs.LandRecords.{IsForLot, HasNoLot, HoldsPlace}
use Rattle.twp_plat.specs.steps.LandEntries.{IsForLand, IsForMark, IsAdded}
use Rattle.twp_plat.specs.steps.LandEntries.{IsMarkOf}
use Rattle.twp_plat.specs.declared.lots.fault.LotsFault.TheVariants as fault
use Rattle.twp_plat.specs.declared.lots.land_entries.LotEntries.{LotEntries}
use Rattle.twp_plat.proofs.lots.LandReading.{one_parts}

-- a short number is only one number
pub one_number : (text : List ℕ) (n m : ℕ) → IsShortNumber text n → IsShortNumber text m → n ≡ m
one_number text n m is is' = is.value ∙ sym is'.value

-- a record for a lot is for no other, and not for land that is not there
pub one_lot : (fields : Fields) (section lot section' lot' : ℕ) → IsForLot fields section lot
    → IsForLot fields section' lot' → (section ≡ section') × (lot ≡ lot')
one_lot fields section lot section' lot' is is' = (
  one_number (field fields 0) section section' is.section_is.0 is'.section_is.0,
  one_number (field fields 1) lot lot' is.number_is is'.number_is,
)

pub lot_or_none : (fields : Fields) (section lot : ℕ) → IsForLot fields section lot → HasNoLot fields → ⊥
lot_or_none fields section lot is none =
    let some = is.number_is.numeral.0 in
    let empty : length (field fields 1) ≡ 0 = ap length none.0 in
    absurd (omega (arith, some, empty))

-- a mark is more than 0
pub mark_some : (fields : Fields) (section mark : ℕ) → IsForMark fields section mark → 1 ≤ mark
mark_some fields section mark (inl lot) = lot.least
mark_some fields section mark (inr none) = omega (arith, none.1)

-- the section of a record
pub mark_section : (fields : Fields) (section mark : ℕ) → IsForMark fields section mark
    → IsShortNumber (field fields 0) section
mark_section fields section mark (inl lot) = lot.section_is.0
mark_section fields section mark (inr (none, is)) = none.1.0

pub mark_range : (fields : Fields) (section mark : ℕ) → IsForMark fields section mark → IsSection section
mark_range fields section mark (inl lot) = lot.section_is.1
mark_range fields section mark (inr (none, is)) = none.1.1

-- what a record for land is for
pub land_mark : (fields : Fields) (section mark : ℕ) (entries : LotEntries)
    → IsForLand fields section mark entries → IsForMark fields section mark
land_mark fields section mark entries (inl (is, free, text)) = inl is
land_mark fields section mark entries (inr none) = inr none

-- what a record was entered for
pub entered_mark : (fields : Fields) (section mark number : ℕ) (old new : LotEntries)
    → IsAdded fields section mark number old new → IsForMark fields section mark
entered_mark fields section mark number old new (inl added) = inl added.0
entered_mark fields section mark number old new (inr (none, is, same)) = inr (none, is)

-- the places that an entered record holds are those of its parts
pub held_in : (fields : Fields) (section mark section' column row : ℕ) (parts : List (List Step))
    → IsForMark fields section mark → AreAliquotParts (field fields 3) parts
    → HoldsPlace fields section' column row → (section' ≡ section) × (0 < parts_at parts column row)
held_in fields section mark section' column row parts is_for are holds = (
  one_number (field fields 0) section' section holds.section_is.0 (mark_section fields section mark is_for),
  subst (λ (ps : List (List Step)). 0 < parts_at ps column row)
      (one_parts (field fields 3) holds.parts parts holds.are are) holds.some,
)

-- a place of an earlier record has a mark
pub had_mark : (rows : List Fields) (count section column row mark : ℕ)
    → IsMarkOf rows count section column row mark
    → (index : ℕ) → index < count → HoldsPlace (record_at rows index) section column row → 0 < mark
had_mark rows count section column row mark (inl by) index below holds = mark_some _ section mark by.is_for
had_mark rows count section column row mark (inr (zero_is, none)) index below holds =
    absurd (none index below holds)
