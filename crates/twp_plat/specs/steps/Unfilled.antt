-- The search for quarter-quarters that lots and land that is not there do not fill. No public contract cites
-- this module.
use Rattle.std.specs.Prelude.{◌≡◌, ◌≢◌, ℕ, ◌+◌, ◌*◌, ◌≤◌, ◌<◌, List, Option, Some, None, get_or, min}
use Rattle.twp_grid.specs.Winding.{IsSection}
use Rattle.twp_grid.specs.Lots.{POSITIONS}
use Rattle.twp_land.specs.LotMaps.{NO_LAND, PLACES_OF_POSITION}
use Rattle.twp_land.specs.LotMarks.{marks_of}
use Rattle.twp_land.specs.steps.Marked.{PLACES}
use Rattle.twp_plat.specs.LotTables.{entered_for}
use Rattle.twp_plat.specs.steps.LandEntries.{lots_in}
use Rattle.twp_plat.specs.declared.lots.land_entries.LotEntries.{LotEntries}

-- the least number with a property, or None if there is none
abbrev pub IsLeast : Option ℕ → (ℕ → Type 0) → Type 0
IsLeast None Has = (number : ℕ) → ¬ Has number
IsLeast (Some least) Has = Has least × ((number : ℕ) → Has number → least ≤ number)

-- the smaller of two numbers, of which any may be absent
abbrev pub earlier_of : Option ℕ → Option ℕ → Option ℕ
earlier_of None second = second
earlier_of (Some one) None = Some one
earlier_of (Some one) (Some other) = Some (min one other)

-- the mark of a place, by its position and its number there
abbrev pub mark_within : List (List ℕ) → ℕ → ℕ → ℕ → ℕ
mark_within marks section position within =
    get_or (marks_of marks section) (position * PLACES_OF_POSITION + within) 0

-- the mark is that of a lot
abbrev pub IsLotMark : ℕ → Type 0
IsLotMark mark = (0 < mark) × (mark < NO_LAND)

-- the mark is that of a lot, and the number that of its record
abbrev pub IsRecordOfMark : List (List ℕ) → ℕ → ℕ → ℕ → Type 0
IsRecordOfMark records section mark number = IsLotMark mark × (entered_for records section mark ≡ number)

-- a place of the position has no mark
abbrev pub HasFreePlace : List (List ℕ) → ℕ → ℕ → Type 0
HasFreePlace marks section position =
    (within : ℕ) × (within < PLACES_OF_POSITION) × (mark_within marks section position within ≡ 0)

-- a place of the position has a mark
abbrev pub HasMarkedPlace : List (List ℕ) → ℕ → ℕ → Type 0
HasMarkedPlace marks section position =
    (within : ℕ) × (within < PLACES_OF_POSITION) × (mark_within marks section position within ≢ 0)

-- a place of the position is in the lot whose record has this number
abbrev pub IsLotRecordAt : List (List ℕ) → List (List ℕ) → ℕ → ℕ → ℕ → Type 0
IsLotRecordAt marks records section position number = (within : ℕ) × (within < PLACES_OF_POSITION)
    × IsRecordOfMark records section (mark_within marks section position within) number

-- the same, and another place has no mark
abbrev pub IsUnfilledAt : List (List ℕ) → List (List ℕ) → ℕ → ℕ → ℕ → Type 0
IsUnfilledAt marks records section position number = HasFreePlace marks section position
    × IsLotRecordAt marks records section position number

-- the same in one of a section's positions
abbrev pub IsUnfilledIn : List (List ℕ) → List (List ℕ) → ℕ → ℕ → Type 0
IsUnfilledIn marks records section number =
    (position : ℕ) × (position < POSITIONS) × IsUnfilledAt marks records section position number

-- the same in the township: the number is that of the record of a lot that does not fill a position
abbrev pub IsUnfilledRecord : List (List ℕ) → List (List ℕ) → ℕ → Type 0
IsUnfilledRecord marks records number =
    (section : ℕ) × IsSection section × IsUnfilledIn marks records section number

-- only sections to which lots were added have their marks
abbrev pub AreMarksOfLots : List (List ℕ) → LotEntries → Type 0
AreMarksOfLots marks entries = (section : ℕ) → IsSection section → lots_in entries section ≡ 0
    → (number : ℕ) → number < PLACES → ¬ IsLotMark (get_or (marks_of marks section) number 0)
