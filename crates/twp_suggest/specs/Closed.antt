-- No ambiguity is resolved silently: if a place can be read in two ways, the other reading is given as well.
use Rattle.std.specs.Prelude.{◌≡◌, ℕ, Bool, true, List, map}
use Rattle.std.specs.Prelude.{All, Any}
use Rattle.twp_grid.specs.Townships.{Designation}
use Rattle.twp_grid.specs.Lands.{Lotting, SamePlaces}
use Rattle.twp_suggest.specs.Descriptions.{IsLandOfText}
use Rattle.twp_rules.specs.declared.rule.Rule.TheVariants.{Word}
use Rattle.twp_rules.specs.Changes.{Change, changed_from, seen}
use Rattle.twp_suggest.specs.declared.reading.Reading.{Reading}
use Rattle.twp_suggest.specs.declared.way.Way.{Way}
use Rattle.twp_suggest.specs.Sharing.{IsShared, has_place}
use Rattle.twp_suggest.specs.Ways.{AreTurned, text_by}

-- a reading names these places in a township, on a plat with these lots
pub record NamesSame (lots : Lotting) (township : Designation) (places : ℕ → ℕ → ℕ → Bool)
    (reading : Reading) : Type 0 where
  pub more : ℕ → ℕ → ℕ → Bool
  pub named : IsLandOfText lots township reading.text.items more
  pub same : SamePlaces places more

-- a text names no land in a township, or that of one of some readings
abbrev pub IsLandOfReadings : Lotting → List Reading → List ℕ → Designation → Type 0
IsLandOfReadings lots readings text township =
    (others : ℕ → ℕ → ℕ → Bool) → IsLandOfText lots township text others
    → Any (NamesSame lots township others) readings

-- the same in the township of a reading
pub record IsLandGiven (lots : Lotting) (readings : List Reading) (own : Reading) (text : List ℕ)
    : Type 0 where
  pub township : Designation
  pub places : ℕ → ℕ → ℕ → Bool
  pub of_own : IsLandOfText lots township own.text.items places
  pub given : IsLandOfReadings lots readings text township

-- a text is the text of one of some readings, or names no land that none of them names
pub data IsGiven (lots : Lotting) (readings : List Reading) (own : Reading) (text : List ℕ) : Type 0 where
  by_text : Any (λ reading. reading.text.items ≡ text) readings → IsGiven lots readings own text
  by_land : IsLandGiven lots readings own text → IsGiven lots readings own text

-- the other way to read a place is given
abbrev pub IsWayGiven : Lotting → List Reading → Reading → List ℕ → Way → Type 0
IsWayGiven lots readings own made way = IsGiven lots readings own (text_by made way)

-- so is that of each place of what a reading's changes make of a text
pub record AreWaysGiven (lots : Lotting) (readings : List Reading) (own : Reading) (text made : List ℕ)
    (changes : List Change) : Type 0 where
  pub turned : AreTurned (IsWayGiven lots readings own made) text made Word 0 0 changes
  pub shared : has_place 0 made ≡ true → IsShared (IsWayGiven lots readings own made) text made changes

-- the other ways to read each place of a reading are given
abbrev pub IsClosed : Lotting → List ℕ → List Reading → Reading → Type 0
IsClosed lots text readings own =
    AreWaysGiven lots readings own text (changed_from 0 text (map seen own.changes.items))
    (map seen own.changes.items)

-- NOTHING AMBIGUOUS IS DECIDED by some readings of a text
abbrev pub AreClosed : Lotting → List ℕ → List Reading → Type 0
AreClosed lots text readings = All (IsClosed lots text readings) readings
