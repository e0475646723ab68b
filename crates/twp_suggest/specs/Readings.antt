-- What the readings of a text are: changes of the text, each by a rule, and the descriptions that come of
-- them.
use Rattle.std.specs.Prelude.{◌≡◌, ◌≤◌, ℕ, Bool, true, List, [], ◌∷◌, Option, Some, None, length, map}
use Rattle.std.specs.Prelude.{All, AllPairs}
use Rattle.twp_grid.specs.Townships.{Designation}
use Rattle.twp_grid.specs.Lands.{Lotting, SamePlaces}
use Rattle.twp_suggest.specs.Descriptions.{AreItemsOf, IsAccepted, IsClear, IsDescribed, IsLandOfText}
use Rattle.twp_suggest.specs.declared.meaning.wording.Excepted.{Excepted}
use Rattle.twp_grammar.specs.declared.item.Item.{Item}
use Rattle.twp_rules.specs.Arrangement.{lie_with_sections}
use Rattle.twp_rules.specs.Changes.{Change, changed_from, seen}
use Rattle.twp_rules.specs.Copying.{copy_whole}
use Rattle.twp_rules.specs.Moves.{MayBeMade}
use Rattle.twp_suggest.specs.Closed.{AreClosed}
use Rattle.twp_suggest.specs.Repeats.{AreRepeated}
use Rattle.twp_suggest.specs.declared.reading.Reading.{Reading}

-- the land that is excepted, if any is, lies with its sections
abbrev pub LiesExcepted : List ℕ → List Change → Option Excepted → Type 0
LiesExcepted text changes None = Unit {0}
LiesExcepted text changes (Some part) = lie_with_sections text changes part.at part.items ≡ true

-- LAND LIES WITH ITS SECTIONS: all land of the changed text is in the section to which the text assigns it
pub record LiesWithSections (text : List ℕ) (changes : List Change) : Type 0 where
  pub items : List Item
  pub excepted : Option Excepted
  pub are_items : AreItemsOf (changed_from 0 text changes) items excepted
  pub land : lie_with_sections text changes 0 items ≡ true
  pub other : LiesExcepted text changes excepted

-- A READING of a text on a plat: the result of its changes, which the reader accepts; steps are copied whole;
-- text left out as repeated repeats what is before it; and land lies with its sections, unless the text is
-- clear and stays as it is
pub record IsReading (lots : Lotting) (text : List ℕ) (reading : Reading) : Type 0 where
  pub made : MayBeMade text (map seen reading.changes.items)
  pub copies : copy_whole text (map seen reading.changes.items) ≡ true
  pub repeated : AreRepeated lots text [] 0 (map seen reading.changes.items)
  pub described : IsDescribed lots reading.manner
      (changed_from 0 text (map seen reading.changes.items))
      reading.text.items
  pub accepted : IsAccepted reading.text.items
  pub lies : (reading.changes.items ≡ [] → ¬ IsClear text)
      → LiesWithSections text (map seen reading.changes.items)

-- the most readings
abbrev pub READINGS_MOST : ℕ
READINGS_MOST = 8

-- on a plat with these lots, two texts never name the same places, in any township
abbrev pub NameOtherLand : Lotting → List ℕ → List ℕ → Type 0
NameOtherLand lots one other = (township : Designation) (places more : ℕ → ℕ → ℕ → Bool)
    → IsLandOfText lots township one places → IsLandOfText lots township other more
    → ¬ SamePlaces places more

-- other texts, of other land
pub record AreOther (lots : Lotting) (one other : Reading) : Type 0 where
  pub texts : one.text.items ≡ other.text.items → ⊥
  pub land : NameOtherLand lots one.text.items other.text.items

-- the text itself, without a change
pub record IsItself (text : List ℕ) (readings : List Reading) : Type 0 where
  pub reading : Reading
  pub one : readings ≡ reading ∷ []
  pub unchanged : reading.changes.items ≡ []
  pub same : reading.text.items ≡ text

-- some readings of a text, each of other land, and not too many
pub record AreSomeReadings (lots : Lotting) (text : List ℕ) (readings : List Reading) : Type 0 where
  pub each : All (IsReading lots text) readings
  pub apart : AllPairs (AreOther lots) readings
  pub few : length readings ≤ READINGS_MOST

-- THE READINGS of a text on a plat: a clear text has only itself; the readings of any other resolve no
-- ambiguity silently
pub record AreReadings (lots : Lotting) (text : List ℕ) (readings : List Reading) : Type 0 where
  pub some : AreSomeReadings lots text readings
  pub closed : ¬ IsClear text → AreClosed lots text readings
  pub itself : IsClear text → IsItself text readings

-- a reading is added to some readings of whatever text it is a reading of, or not
abbrev pub MayBeAdded : Lotting → Reading → List Reading → List Reading → Type 0
MayBeAdded lots new before after = (text : List ℕ)
    → AreSomeReadings lots text before → IsReading lots text new → AreSomeReadings lots text after
