-- Other ways to read a place, over plain values.
use Rattle.std.proofs.Common.{◌≡◌, ◌<◌, ℕ, Bool, List, length, slice_index_or, ◌∙◌, subst, sym}
use Rattle.std.proofs.lemmas.List.{get_or_default}
use Rattle.std.specs.List.{Any}
use Rattle.twp_grid.specs.Townships.{Designation}
use Rattle.twp_grid.specs.Lands.{Lotting, SamePlaces}
use Rattle.twp_suggest.specs.Descriptions.{IsLandOfText, IsOnlyLandOfText}
use Rattle.twp_suggest.specs.Closed.{IsGiven, IsLandGiven, IsLandOfReadings, IsWayGiven, NamesSame}
use Rattle.twp_suggest.specs.Closed.IsGiven.{by_land, by_text}
use Rattle.twp_suggest.specs.Ways.{text_by}
use Rattle.twp_suggest.specs.declared.way.Way.{Way}
use Rattle.twp_suggest.specs.declared.reading.Reading.{Reading}

-- one of some readings
pub any_here : (P : Reading → Type 0) (readings : List Reading) (index : ℕ) (reading default : Reading)
    → index < length readings → slice_index_or readings index default ≡ reading → P reading
    → Any P readings
any_here P readings index reading default within is such =
    (index, reading, within, get_or_default readings index reading default within ∙ is, such)

-- the only land of a text is that of one of some readings
pub land_of_one : (lots : Lotting) (readings : List Reading) (text : List ℕ) (township : Designation)
    (places : ℕ → ℕ → ℕ → Bool) → IsOnlyLandOfText lots text places
    → Any (NamesSame lots township places) readings
    → IsLandOfReadings lots readings text township
land_of_one lots readings text township places only given others is =
    subst (λ (named : ℕ → ℕ → ℕ → Bool). Any (NamesSame lots township named) readings)
    (sym (only township others is)) given

pub is_same : (lots : Lotting) (township : Designation) (places more : ℕ → ℕ → ℕ → Bool) (reading : Reading)
    → IsLandOfText lots township reading.text.items more → SamePlaces places more
    → NamesSame lots township places reading
is_same lots township places more reading named same = record { more = more; named = named; same = same }

pub is_land_given : (lots : Lotting) (readings : List Reading) (own : Reading) (text : List ℕ)
    (township : Designation)
    (places : ℕ → ℕ → ℕ → Bool) → IsLandOfText lots township own.text.items places
    → IsLandOfReadings lots readings text township → IsLandGiven lots readings own text
is_land_given lots readings own text township places of_own given =
    record { township = township; places = places; of_own = of_own; given = given }

-- another way is given by its text
pub given_by_text : (lots : Lotting) (readings : List Reading) (own : Reading) (made text : List ℕ)
    (way : Way)
    → text ≡ text_by made way → Any (λ reading. reading.text.items ≡ text) readings
    → IsWayGiven lots readings own made way
given_by_text lots readings own made text way is given =
    subst (IsGiven lots readings own) is (by_text given)

-- or by its land
pub given_by_land : (lots : Lotting) (readings : List Reading) (own : Reading) (made text : List ℕ)
    (way : Way)
    → text ≡ text_by made way → IsLandGiven lots readings own text
    → IsWayGiven lots readings own made way
given_by_land lots readings own made text way is given =
    subst (IsGiven lots readings own) is (by_land given)
