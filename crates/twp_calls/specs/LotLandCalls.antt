-- What each call on land by a lot table answers, for all that it can be given.
use Rattle.std.specs.Prelude.{◌≡◌, ◌⊎◌, ℕ, List, Bool}
use Rattle.twp_grid.specs.Lands.{HasWholeLots, Lotting}
use Rattle.twp_grid.specs.Townships.{Designation}
use Rattle.twp_plat.specs.LotTables.{lots_of}
use Rattle.twp_spell.specs.CanonicalText.{IsCanonicalText}
use Rattle.twp_answers.specs.Answers.{IsNoDescription}
use Rattle.twp_answers.specs.LotLands.{HasLotArea, IsLackingLot}
use Rattle.twp_answers.specs.OnLands.{IsLandOf}
use Rattle.twp_calls.specs.Answers.{ACCEPTED, NO_LAND, bare}
use Rattle.twp_calls.specs.Calls.{Answers, IsRefusedFor, IsTextPut}
use Rattle.twp_calls.specs.GivenLands.{IsGivenLand}
use Rattle.twp_calls.specs.LandCalls.{InOneTownship, OfOnePlat, OnLand}
use Rattle.twp_calls.specs.LotCalls.{AreAcresAnswered, ByLots, IsAreaAnswered}
use Rattle.twp_calls.specs.WhichPlats.{IsMeasuredBy, plat_of_land, plat_of_lots}
use Rattle.twp_calls.specs.declared.answer.TownshipAnswer.{TownshipAnswer}
use Rattle.twp_calls.specs.declared.fraction.TownshipFraction.{TownshipFraction}
use Rattle.twp_calls.specs.declared.land.TownshipLand.{TownshipLand as GivenLand}
use Rattle.twp_calls.specs.declared.lots.TownshipLots.{TownshipLots as GivenLots}

-- The set contains each of these lots wholly or not at all, and this holds of the answer; or it contains
-- part of a lot, and so is no land.
pub data WithWholeLots (lots : Lotting) (places : ℕ → ℕ → ℕ → Bool)
    (Answers : TownshipAnswer → Type 0) (answer : TownshipAnswer) : Type 0 where
  with_whole : HasWholeLots lots places → Answers answer → WithWholeLots lots places Answers answer
  with_part : ¬ HasWholeLots lots places → answer ≡ bare NO_LAND
      → WithWholeLots lots places Answers answer

-- `township_lots_land_read`: the land that the description names on the table's plat
pub record IsLandReadBy (given : GivenLots) (township : Designation) (description : List ℕ)
    (new : GivenLand) (answer : TownshipAnswer) : Type 0 where
  pub places : ℕ → ℕ → ℕ → Bool
  pub named : IsLandOf (lots_of given.lots) township description places
  pub land : IsGivenLand new township places
  pub plat_is : plat_of_land new ≡ plat_of_lots given
  pub answer_is : answer ≡ bare ACCEPTED

abbrev pub IsLotsLandReadCall : GivenLots → List ℕ → GivenLand → TownshipAnswer → Type 0
IsLotsLandReadCall given description new = ByLots given (λ township.
    Answers (IsLandReadBy given township description new)
    (IsRefusedFor (IsNoDescription (lots_of given.lots) township description)))

-- what a call by a lot table answers for land on the table's plat
abbrev pub OnTableLand : GivenLots → GivenLand
    → (Designation → (ℕ → ℕ → ℕ → Bool) → TownshipAnswer → Type 0) → TownshipAnswer → Type 0
OnTableLand given land Accepted = ByLots given (λ township. OnLand land (λ other places.
    InOneTownship township other (OfOnePlat (IsMeasuredBy (plat_of_land land) (plat_of_lots given))
    (WithWholeLots (lots_of given.lots) places (Accepted township places)))))

-- `township_lots_land_text`: the canonical text of the land on the table's plat, which nothing refuses
abbrev pub IsLotsLandTextCall : GivenLots → GivenLand → List ℕ → List ℕ → TownshipAnswer → Type 0
IsLotsLandTextCall given land old new = OnTableLand given land (λ township places.
    Answers (IsTextPut (IsCanonicalText (lots_of given.lots) township places) old new) (λ answer. ⊥))

-- this holds of the answer for the land; or the table lacks a lot of it
abbrev pub OfLandByLots : GivenLots → GivenLand → ((ℕ → ℕ → ℕ → Bool) → TownshipAnswer → Type 0)
    → TownshipAnswer → Type 0
OfLandByLots given land Accepted = OnTableLand given land (λ township places answer.
    Accepted places answer ⊎ IsRefusedFor (IsLackingLot given.lots places) answer)

-- `township_lots_land_acres`: the hundredths of an acre of the land
abbrev pub IsLotsLandAcresCall : GivenLots → GivenLand → TownshipAnswer → Type 0
IsLotsLandAcresCall given land =
    OfLandByLots given land (λ places. AreAcresAnswered (HasLotArea given.lots places))

-- `township_lots_land_area`: the parts of its exact area
abbrev pub IsLotsLandAreaCall : GivenLots → GivenLand → TownshipFraction → TownshipAnswer → Type 0
IsLotsLandAreaCall given land new =
    OfLandByLots given land (λ places. IsAreaAnswered (HasLotArea given.lots places) new)
