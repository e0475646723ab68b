-- The area of a description by a lot table, and land on its plat. No public contract cites this module.
use Rattle.std.specs.Prelude.{◌≡◌, ℕ, Bool, List, Result, Ok, Err}
use Rattle.twp_grid.specs.Lands.{HasWholeLots}
use Rattle.twp_measure.specs.Areas.{Fraction}
use Rattle.twp_grid.specs.Townships.{Designation}
use Rattle.twp_plat.specs.declared.lots.returned.ReturnedLots.{ReturnedLots}
use Rattle.twp_answers.specs.declared.stop.Stop.{Stop}
use Rattle.twp_answers.specs.declared.stop.Stop.TheVariants as stop
use Rattle.twp_answers.specs.declared.stop.RunFault.TheVariants as run
use Rattle.twp_plat.specs.LotTables.{lots_of}
use Rattle.twp_answers.specs.LotLands.{HasLotAreaOf, HasNoLotAreaOf}
use Rattle.twp_calls.specs.GivenLands.{IsGivenLand}
use Rattle.twp_calls.specs.GivenTownships.{IsGivenTownship}
use Rattle.twp_calls.specs.LotLandCalls.{OnTableLand}
use Rattle.twp_calls.specs.WhichPlats.{IsMeasuredBy, plat_of_land, plat_of_lots}
use Rattle.twp_calls.specs.declared.answer.TownshipAnswer.{TownshipAnswer}
use Rattle.twp_calls.specs.declared.land.TownshipLand.{TownshipLand as GivenLand}
use Rattle.twp_calls.specs.declared.lots.TownshipLots.{TownshipLots as GivenLots}

-- why a description has no area by a lot table: it is refused, or memory ran out
abbrev pub StopsByLots : Designation → ReturnedLots → List ℕ → Stop → Type 0
StopsByLots township lots description (stop.Refused refusal) =
    HasNoLotAreaOf township lots description refusal
StopsByLots township lots description (stop.Failed fault) = fault ≡ run.Memory

-- the area of a description by a lot table, or why there is none
abbrev pub AnswersByLots : Designation → ReturnedLots → List ℕ → Result Fraction Stop → Type 0
AnswersByLots township lots description (Ok area) = HasLotAreaOf township lots description area
AnswersByLots township lots description (Err stopped) = StopsByLots township lots description stopped

-- the data is land with these places, on the plat of a lot table
pub record IsTableLand (given : GivenLots) (land : GivenLand) (township : Designation)
    (places : ℕ → ℕ → ℕ → Bool) : Type 0 where
  pub township_is : IsGivenTownship given.township township
  pub land_is : IsGivenLand land township places
  pub plat_is : IsMeasuredBy (plat_of_land land) (plat_of_lots given)
  pub whole : HasWholeLots (lots_of given.lots) places

-- what any call answers where the data is no such land
abbrev pub IsNoTableLand : GivenLots → GivenLand → TownshipAnswer → Type 0
IsNoTableLand given land = OnTableLand given land (λ township places answer. ⊥)
