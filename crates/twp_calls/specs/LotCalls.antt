-- What each call by a lot table answers, for all that it can be given.
use Rattle.std.specs.Prelude.{◌≡◌, ℕ, List}
use Rattle.twp_measure.specs.Areas.{Fraction, IsRounded}
use Rattle.twp_plat.specs.LotTexts.{IsLotTable}
use Rattle.twp_grid.specs.Townships.{Designation}
use Rattle.twp_plat.specs.declared.lots.table.LotTable.{LotTable}
use Rattle.twp_answers.specs.LotLands.{HasLotAreaOf, HasNoLotAreaOf}
use Rattle.twp_explain.specs.LotRefusals.{AreNoLots}
use Rattle.twp_calls.specs.Answers.{ACCEPTED, NO_LOTS, bare, accepted_acres}
use Rattle.twp_calls.specs.Calls.{Answers, IsFractionOf, IsRefusedFor}
use Rattle.twp_calls.specs.GivenLots.{given_lots}
use Rattle.twp_calls.specs.GivenTownships.{IsGivenTownship, IsNoGivenTownship}
use Rattle.twp_calls.specs.declared.answer.TownshipAnswer.{TownshipAnswer}
use Rattle.twp_calls.specs.declared.fraction.TownshipFraction.{TownshipFraction}
use Rattle.twp_calls.specs.declared.lots.TownshipLots.{TownshipLots as GivenLots}

-- The given township is one, in which the call answers by the given lots, or it is none.
pub data ByLots (given : GivenLots) (Answers : Designation → TownshipAnswer → Type 0)
    (answer : TownshipAnswer) : Type 0 where
  by_lots : (township : Designation) → IsGivenTownship given.township township → Answers township answer
      → ByLots given Answers answer
  by_no_lots : IsNoGivenTownship given.township → answer ≡ bare NO_LOTS → ByLots given Answers answer

-- `township_lots_read`: the parts of the lot table in the bytes
pub record AreLotsRead (bytes : List ℕ) (new : GivenLots) (answer : TownshipAnswer) : Type 0 where
  pub table : LotTable
  pub lots : IsLotTable bytes table
  pub parts : new ≡ given_lots table
  pub answer_is : answer ≡ bare ACCEPTED

abbrev pub IsLotsReadCall : List ℕ → GivenLots → TownshipAnswer → Type 0
IsLotsReadCall bytes new = Answers (AreLotsRead bytes new) (IsRefusedFor (AreNoLots bytes))

-- the answer is the hundredths of an acre of an area with this property: rounded once, half up
pub record AreAcresAnswered (IsSuch : Fraction → Type 0) (answer : TownshipAnswer) : Type 0 where
  pub area : Fraction
  pub is : IsSuch area
  pub hundredths : ℕ
  pub rounded : IsRounded area hundredths
  pub answer_is : answer ≡ accepted_acres hundredths

-- the parts of such an area were written
pub record IsAreaAnswered (IsSuch : Fraction → Type 0) (new : TownshipFraction)
    (answer : TownshipAnswer) : Type 0 where
  pub area : Fraction
  pub is : IsSuch area
  pub parts : IsFractionOf new area
  pub answer_is : answer ≡ bare ACCEPTED

-- `township_lots_acres`: the hundredths of an acre of the land described
abbrev pub IsLotsAcresCall : GivenLots → List ℕ → TownshipAnswer → Type 0
IsLotsAcresCall given description = ByLots given (λ township.
    Answers (AreAcresAnswered (HasLotAreaOf township given.lots description))
    (IsRefusedFor (HasNoLotAreaOf township given.lots description)))

-- `township_lots_area`: the parts of its exact area
abbrev pub IsLotsAreaCall : GivenLots → List ℕ → TownshipFraction → TownshipAnswer → Type 0
IsLotsAreaCall given description new = ByLots given (λ township.
    Answers (IsAreaAnswered (HasLotAreaOf township given.lots description) new)
    (IsRefusedFor (HasNoLotAreaOf township given.lots description)))
