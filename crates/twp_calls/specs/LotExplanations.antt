-- What the calls that explain refusals by lot tables answer, for all that they can be given.
use Rattle.std.specs.Prelude.{◌≡◌, ◌+◌, ◌*◌, ℕ, List}
use Rattle.twp_measure.specs.Areas.{Fraction}
use Rattle.twp_grid.specs.Lands.{HasLot}
use Rattle.twp_grid.specs.Townships.{Designation}
use Rattle.twp_grid.specs.Winding.{IsSection}
use Rattle.twp_grid.specs.declared.refusal.Refusal.{Refusal}
use Rattle.twp_plat.specs.LotTexts.{IsLotTable}
use Rattle.twp_plat.specs.LotTables.{figure_of, lots_of}
use Rattle.twp_plat.specs.declared.lots.returned.ReturnedLots.{ReturnedLots}
use Rattle.twp_plat.specs.declared.lots.table.LotTable.{LotTable}
use Rattle.twp_plat.specs.LotsFaults.{lacking_refusal}
use Rattle.twp_answers.specs.LotLands.{HasLotAreaOf, LacksLotOf}
use Rattle.twp_explain.specs.LotRefusals.{AreNoLots}
use Rattle.twp_calls.specs.Answers.{ACCEPTED, bare}
use Rattle.twp_calls.specs.Calls.{Answers}
use Rattle.twp_calls.specs.Explanations.{IsExplainedDescription, IsExplainedRefusal, IsNoted}
use Rattle.twp_calls.specs.LotCalls.{ByLots}
use Rattle.twp_calls.specs.declared.answer.TownshipAnswer.{TownshipAnswer}
use Rattle.twp_calls.specs.declared.lots.TownshipLots.{TownshipLots as GivenLots}

-- `township_explain_lots`: of bytes that are a lot table nothing is explained
pub record IsOfLotTable (bytes : List ℕ) (answer : TownshipAnswer) : Type 0 where
  pub table : LotTable
  pub lots : IsLotTable bytes table
  pub answer_is : answer ≡ bare ACCEPTED

abbrev pub ExplainsLots : List ℕ → List ℕ → List ℕ → TownshipAnswer → Type 0
ExplainsLots bytes old new = Answers (IsOfLotTable bytes) (IsExplainedRefusal (AreNoLots bytes) old new)

-- the place is that of this lot of the plat, for which no figure is returned
pub record IsLackingAt (lots : ReturnedLots) (at section lot : ℕ) : Type 0 where
  pub section_is : IsSection section
  pub lot_is : HasLot (lots_of lots) section lot
  pub place_is : at ≡ 100 * section + lot
  pub lacks : figure_of lots section lot ≡ 0

-- the place is not that of such a lot
abbrev pub IsNoLackingAt : ReturnedLots → ℕ → Type 0
IsNoLackingAt lots at = (section lot : ℕ) → ¬ IsLackingAt lots at section lot

-- the refusal is that of the lot at this place
pub record IsRefusalAt (lots : ReturnedLots) (at : ℕ) (refusal : Refusal) : Type 0 where
  pub section : ℕ
  pub lot : ℕ
  pub is : IsLackingAt lots at section lot
  pub refusal_is : refusal ≡ lacking_refusal section lot

-- `township_explain_lacking`: of a place that is not that of a lot which the table lacks, nothing is
-- explained
pub record IsOfNoLacking (lots : ReturnedLots) (at : ℕ) (answer : TownshipAnswer) : Type 0 where
  pub none : IsNoLackingAt lots at
  pub answer_is : answer ≡ bare ACCEPTED

abbrev pub ExplainsLacking : GivenLots → ℕ → List ℕ → List ℕ → TownshipAnswer → Type 0
ExplainsLacking given at old new = ByLots given (λ township.
    Answers (IsOfNoLacking given.lots at) (IsExplainedRefusal (IsRefusalAt given.lots at) old new))

-- `township_lots_explain_description`: of a description that has an area by the table, its first doubtful
-- place is noted
pub record IsOfAreaByLots (given : GivenLots) (township : Designation) (description old new : List ℕ)
    (answer : TownshipAnswer) : Type 0 where
  pub area : Fraction
  pub has : HasLotAreaOf township given.lots description area
  pub is_noted : IsNoted description old new answer

-- The refusal of the description on the table's plat is explained; or that of the first lot of its land
-- that the table lacks.
pub data IsExplainedByLots (given : GivenLots) (township : Designation) (description old new : List ℕ)
    (answer : TownshipAnswer) : Type 0 where
  explained_land : IsExplainedDescription (lots_of given.lots) township description old new answer
      → IsExplainedByLots given township description old new answer
  explained_lot : IsExplainedRefusal (LacksLotOf township given.lots description) old new answer
      → IsExplainedByLots given township description old new answer

abbrev pub ExplainsByLots : GivenLots → List ℕ → List ℕ → List ℕ → TownshipAnswer → Type 0
ExplainsByLots given description old new = ByLots given (λ township.
    Answers (IsOfAreaByLots given township description old new)
    (IsExplainedByLots given township description old new))
