-- What is explained by a lot table, beside its refusal; over plain values.
use Rattle.std.proofs.Common.{◌≡◌, ◌<◌, ◌≤◌, Bool, true, List, ℕ, Option, Some, None, arith, subst}
use Rattle.std.specs.Option.{SomeIff, is_some}
use Rattle.twp_grid.specs.Townships.{Designation}
use Rattle.twp_grid.specs.Lands.{HasLot}
use Rattle.twp_grid.specs.declared.refusal.Refusal.{Refusal}
use Rattle.twp_land.specs.steps.PlatLotsLots.{plat_are_lots}
use Rattle.twp_plat.specs.LotAreas.{IsFirstLacking}
use Rattle.twp_plat.specs.LotTables.{figure_of, lots_of}
use Rattle.twp_plat.specs.LotsFaults.{lacking_refusal}
use Rattle.twp_answers.specs.LotLands.{LacksLotOf}
use Rattle.twp_answers.specs.OnLands.{IsLandOf}
use Rattle.twp_plat.specs.declared.lots.returned.ReturnedLots.{ReturnedLots}
use Rattle.twp_diagnose.specs.declared.explanation.Explanation.{Explanation}
use Rattle.twp_calls.specs.Answers.{refused}
use Rattle.twp_calls.specs.Calls.{Answers, refused_for}
use Rattle.twp_calls.specs.Explanations.{IsExplainedRefusal, PutsExplanation}
use Rattle.twp_calls.specs.LotExplanations.{IsExplainedByLots, explained_lot}
use Rattle.twp_calls.specs.steps.Noting.{PutsInParts}
use Rattle.twp_calls.specs.declared.answer.TownshipAnswer.{TownshipAnswer}
use Rattle.twp_calls.specs.declared.explanation.TownshipExplanation.{TownshipExplanation}
use Rattle.twp_calls.specs.declared.lots.TownshipLots.{TownshipLots as GivenLots}
use Rattle.twp_calls.proofs.ExplanationPartFacts.{or_no_memory}

-- the explanation of a refusal is put beside that refusal; or memory ran out
pub explains_refusal : (IsSuch : Refusal → Type 0) (Accepted : TownshipAnswer → Type 0)
    (explained : TownshipAnswer) (explanation : Explanation) (old new : List ℕ)
    (parts : TownshipExplanation) (answer : TownshipAnswer)
    → IsSuch explanation.refusal → explained ≡ refused explanation.refusal
    → PutsInParts explained explanation old new parts answer
    → Answers Accepted (IsExplainedRefusal IsSuch old new) answer
explains_refusal IsSuch Accepted explained explanation old new parts answer is same puts =
    or_no_memory Accepted (IsExplainedRefusal IsSuch old new) explained explanation old new parts answer puts
    (λ text. refused_for (record {
      refusal = explanation.refusal;
      first = is;
      explained = record {
        explanation = explanation;
        is_such = is;
        explained_is = subst (λ a. PutsExplanation a explanation old new answer) same text;
      };
    }))

-- a lot of a plat has a number of two digits
pub lot_below : (lots : ReturnedLots) (section lot : ℕ) → HasLot (lots_of lots) section lot → lot ≤ 99
lot_below lots section lot has =
    ((plat_are_lots lots.plat.mapped lots.plat.map.positions lots.plat.map.divided).numbered section lot
    has.0 has.1 has.2).1

-- a figure that is found isn't 0
pub some_figure : (found : Option ℕ) (figure : ℕ) → SomeIff found (0 < figure) figure
    → is_some found ≡ true → figure ≡ 0 → ⊥
some_figure (Some value) figure is there none = omega (arith, is.0, none)
some_figure None figure is there none = cc there

-- of the land described, the first lot that the table lacks is explained; or memory ran out
pub explained_by_lot : (Accepted : TownshipAnswer → Type 0) (given : GivenLots) (township : Designation)
    (description old new : List ℕ) (explained : TownshipAnswer) (explanation : Explanation)
    (parts : TownshipExplanation) (answer : TownshipAnswer) (places : ℕ → ℕ → ℕ → Bool) (section lot : ℕ)
    → IsLandOf (lots_of given.lots) township description places
    → IsFirstLacking (lots_of given.lots) (figure_of given.lots) places section lot
    → explanation.refusal ≡ lacking_refusal section lot → explained ≡ refused explanation.refusal
    → PutsInParts explained explanation old new parts answer
    → Answers Accepted (IsExplainedByLots given township description old new) answer
explained_by_lot Accepted given township description old new explained explanation parts answer places
    section lot described first refusal_is same puts =
    or_no_memory Accepted (IsExplainedByLots given township description old new) explained explanation old
    new parts answer puts
    (λ text. refused_for (explained_lot (record {
      refusal = explanation.refusal;
      first = lacks;
      explained = record {
        explanation = explanation;
        is_such = lacks;
        explained_is = subst (λ a. PutsExplanation a explanation old new answer) same text;
      };
    })))
  where
    lacks : LacksLotOf township given.lots description explanation.refusal
    lacks = record {
      places = places;
      described = described;
      holds = record { section = section; number = lot; first = first; refusal_is = refusal_is };
    }
