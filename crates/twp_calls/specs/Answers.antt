-- What a call answers. What a verdict doesn't speak of is 0, but NO_ROOM keeps what there was to say.
use Rattle.std.specs.Prelude.{ℕ, ◌≡◌, ◌⊎◌, Option, Some, None}
use Rattle.twp_grid.specs.declared.refusal.Refusal.{Refusal}
use Rattle.twp_answers.specs.declared.stop.Stop.{Stop}
use Rattle.twp_answers.specs.declared.stop.Stop.TheVariants.{Refused, Failed}
use Rattle.twp_answers.specs.TractFaults.{verdict_of}
use Rattle.twp_answers.specs.declared.tract_fault.TractFault.{TractFault}
use Rattle.twp_answers.specs.declared.stop.Verdict.{Verdict}
use Rattle.twp_answers.specs.declared.stop.Verdict.TheVariants as verdict
use Rattle.twp_calls.specs.declared.answer.TownshipAnswer.{TownshipAnswer}

-- the verdicts
abbrev pub ACCEPTED : ℕ
ACCEPTED = 0

abbrev pub REFUSED : ℕ
REFUSED = 1

abbrev pub TRACT_REFUSED : ℕ
TRACT_REFUSED = 2

abbrev pub NO_PLAT : ℕ
NO_PLAT = 3

abbrev pub NO_ACCOUNT : ℕ
NO_ACCOUNT = 4

abbrev pub NO_ROOM : ℕ
NO_ROOM = 5

abbrev pub NO_MEMORY : ℕ
NO_MEMORY = 6

abbrev pub NO_RANGE : ℕ
NO_RANGE = 7

abbrev pub NO_LAND : ℕ
NO_LAND = 8

abbrev pub NO_LOTS : ℕ
NO_LOTS = 9

abbrev pub NO_TOWNSHIP : ℕ
NO_TOWNSHIP = 10

abbrev pub NO_OPERATION : ℕ
NO_OPERATION = 11

abbrev pub OTHER_TOWNSHIP : ℕ
OTHER_TOWNSHIP = 12

abbrev pub OTHER_PLAT : ℕ
OTHER_PLAT = 13

-- the verdict is one of a refusal
abbrev pub IsRefused : ℕ → Type 0
IsRefused verdict = (verdict ≡ REFUSED) ⊎ (verdict ≡ TRACT_REFUSED)

-- a verdict with these numbers
abbrev pub answer : ℕ → ℕ → ℕ → ℕ → ℕ → ℕ → ℕ → TownshipAnswer
answer verdict number place inner_number inner_place hundredths length = record {
  verdict = verdict;
  number = number;
  at = place;
  inner_number = inner_number;
  inner_at = inner_place;
  line = 0;
  column = 0;
  reserved = 0;
  hundredths = hundredths;
  length = length;
}

-- a verdict that nothing goes with
abbrev pub bare : ℕ → TownshipAnswer
bare verdict = answer verdict 0 0 0 0 0 0

-- the hundredths of an acre of accepted land
abbrev pub accepted_acres : ℕ → TownshipAnswer
accepted_acres hundredths = answer ACCEPTED 0 0 0 0 hundredths 0

-- an answer beside which a text of this length was written, and one for whose text there is no room
abbrev pub with_text : TownshipAnswer → ℕ → TownshipAnswer
with_text explained length = record explained { length = length }

abbrev pub without_room : TownshipAnswer → ℕ → TownshipAnswer
without_room explained length = record explained { verdict = NO_ROOM; length = length }

-- a refusal
abbrev pub refused : Refusal → TownshipAnswer
refused refusal = answer REFUSED refusal.number refusal.at 0 0 0 0

-- the refusal of a tract, by its record, whose description is refused itself
abbrev pub tract_refused : ℕ → Refusal → TownshipAnswer
tract_refused tract inner = answer TRACT_REFUSED 83 tract inner.number inner.at 0 0

-- the answer of a refusal, or that memory ran out
abbrev pub answer_of_refusal : Option Refusal → TownshipAnswer
answer_of_refusal (Some refusal) = refused refusal
answer_of_refusal None = bare NO_MEMORY

-- why there is no answer
abbrev pub stopped : Stop → TownshipAnswer
stopped (Refused refusal) = refused refusal
stopped (Failed fault) = bare NO_MEMORY

-- the answer of a verdict that refuses
abbrev pub verdict_answer : Verdict → TownshipAnswer
verdict_answer verdict.Accepted = bare ACCEPTED
verdict_answer (verdict.Refused refusal) = refused refusal
verdict_answer (verdict.TractRefused tract inner) = tract_refused tract inner

-- the answer of such a verdict, or that memory ran out
abbrev pub answer_of_verdict : Option Verdict → TownshipAnswer
answer_of_verdict (Some verdict) = verdict_answer verdict
answer_of_verdict None = bare NO_MEMORY

-- why a list of tracts has no account
abbrev pub answer_of_fault : TractFault → TownshipAnswer
answer_of_fault fault = answer_of_verdict (verdict_of fault)
