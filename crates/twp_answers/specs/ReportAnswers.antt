-- The answer of the report run: the account of the tracts, or the refusal. Each figure is an exact
-- area, rounded once, in hundredths of an acre.
use Rattle.std.specs.Prelude.{◌≡◌, ◌⊎◌, ℕ, ◌<◌, ◌&&◌, Bool, not, List, [], ◌++◌, length}
use Rattle.std.specs.Prelude.{Some, codes, slice_index_or}
use Rattle.std.specs.List.{flat_map}
use Rattle.twp_grid.specs.Places.{PLACE_DIGITS}
use Rattle.twp_notes.specs.Records.{Fields, record_at}
use Rattle.twp_plat.specs.Plats.{SurveyPlat}
use Rattle.twp_answers.specs.Answers.{AnswersRefusal, ArePlatted, Describe, IsNoPlat, refusal_line}
use Rattle.twp_answers.specs.Answers.{AreHundredthsOf, acres_line}
use Rattle.twp_plat.specs.LandAreaLaws.{township_places}
use Rattle.twp_answers.specs.Tracts.{name_in, description_in, tract_records}
use Rattle.twp_answers.specs.Tracts.{IsTractList, IsLandOfTracts}
use Rattle.twp_answers.specs.TractFaults.{IsFirstTractFault, verdict_of}
use Rattle.twp_answers.specs.declared.tract_fault.TractFault.{TractFault}
use Rattle.twp_answers.specs.declared.stop.Verdict.{Verdict}
use Rattle.twp_answers.specs.declared.stop.Verdict.TheVariants.{Accepted, Refused, TractRefused}
use Rattle.twp_grid.specs.Lands.{STANDARD_LOTS}

-- the line of a tract, such as `tract A: 39.18 acres`
abbrev pub tract_line : List ℕ → ℕ → List ℕ
tract_line name hundredths = codes "tract " ++ name ++ codes ": " ++ acres_line hundredths

-- the line of a tract's record: its name, and the acres of its land
pub record IsTractLine (plat : SurveyPlat) (fields : Fields) (line : List ℕ) : Type 0 where
  pub places : ℕ → ℕ → ℕ → Bool
  pub land : Describe STANDARD_LOTS plat.township (description_in fields) places
  pub hundredths : ℕ
  pub acres : AreHundredthsOf plat places hundredths
  pub line_is : line ≡ tract_line (name_in fields) hundredths

-- the first records, up to this number, have these lines
pub record AreTractLines (plat : SurveyPlat) (rows : List Fields) (count : ℕ)
    (lines : List (List ℕ)) : Type 0 where
  pub count_is : length lines ≡ count
  pub each : (index : ℕ) → index < count
      → IsTractLine plat (record_at rows index) (slice_index_or lines index [])

-- the lines, one after another
abbrev pub text_of : List (List ℕ) → List ℕ
text_of lines = flat_map (λ line. line) lines

-- all other places in the township
abbrev pub other_places : (ℕ → ℕ → ℕ → Bool) → ℕ → ℕ → ℕ → Bool
other_places places section column row =
    township_places PLACE_DIGITS section column row && not (places section column row)

-- the lines of the totals, such as `total: 78.20 acres` and `remaining: 22959.37 acres`
abbrev pub total_lines : ℕ → ℕ → List ℕ
total_lines total remaining =
    codes "total: " ++ acres_line total ++ codes "remaining: " ++ acres_line remaining

-- The account of tracts on a plat: a line for each, then the acres of all places in at least one
-- tract, and then the acres of all others.
pub record IsAccount (plat : SurveyPlat) (rows : List Fields) (text : List ℕ) : Type 0 where
  pub lines : List (List ℕ)
  pub lines_are : AreTractLines plat rows (length rows) lines
  pub places : ℕ → ℕ → ℕ → Bool
  pub land : IsLandOfTracts STANDARD_LOTS plat.township rows (length rows) places
  pub total : ℕ
  pub total_is : AreHundredthsOf plat places total
  pub remaining : ℕ
  pub remaining_is : AreHundredthsOf plat (other_places places) remaining
  pub text_is : text ≡ text_of lines ++ total_lines total remaining

-- the bytes are a list of tracts on the plat, and this is its account
pub record IsAccountOf (plat : SurveyPlat) (bytes text : List ℕ) : Type 0 where
  pub list : IsTractList STANDARD_LOTS plat.township bytes
  pub account : IsAccount plat (tract_records bytes) text

-- the lines of the refusal of a list of tracts: one, or two if a tract's description is refused
abbrev pub refusal_lines : Verdict → List ℕ
refusal_lines Accepted = []
refusal_lines (Refused refusal) = refusal_line refusal
refusal_lines (TractRefused at_ inner) =
    refusal_line (record { number = 83; at = at_ }) ++ refusal_line inner

-- the verdict is for the first fault of the list, and these are its lines
pub record IsListRefused (plat : SurveyPlat) (bytes answer : List ℕ) (verdict : Verdict)
    : Type 0 where
  pub tract_fault : TractFault
  pub first : IsFirstTractFault STANDARD_LOTS plat.township bytes tract_fault
  pub verdict_is : verdict_of tract_fault ≡ Some verdict
  pub lines_are : answer ≡ refusal_lines verdict

-- on a plat: the account of the list, or its refusal
abbrev pub AnswersList : SurveyPlat → List ℕ → List ℕ → Verdict → Type 0
AnswersList plat bytes answer Accepted = IsAccountOf plat bytes answer
AnswersList plat bytes answer other = IsListRefused plat bytes answer other

-- the notes make a plat, and this is the answer for the list of tracts on it
pub record IsAnswerOnPlat (notes tracts answer : List ℕ) (verdict : Verdict) : Type 0 where
  pub plat : SurveyPlat
  pub platted : ArePlatted notes plat
  pub answers : AnswersList plat tracts answer verdict

-- the notes make no plat, and are refused
abbrev pub IsPlatRefused : List ℕ → List ℕ → Verdict → Type 0
IsPlatRefused notes answer (Refused refusal) =
    AnswersRefusal (IsNoPlat notes) refusal answer
IsPlatRefused notes answer other = ⊥

-- The account, if the notes make a plat and the list is a list of tracts on it, no two of which
-- share a place. Otherwise the refusal of the first fault; if a tract's description is itself
-- refused, a second line gives that refusal.
abbrev pub IsReportAnswer : List ℕ → List ℕ → List ℕ → Verdict → Type 0
IsReportAnswer notes tracts answer verdict =
    IsPlatRefused notes answer verdict ⊎ IsAnswerOnPlat notes tracts answer verdict
