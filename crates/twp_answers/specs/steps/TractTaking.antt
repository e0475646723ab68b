-- How an account grows by one tract, and why the next record is refused. No public contract cites
-- this module.
use Rattle.std.specs.Prelude.{◌≡◌, ℕ, ◌+◌, ◌-◌, ◌≤◌, ◌<◌, Bool}
use Rattle.std.specs.Prelude.{List, ◌++◌, length, ⊤}
use Rattle.twp_measure.specs.Areas.{Fraction}
use Rattle.twp_grid.specs.Places.{PLACE_DIGITS}
use Rattle.twp_grid.specs.Townships.{Designation}
use Rattle.twp_notes.specs.Records.{Fields}
use Rattle.twp_plat.specs.Plats.{SurveyPlat}
use Rattle.twp_answers.specs.Answers.{AreHundredthsOf}
use Rattle.twp_plat.specs.LandAreas.{IsLandArea}
use Rattle.twp_answers.specs.EarlierTracts.{AreEarlier, TractsSoFar, earlier_of, TakesLand}
use Rattle.twp_answers.specs.Tracts.{TRACTS_MOST, name_in, AreTracts}
use Rattle.twp_answers.specs.TractFaults.{HasAt, turn_of}
use Rattle.twp_answers.specs.ReportAnswers.{tract_line, AreTractLines, text_of}
use Rattle.twp_answers.specs.ReportAnswers.{other_places, total_lines}
use Rattle.twp_answers.specs.declared.running_account.RunningAccount.{RunningAccount}
use Rattle.twp_answers.specs.declared.totals.Totals.{Totals}
use Rattle.twp_answers.specs.declared.tract_fault.TractFault.{TractFault}
use Rattle.twp_answers.specs.declared.tract_fault.TractFault.TheVariants as fault
use Rattle.twp_grid.specs.Lands.{Lotting, STANDARD_LOTS}

-- the parts of an account of tracts: their names and all their places, their figures, and their lines
pub record Tally : Type 0 where
  pub earlier : TractsSoFar
  pub totals : Totals
  pub text : List ℕ

-- the tally of an account, given the places of its land
abbrev pub tally_of : {L : Type 0} → (L → ℕ → ℕ → ℕ → Bool) → RunningAccount L → Tally
tally_of places account = record {
  earlier = earlier_of places account.tracts;
  totals = account.totals;
  text = account.text.items;
}

-- the figures are the area of these places, and that of all others
pub record AreTotals (plat : SurveyPlat) (places : ℕ → ℕ → ℕ → Bool) (totals : Totals)
    : Type 0 where
  pub total_is : IsLandArea PLACE_DIGITS plat places totals.total
  pub remaining_is : IsLandArea PLACE_DIGITS plat (other_places places) totals.remaining

-- the figures after this area was subtracted from the remaining one
pub record TakesArea (area : Fraction) (old new : Totals) : Type 0 where
  pub total_is : new.total.units ≡ old.total.units + area.units
  pub remaining_is : new.remaining.units ≡ old.remaining.units - area.units
  pub total_over : new.total.over ≡ old.total.over
  pub remaining_over : new.remaining.over ≡ old.remaining.over

-- the tally grew by the tract of the record
pub record TakesTract (plat : SurveyPlat) (fields : Fields) (old new : Tally) : Type 0 where
  pub more : ℕ → ℕ → ℕ → Bool
  pub takes : TakesLand STANDARD_LOTS plat.township fields old.earlier new.earlier more
  pub hundredths : ℕ
  pub acres : AreHundredthsOf plat more hundredths
  pub totals_are : AreTotals plat new.earlier.places new.totals
  pub text_is : new.text ≡ old.text ++ tract_line (name_in fields) hundredths

-- the tally is that of the first records, up to this number, which are tracts
pub record IsTallyOf (plat : SurveyPlat) (rows : List Fields) (count : ℕ) (tally : Tally)
    : Type 0 where
  pub earlier : AreEarlier STANDARD_LOTS plat.township rows count tally.earlier
  pub totals_are : AreTotals plat tally.earlier.places tally.totals
  pub lines : List (List ℕ)
  pub lines_are : AreTractLines plat rows count lines
  pub text_is : tally.text ≡ text_of lines

-- the lines of the figures of all tracts and of all other places were appended
pub record EndsAccount (plat : SurveyPlat) (places : ℕ → ℕ → ℕ → Bool) (old new : List ℕ)
    : Type 0 where
  pub total : ℕ
  pub total_is : AreHundredthsOf plat places total
  pub remaining : ℕ
  pub remaining_is : AreHundredthsOf plat (other_places places) remaining
  pub text_is : new ≡ old ++ total_lines total remaining

-- this many of the records are tracts, and the next one is refused for its first fault
pub record IsNextRefused (lots : Lotting) (township : Designation) (rows : List Fields)
    (tract_fault : TractFault)
    : Type 0 where
  pub index : ℕ
  pub within : index < length rows
  pub below : index < TRACTS_MOST
  pub tracts : AreTracts lots township rows index
  pub has : HasAt lots township rows index tract_fault
  pub first : (other : TractFault) → HasAt lots township rows index other
      → turn_of tract_fault ≤ turn_of other

-- there is one tract too many, or one of the records is refused, or memory ran out
abbrev pub AreTractsRefused : Lotting → Designation → List Fields → TractFault → Type 0
AreTractsRefused lots township rows fault.TooManyTracts =
    (TRACTS_MOST < length rows) × AreTracts lots township rows TRACTS_MOST
AreTractsRefused lots township rows fault.Memory = ⊤
AreTractsRefused lots township rows other = IsNextRefused lots township rows other
