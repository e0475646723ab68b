-- What the answers of runs rest on: the plat that field notes make, the land of a description on
-- it, the first fault of all other bytes, and the acreage of the land.
use Rattle.std.specs.Prelude.{◌≡◌, ◌⊎◌, ℕ, List, [], ◌∷◌, ◌++◌, Bool, Some, codes, decimal}
use Rattle.twp_grid.specs.Places.{PLACE_DIGITS}
use Rattle.twp_grid.specs.Townships.{Designation, line_feed}
use Rattle.twp_grid.specs.declared.refusal.Refusal.{Refusal}
use Rattle.twp_notes.specs.FieldNotes.{FieldNotes, AreNotes}
use Rattle.twp_notes.specs.declared.fault.NotesFault.{NotesFault}
use Rattle.twp_plat.specs.Plats.{SurveyPlat, IsPlatOf}
use Rattle.twp_plat.specs.declared.fault.PlatFault.{PlatFault}
use Rattle.twp_read.specs.TextFaults.{IsReadAs}
use Rattle.twp_read.specs.declared.fault.TextFault.{TextFault}
use Rattle.twp_grammar.specs.declared.item.Item.{Item}
use Rattle.twp_resolve.specs.declared.place_fault.PlaceFault.{PlaceFault}
use Rattle.twp_measure.specs.Areas.{Fraction, IsRounded, acres_text}
use Rattle.twp_plat.specs.LandAreas.{IsLandArea}
use Rattle.twp_answers.specs.declared.stop.Verdict.{Verdict}
use Rattle.twp_answers.specs.declared.stop.Verdict.TheVariants.{Accepted, Refused, TractRefused}
use Rattle.twp_notes.specs.NotesFaults as notes_faults
use Rattle.twp_plat.specs.PlatFaults as plat_faults
use Rattle.twp_read.specs.TextFaults as text_faults
use Rattle.twp_resolve.specs.PlaceFaults as place_faults
use Rattle.twp_grid.specs.Lands.{Lotting, STANDARD_LOTS}

-- the bytes are field notes that make this plat
pub record ArePlatted (bytes : List ℕ) (plat : SurveyPlat) : Type 0 where
  pub notes : FieldNotes
  pub notes_are : AreNotes bytes notes
  pub plat_is : IsPlatOf notes plat

-- the bytes are field notes that make a plat
abbrev pub MakePlat : List ℕ → Type 0
MakePlat bytes = (plat : SurveyPlat) × ArePlatted bytes plat

-- the bytes are read as items that lie on the township's plat without overlapping, and this is their land
pub record Describe (lots : Lotting) (township : Designation) (bytes : List ℕ) (places : ℕ → ℕ → ℕ → Bool)
    : Type 0 where
  pub items : List Item
  pub read : IsReadAs bytes items
  pub land : place_faults.IsLandOfItems lots township items places

-- the notes make the plat, and the description names this land on it
pub record IsLandOnPlat (notes description : List ℕ) (plat : SurveyPlat)
    (places : ℕ → ℕ → ℕ → Bool) : Type 0 where
  pub platted : ArePlatted notes plat
  pub described : Describe STANDARD_LOTS plat.township description places

-- the bytes are refused as notes, for their first fault
pub record AreRefused (bytes : List ℕ) (refusal : Refusal) : Type 0 where
  pub fault : NotesFault
  pub first : notes_faults.IsFirstNotesFault bytes fault
  pub refusal_is : notes_faults.refusal_of fault ≡ Some refusal

-- the bytes are notes that make no plat, for their first fault
pub record MakeNoPlat (bytes : List ℕ) (refusal : Refusal) : Type 0 where
  pub notes : FieldNotes
  pub notes_are : AreNotes bytes notes
  pub fault : PlatFault
  pub first : plat_faults.IsFirstPlatFault notes fault
  pub refusal_is : plat_faults.refusal_of fault ≡ Some refusal

-- the bytes cannot be read as items, for their first fault
pub record IsNoText (bytes : List ℕ) (refusal : Refusal) : Type 0 where
  pub fault : TextFault
  pub first : text_faults.IsFirstTextFault bytes fault
  pub refusal_is : text_faults.refusal_of fault ≡ Some refusal

-- the bytes are read as items that do not lie on the plat without overlapping, for their first fault
pub record DescribeNoLand (lots : Lotting) (township : Designation) (bytes : List ℕ) (refusal : Refusal)
    : Type 0 where
  pub items : List Item
  pub read : IsReadAs bytes items
  pub fault : PlaceFault
  pub first : place_faults.IsFirstPlaceFault lots township items fault
  pub refusal_is : place_faults.refusal_of fault ≡ Some refusal

-- the bytes are no description of land on the plat: for the first fault of the text, or else of its items
abbrev pub IsNoDescription : Lotting → Designation → List ℕ → Refusal → Type 0
IsNoDescription lots township text refusal = IsNoText text refusal ⊎ DescribeNoLand lots township text refusal

-- the notes make a plat, and the description names no land on that plat
pub record IsNoLandOnPlat (notes description : List ℕ) (refusal : Refusal) : Type 0 where
  pub plat : SurveyPlat
  pub platted : ArePlatted notes plat
  pub refused : IsNoDescription STANDARD_LOTS plat.township description refusal

-- the notes are refused, or make no plat
abbrev pub IsNoPlat : List ℕ → Refusal → Type 0
IsNoPlat notes refusal = AreRefused notes refusal ⊎ MakeNoPlat notes refusal

-- the refusal of the first stage that has one: the notes, the plat, the description's text, and its items
abbrev pub IsRefusal : List ℕ → List ℕ → Refusal → Type 0
IsRefusal notes description refusal =
    IsNoPlat notes refusal ⊎ IsNoLandOnPlat notes description refusal

-- the line of a refusal, such as `refused 67 at 19`
abbrev pub refusal_line : Refusal → List ℕ
refusal_line refusal =
    codes "refused " ++ decimal refusal.number ++ codes " at " ++ decimal refusal.at
    ++ line_feed ∷ []

-- the refusal has this property, and the answer is its line
abbrev pub AnswersRefusal : (Refusal → Type 0) → Refusal → List ℕ → Type 0
AnswersRefusal Is refusal answer = Is refusal × (answer ≡ refusal_line refusal)

-- The hundredths of an acre of a set of places on a plat: its exact area, rounded once, half up.
pub record AreHundredthsOf (plat : SurveyPlat) (places : ℕ → ℕ → ℕ → Bool) (hundredths : ℕ) : Type 0 where
  pub area : Fraction
  pub area_is : IsLandArea PLACE_DIGITS plat places area
  pub rounded : IsRounded area hundredths

-- the notes make a plat, the description names land on it, and these are the land's hundredths of an acre
pub record HasAcres (notes description : List ℕ) (hundredths : ℕ) : Type 0 where
  pub plat : SurveyPlat
  pub places : ℕ → ℕ → ℕ → Bool
  pub land : IsLandOnPlat notes description plat places
  pub acres : AreHundredthsOf plat places hundredths

-- the line of acres, such as `40.45 acres`
abbrev pub acres_line : ℕ → List ℕ
acres_line hundredths = acres_text hundredths ++ codes " acres" ++ line_feed ∷ []

-- The acres of the land described, if the notes make a plat and the description's parts lie on it
-- without overlapping; otherwise the refusal of the first fault.
abbrev pub IsAcresAnswer : List ℕ → List ℕ → List ℕ → Verdict → Type 0
IsAcresAnswer notes description answer Accepted =
    (hundredths : ℕ) × HasAcres notes description hundredths × (answer ≡ acres_line hundredths)
IsAcresAnswer notes description answer (Refused refusal) =
    AnswersRefusal (IsRefusal notes description) refusal answer
IsAcresAnswer notes description answer (TractRefused at inner) = ⊥
