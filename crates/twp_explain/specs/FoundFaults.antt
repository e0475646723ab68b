-- What is shown of a refused description, where it is in its file: up to where the sign or the item at fault
-- is underlined, and where its land was named before.
use Rattle.std.specs.Prelude.{◌≡◌, ◌≢◌, ◌⊎◌, List, ℕ, Option, Some, None}
use Rattle.twp_grid.specs.Townships.{Designation}
use Rattle.twp_grid.specs.declared.refusal.Refusal.{Refusal}
use Rattle.twp_grammar.specs.Sentences.{IsReadAs}
use Rattle.twp_grammar.specs.declared.item.Item.{Item}
use Rattle.twp_read.specs.TextFaults as text_faults
use Rattle.twp_read.specs.declared.fault.TextFault.{TextFault}
use Rattle.twp_read.specs.declared.fault.TextFault.TheVariants.{TooLarge}
use Rattle.twp_resolve.specs.PlaceFaults as place_faults
use Rattle.twp_resolve.specs.declared.place_fault.PlaceFault.{PlaceFault}
use Rattle.twp_diagnose.specs.Origins.{IsWholeFile}
use Rattle.twp_diagnose.specs.declared.explanation.Explanation.{Explanation}
use Rattle.twp_diagnose.specs.declared.explanation.OtherPlace.{OtherPlace}
use Rattle.twp_diagnose.specs.declared.finding.Finding.{Finding}
use Rattle.twp_diagnose.specs.declared.finding.SearchStop.{SearchStop}
use Rattle.twp_diagnose.specs.declared.finding.SearchStop.TheVariants.{Found, Memory}
use Rattle.twp_diagnose.specs.declared.location.Given.{Given}
use Rattle.twp_diagnose.specs.declared.location.Location.{Location}
use Rattle.twp_diagnose.specs.declared.location.Origin.{Origin}
use Rattle.twp_sentences.specs.OtherPlaces.{IsOtherPlace}
use Rattle.twp_sentences.specs.ShownPlaces.{ShowsRefused}
use Rattle.twp_sentences.specs.Underlined.{EndsWithFault, EndsWithSign}
use Rattle.twp_grid.specs.Lands.{Lotting}

-- of a text that isn't read, the sign at fault is underlined, and there is no other place
pub record IsOfText (origin : Origin) (text : List ℕ) (refusal : Refusal) (place : Location)
    (other : Option OtherPlace) : Type 0 where
  pub fault : TextFault
  pub first : text_faults.IsFirstTextFault text fault
  pub refusal_is : text_faults.refusal_of fault ≡ Some refusal
  pub ends : fault ≢ TooLarge → EndsWithSign origin text refusal.at place
  pub no_other : other ≡ None

-- of items that name no land on the plat with these lots, what is at fault is underlined, and the other place
-- is where the land of an overlap was named before
pub record IsOfItems (lots : Lotting) (origin : Origin) (township : Designation) (text : List ℕ)
    (refusal : Refusal) (place : Location) (other : Option OtherPlace) : Type 0 where
  pub items : List Item
  pub read : IsReadAs text items
  pub fault : PlaceFault
  pub first : place_faults.IsFirstPlaceFault lots township items fault
  pub refusal_is : place_faults.refusal_of fault ≡ Some refusal
  pub ends : EndsWithFault origin text items fault place
  pub other_is : IsOtherPlace lots origin text township items fault other

-- of a refused description, its first fault is shown: from the refusal's place on, up to the end of what is
-- at fault
pub record ShowsLand (lots : Lotting) (origin : Origin) (township : Designation) (text : List ℕ)
    (refusal : Refusal) (place : Location) (other : Option OtherPlace) : Type 0 where
  pub begins : ShowsRefused origin text refusal place
  pub ends : IsOfText origin text refusal place other
      ⊎ IsOfItems lots origin township text refusal place other

-- it is what was found
abbrev pub ShowsFound : Lotting → Origin → Designation → List ℕ → Finding → Type 0
ShowsFound lots origin township text finding =
    ShowsLand lots origin township text finding.refusal finding.place finding.other

-- the explanation is the message about what was found
abbrev pub IsMessageOf : SearchStop → Explanation → Type 0
IsMessageOf (Found finding) explanation =
    (finding.refusal ≡ explanation.refusal) × (finding.place ≡ explanation.place)
    × (finding.other ≡ explanation.other)
IsMessageOf Memory explanation = ⊥

-- the explanation of a refused description shows its first fault in its file
pub record ShowsLandIn (lots : Lotting) (township : Designation) (file : Given) (explanation : Explanation)
    : Type 0 where
  pub origin : Origin
  pub file_is : origin.file ≡ file
  pub whole : IsWholeFile origin
  pub shows :
      ShowsLand lots origin township file.bytes.now explanation.refusal explanation.place explanation.other
