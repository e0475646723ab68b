-- Where a refused description is explained, over plain values.
use Rattle.std.proofs.Common.{◌≡◌, ◌<◌, ◌⊎◌, ℕ, List, Option, Some, None}
use Rattle.std.proofs.Common.{Result, Ok, Err, min, length, sym, subst, ◌∙◌, inl, inr, arith}
use Rattle.std.specs.Prelude.{IfOk, IfSome, MatchOption}
use Rattle.twp_excerpt.specs.Spots.{end_of}
use Rattle.twp_excerpt.specs.declared.spot.Spot.{Spot}
use Rattle.twp_grid.specs.declared.refusal.Refusal.{Refusal}
use Rattle.twp_grid.specs.Lands.{Lotting}
use Rattle.twp_grid.specs.Townships.{Designation}
use Rattle.twp_diagnose.specs.Findings.{IfFinds, IfFound, IsOf}
use Rattle.twp_diagnose.specs.Origins.{IsWholeFile, place_of}
use Rattle.twp_diagnose.specs.Spots.{MOST_BYTES, IsSpotIn, IsSpotAt, IsSpotOf}
use Rattle.twp_diagnose.specs.declared.explanation.Explanation.{Explanation}
use Rattle.twp_diagnose.specs.declared.finding.SearchStop.{SearchStop}
use Rattle.twp_diagnose.specs.declared.finding.SearchStop.TheVariants as stop
use Rattle.twp_diagnose.specs.declared.location.Given.{Given}
use Rattle.twp_diagnose.specs.declared.location.Location.{Location}
use Rattle.twp_diagnose.proofs.SpotFacts.{same_spot}
use Rattle.twp_sentences.specs.ShownPlaces.{BeginsAt, ShowsRefused, as_a_whole, there, at_the_end}
use Rattle.twp_sentences.specs.ShownPlaces.{TOO_LARGE}
use Rattle.twp_diagnose.specs.declared.explanation.OtherPlace.{OtherPlace}
use Rattle.twp_diagnose.specs.declared.location.Origin.{Origin}
use Rattle.twp_explain.specs.FoundFaults.{IsMessageOf, ShowsFound, ShowsLand, ShowsLandIn}
use Rattle.twp_answers.specs.Answers.{MakePlat, IsNoPlat}
use Rattle.twp_answers.proofs.OneAnswer.{not_platted}
use Rattle.twp_explain.specs.ExplainedPlaces.{IsSpotOfStop, IsSpotRefused, IsExplainedWhereRefused}

-- a place of a text that is a file is the same in the file
whole_place : (origin : Origin) (file : Given) (at : ℕ) → IsWholeFile origin → origin.file ≡ file
    → place_of origin at ≡ min at (length file.bytes.now)
whole_place origin file at whole is =
    let here : place_of origin at ≡ min at (length origin.file.bytes.now) =
    rw (whole.starts, whole.plain) (omega arith) in
    subst (λ (f : Given). place_of origin at ≡ min at (length f.bytes.now)) is here

located_at : (origin : Origin) (file : Given) (refusal : Refusal) (place : Location) (spot : Option Spot)
    (at : ℕ)
    → IsWholeFile origin → origin.file ≡ file
    → BeginsAt origin at place → ((s : Spot) → IsSpotIn file at s → IsSpotRefused file refusal s)
    → IsSpotOf file place spot
    → MatchOption spot ((refusal.number ≡ TOO_LARGE) ⊎ (MOST_BYTES < length file.bytes.now))
    (IsSpotRefused file refusal)
located_at origin file refusal place spot at whole of_file begins refused is =
    go spot (subst (λ (p : Location). IsSpotOf file p spot) begins.is_part is)
  where
    go : (s : Option Spot) → IsSpotAt file begins.span.start s
        → MatchOption s ((refusal.number ≡ TOO_LARGE) ⊎ (MOST_BYTES < length file.bytes.now))
        (IsSpotRefused file refusal)
    go None long = inr long
    go (Some s) here =
        let starts : begins.span.start ≡ min at (length file.bytes.now) =
        begins.starts ∙ whole_place origin file at whole of_file in
        refused s (same_spot file begins.span.start at s (omega arith) here)

explained_refused : (origin : Origin) (file : Given) (refusal : Refusal) (place : Location)
    (spot : Option Spot) → IsWholeFile origin → origin.file ≡ file
    → ShowsRefused origin file.bytes.now refusal place → IsSpotOf file place spot
    → MatchOption spot ((refusal.number ≡ TOO_LARGE) ⊎ (MOST_BYTES < length file.bytes.now))
    (IsSpotRefused file refusal)
explained_refused origin file refusal place spot whole of_file (as_a_whole large shown) is =
    let none : spot ≡ None = subst (λ (p : Location). IsSpotOf file p spot) shown is in
    subst (λ (s : Option Spot). MatchOption s
    ((refusal.number ≡ TOO_LARGE) ⊎ (MOST_BYTES < length file.bytes.now)) (IsSpotRefused file refusal))
    (sym none) (inl large)
explained_refused origin file refusal place spot whole of_file (there begins) is =
    located_at origin file refusal place spot refusal.at whole of_file begins (λ s here. inl here) is
explained_refused origin file refusal place spot whole of_file (at_the_end white begins) is =
    located_at origin file refusal place spot (end_of file.bytes.now) whole of_file begins
    (λ s here. inr (white, here)) is

pub explained_where : (lots : Lotting) (origin : Origin) (file : Given) (township : Designation)
    (stopped : SearchStop)
    (explanation : Explanation) → IsWholeFile origin → origin.file ≡ file
    → IfFinds stopped (ShowsFound lots origin township file.bytes.now) → IsOf stopped explanation.refusal
    → IsSpotOfStop file stopped explanation → IsExplainedWhereRefused file explanation
explained_where lots origin file township (stop.Found finding) explanation whole of_file shown of spot =
    explained_refused origin file explanation.refusal finding.place explanation.spot whole of_file
    (subst (λ (r : Refusal). ShowsRefused origin file.bytes.now r finding.place) spot.0 shown.begins) spot.1
explained_where lots origin file township stop.Memory explanation whole of_file shown of spot = absurd of

-- what is explained of what was found is explained where the description is refused
pub tells_where : {Error : Type 0} (lots : Lotting) (result : Result (Option Explanation) Error)
    (origin : Origin)
    (file : Given) (township : Designation) (stopped : SearchStop) → IsWholeFile origin → origin.file ≡ file
    → IfFinds stopped (ShowsFound lots origin township file.bytes.now)
    → IfOk result (λ explained. IfSome explained (λ explanation. IsOf stopped explanation.refusal))
    → IfOk result (λ explained. IfSome explained (IsSpotOfStop file stopped))
    → IfOk result (λ explained. IfSome explained (IsExplainedWhereRefused file))
tells_where lots (Ok (Some explanation)) origin file township stopped whole of_file shown of spot =
    explained_where lots origin file township stopped explanation whole of_file shown of spot
tells_where lots (Ok None) origin file township stopped whole of_file shown of spot = tt
tells_where lots (Err error) origin file township stopped whole of_file shown of spot = tt

-- so a description is explained by its own first fault
pub shown_land : (lots : Lotting) (origin : Origin) (file : Given) (township : Designation)
    (stopped : SearchStop)
    (explanation : Explanation) → IsWholeFile origin → origin.file ≡ file
    → IfFinds stopped (ShowsFound lots origin township file.bytes.now) → IsMessageOf stopped explanation
    → ShowsLandIn lots township file explanation
shown_land lots origin file township (stop.Found finding) explanation whole of_file shown of =
    record {
      origin = origin;
      file_is = of_file;
      whole = whole;
      shows =
          subst (λ (other : Option OtherPlace).
          ShowsLand lots origin township file.bytes.now explanation.refusal explanation.place other) of.2
          (subst (λ (place : Location).
          ShowsLand lots origin township file.bytes.now explanation.refusal place finding.other) of.1
          (subst (λ (r : Refusal).
          ShowsLand lots origin township file.bytes.now r finding.place finding.other) of.0 shown));
    }
shown_land lots origin file township stop.Memory explanation whole of_file shown of = absurd of

-- what was found is of the refusal that is explained
pub found_is : (Is : Refusal → Type 0) (stopped : SearchStop) (refusal : Refusal) → IfFound stopped Is
    → IsOf stopped refusal → Is refusal
found_is Is (stop.Found finding) refusal found of = subst Is of found
found_is Is stop.Memory refusal found of = absurd of

-- of notes that make a plat nothing is explained
pub platted_tells_none : {Error : Type 0} (result : Result (Option Explanation) Error) (bytes : List ℕ)
    (stopped : SearchStop) (Explained : Explanation → Type 0)
    → IfFound stopped (IsNoPlat bytes)
    → IfOk result (λ explained. IfSome explained (λ explanation. IsOf stopped explanation.refusal))
    → MakePlat bytes → IfOk result (λ explained. IfSome explained Explained)
platted_tells_none (Ok (Some explanation)) bytes stopped Explained found of (plat, are) =
    absurd (not_platted bytes explanation.refusal plat
    (found_is (IsNoPlat bytes) stopped explanation.refusal found of) are)
platted_tells_none (Ok None) bytes stopped Explained found of makes = tt
platted_tells_none (Err error) bytes stopped Explained found of makes = tt
