-- Where a refused text is shown.
use Rattle.std.specs.Prelude.{◌≡◌, ⊤, ℕ, List, drop}
use Rattle.std.specs.List.{AllPass}
use Rattle.twp_excerpt.specs.Spots.{is_white, end_of}
use Rattle.twp_excerpt.specs.declared.spot.Span.{Span}
use Rattle.twp_grid.specs.declared.refusal.Refusal.{Refusal}
use Rattle.twp_read.specs.declared.fault.TextFault.{TextFault}
use Rattle.twp_read.specs.declared.fault.TextFault.TheVariants.{TooLarge}
use Rattle.twp_diagnose.specs.Origins.{place_of}
use Rattle.twp_diagnose.specs.declared.location.Location.{Location}
use Rattle.twp_diagnose.specs.declared.location.Location.TheVariants.{Whole, Part}
use Rattle.twp_diagnose.specs.declared.finding.SearchStop.{SearchStop}
use Rattle.twp_diagnose.specs.declared.finding.SearchStop.TheVariants.{Found, Memory}
use Rattle.twp_diagnose.specs.declared.location.Origin.{Origin}

-- what is underlined begins where this place of a text is in its file
pub record BeginsAt (origin : Origin) (at : ℕ) (place : Location) : Type 0 where
  pub span : Span
  pub is_part : place ≡ Part span
  pub starts : span.start ≡ place_of origin at

-- a text that isn't read is shown from this place of it on, and as a whole where it is too large
abbrev pub ShowsAt : Origin → TextFault → ℕ → Location → Type 0
ShowsAt origin TooLarge at place = place ≡ Whole
ShowsAt origin _ at place = BeginsAt origin at place

-- the refusal of a text that is too large
abbrev pub TOO_LARGE : ℕ
TOO_LARGE = 41

-- A refused text is shown, in its file, at the refusal's place, or where it ends but for white space if
-- nothing else follows; as a whole where it is too large.
pub data ShowsRefused (origin : Origin) (text : List ℕ) (refusal : Refusal) (place : Location) : Type 0 where
  as_a_whole : refusal.number ≡ TOO_LARGE → place ≡ Whole → ShowsRefused origin text refusal place
  there : BeginsAt origin refusal.at place → ShowsRefused origin text refusal place
  at_the_end : AllPass is_white (drop refusal.at text) → BeginsAt origin (end_of text) place
      → ShowsRefused origin text refusal place

-- nothing was found, or it is so shown
abbrev pub IfShown : Origin → List ℕ → SearchStop → Type 0
IfShown origin text (Found finding) = ShowsRefused origin text finding.refusal finding.place
IfShown origin text Memory = ⊤
