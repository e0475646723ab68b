-- Where a refused text is shown, over plain values.
use Rattle.std.proofs.Common.{◌≡◌, ℕ, ◌+◌, List, min, length, drop, refl, subst}
use Rattle.twp_excerpt.specs.declared.spot.Span.{Span}
use Rattle.twp_read.specs.declared.fault.TextFault.{TextFault}
use Rattle.twp_read.specs.declared.fault.TextFault.TheVariants as fault
use Rattle.twp_sentences.specs.ShownPlaces.{ShowsAt}
use Rattle.twp_sentences.specs.Underlined.{EndsAt, EndsWithSign}
use Rattle.twp_diagnose.specs.Origins.{place_of}
use Rattle.twp_diagnose.specs.Sights.{shown_place, TakesSign}
use Rattle.twp_diagnose.specs.declared.location.Location.{Location}
use Rattle.twp_diagnose.specs.declared.location.Location.TheVariants.{Part}
use Rattle.twp_diagnose.specs.declared.location.Origin.{Origin}

-- what is too large alone is shown as a whole
pub shows_a_part : (origin : Origin) (at : ℕ) (it : TextFault) (span : Span)
    → (it ≡ fault.TooLarge → ⊥) → span.start ≡ place_of origin at → ShowsAt origin it at (Part span)
shows_a_part origin at fault.TooLarge span other starts = absurd (other refl)
shows_a_part origin at (fault.BadByte place) span other starts =
    record { span = span; is_part = refl; starts = starts }
shows_a_part origin at (fault.BadNumber place) span other starts =
    record { span = span; is_part = refl; starts = starts }
shows_a_part origin at (fault.Syntax place expected) span other starts =
    record { span = span; is_part = refl; starts = starts }
shows_a_part origin at fault.Memory span other starts =
    record { span = span; is_part = refl; starts = starts }

-- what is underlined from a refused place on, as far as the first sign there goes
pub ends_with_sign : (origin : Origin) (text : List ℕ) (at start size : ℕ) (place : Location)
    → start ≡ shown_place text at → TakesSign (drop at text) size
    → EndsAt origin (min (start + size) (length text)) place → EndsWithSign origin text at place
ends_with_sign origin text at start size place begins sign ends = record {
  size = size;
  sign = sign;
  ends = subst (λ s. EndsAt origin (min (s + size) (length text)) place) begins ends;
}
