-- Sets of whole sections.
use Rattle.std.proofs.Common.{◌≡◌, ℕ, ◌-◌, Bool, true, false, List, length, refl, sym, ap, ◌∙◌}
use Rattle.std.proofs.Math.ListN.{set}
use Rattle.twp_grid.specs.Winding.{SECTION_COUNT, IsSection}
use Rattle.twp_grid.specs.Places.{PLACE_DIGITS}
use Rattle.twp_grid.specs.Spans.{whole_block}
use Rattle.twp_grid.specs.Lands.{STANDARD_LOTS, union, section_places, SharePlace}
use Rattle.twp_land.specs.Storage.{held_by_section, all_if, with_block}
use Rattle.twp_land.specs.steps.Exchanges.{exchanged}
use Rattle.twp_land.proofs.LandFacts.{held_after, exchanged_is_union}
use Rattle.twp_land.proofs.LottingFacts.{standard_section, section_apart}

-- a section is added to a set without it
pub whole_added : (held : List Bool) (section : ℕ) → IsSection section → length held ≡ SECTION_COUNT
    → held_by_section all_if held section ≡ all_if false
    → held_by_section all_if (set held (section - 1) true)
    ≡ union (held_by_section all_if held) (section_places STANDARD_LOTS section)
whole_added held section range all none =
    held_after all_if held section true range all
    ∙ ap (λ part. exchanged (held_by_section all_if held) section part) grown
    ∙ exchanged_is_union (held_by_section all_if held) section (whole_block PLACE_DIGITS)
    ∙ ap (λ more. union (held_by_section all_if held) more)
    (standard_section section (whole_block PLACE_DIGITS) refl)
  where
    grown : all_if true ≡ with_block (held_by_section all_if held section) (whole_block PLACE_DIGITS)
    grown = ap (λ part. with_block part (whole_block PLACE_DIGITS)) (sym none)

-- a set without a section shares no place with it
pub whole_apart : (places : ℕ → ℕ → ℕ → Bool) (section : ℕ) → places section ≡ all_if false
    → ¬ SharePlace places (section_places STANDARD_LOTS section)
whole_apart places section none =
    section_apart places section (whole_block PLACE_DIGITS) refl
    (λ met. cc (ap (λ held. held met.column met.row) none, met.is_held))
