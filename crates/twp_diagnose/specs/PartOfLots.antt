-- The lots of which an aliquot part holds land, and what it holds besides.
use Rattle.std.specs.Prelude.{◌≡◌, ◌==◌, ◌&&◌, ◌<◌, ◌↔◌, ℕ, Bool, List, IsTrue}
use Rattle.twp_grid.specs.Cuts.{AreWithin, reached}
use Rattle.twp_grid.specs.Spans.{in_rectangle}
use Rattle.twp_grid.specs.Townships.{Designation}
use Rattle.twp_grid.specs.Lands.{Lotting, IsWholeOrNot}
use Rattle.twp_land.specs.LotMaps.{land_off_lots}
use Rattle.twp_grammar.specs.declared.item.Step.{Step}
use Rattle.twp_grammar.specs.ItemPlaces.{cuts_of}
use Rattle.twp_grid.specs.Listing.{AreListed}
use Rattle.twp_spell.specs.CanonicalText.{IsLotHeld, IsCanonicalText}
use Rattle.twp_diagnose.specs.declared.finding.PartOfLots.{PartOfLots}

-- the places of a set in one section at which the plat has land that lies in no lot, as a set in all sections
abbrev pub left_of_section : Lotting → ℕ → (ℕ → ℕ → Bool) → ℕ → ℕ → ℕ → Bool
left_of_section lots section held other column row =
    (section == other) && land_off_lots lots section held column row

-- The aliquot part is no finer than places are; the lots are those of which it holds some place, by rising
-- number, and they are whole if it holds no place of a lot without the others; the rest is the one spelling
-- of its land that lies in no lot.
pub record IsPartOfLots (lots : Lotting) (township : Designation) (section : ℕ) (steps : List Step)
    (part : PartOfLots) : Type 0 where
  pub within : AreWithin lots.digits (cuts_of steps)
  pub of_section : part.section ≡ section
  pub lots_are : AreListed (IsLotHeld lots section (in_rectangle (reached lots.digits (cuts_of steps)))) ◌<◌
      part.lots.items
  pub are_whole : IsTrue part.are_whole ↔ ((lot : ℕ)
      → IsWholeOrNot lots section lot (in_rectangle (reached lots.digits (cuts_of steps))))
  pub rest_is : IsCanonicalText lots township
      (left_of_section lots section (in_rectangle (reached lots.digits (cuts_of steps))))
      part.rest.items
