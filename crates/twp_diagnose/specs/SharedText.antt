-- The spelling of the land that two items of a description name.
use Rattle.std.specs.Prelude.{ℕ, Bool, List}
use Rattle.twp_grid.specs.Townships.{Designation}
use Rattle.twp_grammar.specs.declared.item.Item.{Item}
use Rattle.twp_resolve.specs.SharedLand.{AreFirstSharing}
use Rattle.twp_spell.specs.CanonicalText.{IsCanonicalText}
use Rattle.twp_diagnose.specs.declared.shared_land.SharedLand.{SharedLand}
use Rattle.twp_grid.specs.Lands.{Lotting}

-- the items are refused for the later of the two; the earlier is the first that names a place of
-- it, and the text is the one spelling of the places that both name
pub record TellsShared (lots : Lotting) (township : Designation) (items : List Item) (explained : SharedLand)
    : Type 0 where
  pub places : ℕ → ℕ → ℕ → Bool
  pub both : AreFirstSharing lots township items explained.items places
  pub text_is : IsCanonicalText lots township places explained.text.items
