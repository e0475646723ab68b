-- Laws of the places that items name.
use Rattle.std.specs.Prelude.{◌≡◌, ℕ, Bool, List, Result}
use Rattle.twp_grammar.specs.declared.item.Item.{Item}
use Rattle.twp_grid.specs.Townships.{Designation}
use Rattle.twp_grid.specs.Lands.{Lotting}
use Rattle.twp_resolve.specs.declared.place_fault.PlaceFault.{PlaceFault}
use Rattle.twp_grammar.specs.OnPlat.{AreOnPlat}
use Rattle.twp_resolve.specs.PlaceFaults.{IsFirstPlaceFault, AnswersPlaces}

-- items that lie on the plat without overlapping have no fault
abbrev pub OnPlatHasNoFault : Type 0
OnPlatHasNoFault = (lots : Lotting) (township : Designation) (items : List Item) (fault : PlaceFault)
    → AreOnPlat lots township items → ¬ IsFirstPlaceFault lots township items fault

-- items have either one set of land or one first fault
abbrev pub OnePlaceAnswer : Type 0
OnePlaceAnswer = (lots : Lotting) (township : Designation) (items : List Item)
    (answer answer' : Result (ℕ → ℕ → ℕ → Bool) PlaceFault)
    → AnswersPlaces lots township items answer → AnswersPlaces lots township items answer'
    → answer ≡ answer'
