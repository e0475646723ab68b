-- Lists of all things with a property.
use Rattle.std.specs.Prelude.{◌↔◌, List}
use Rattle.std.specs.List.{Contains, AllPairs}

-- the list of all things with a property, each before all that come after it
pub record AreListed {T : Type 0} (has : T → Type 0) (before : T → T → Type 0) (list : List T)
    : Type 0 where
  pub listed : (thing : T) → has thing ↔ Contains list thing
  pub ordered : AllPairs before list
