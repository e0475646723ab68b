-- What is suggested for a refused text: a reading of it, which names land on the plat of the township with
-- these lots.
use Rattle.std.specs.Prelude.{⊤, ℕ, List}
use Rattle.twp_grid.specs.Places.{PLACE_DIGITS}
use Rattle.twp_grid.specs.Townships.{Designation}
use Rattle.twp_grammar.specs.declared.item.Item.{Item}
use Rattle.twp_grammar.specs.OnPlat.{AreOnPlat}
use Rattle.twp_grammar.specs.Sentences.{IsReadAs}
use Rattle.twp_diagnose.specs.declared.suggests.Suggestion.{Suggestion}
use Rattle.twp_diagnose.specs.declared.suggests.Suggestion.TheVariants.{Nothing, Beyond, Several, Only}
use Rattle.twp_grid.specs.Lands.{Lotting}

-- the text is a description of land on the plat of the township
pub record NamesLandOf (lots : Lotting) (township : Designation) (text : List ℕ) : Type 0 where
  pub items : List Item
  pub read : IsReadAs text items
  pub on_plat : AreOnPlat lots township items

-- a reading that is suggested is such a description
abbrev pub IsOfTownship : Lotting → Designation → Suggestion → Type 0
IsOfTownship lots township Nothing = ⊤
IsOfTownship lots township (Beyond reason) = ⊤
IsOfTownship lots township Several = ⊤
IsOfTownship lots township (Only reading) = NamesLandOf lots township reading.text.items
