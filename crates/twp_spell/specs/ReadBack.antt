-- Laws of canonical texts: each is read back as its land, and each text belongs to only one land.
use Rattle.std.specs.Prelude.{◌≡◌, ◌≢◌, ◌↔◌, ℕ, ◌≤◌, Bool, List, length}
use Rattle.twp_grid.specs.Townships.{Designation, IsTownshipNumber}
use Rattle.twp_grid.specs.Lands.{Lotting, AreLots, no_places}
use Rattle.twp_grammar.specs.declared.item.Item.{Item}
use Rattle.twp_grammar.specs.Tokens.{Token, HasTokens}
use Rattle.twp_grammar.specs.Sentences.{HasItems}
use Rattle.twp_grammar.specs.Sentences.{TEXT_LIMIT, IsReadAs}
use Rattle.twp_grammar.specs.OnPlat.{IsLandOfItems}
use Rattle.twp_spell.specs.CanonicalText.{IsCanonicalText}
pub use Rattle.twp_grammar.specs.OnPlat.{IsTownshipLand}

-- the numbers of a township and of its range are valid
abbrev pub HasTownshipNumbers : Designation → Type 0
HasTownshipNumbers township = IsTownshipNumber township.number × IsTownshipNumber township.range

-- the text is a sentence whose items lie on the plat without overlapping and name this land
pub record NamesLand (plan : Lotting) (township : Designation) (text : List ℕ) (places : ℕ → ℕ → ℕ → Bool)
    : Type 0 where
  pub tokens : List Token
  pub items : List Item
  pub cut : HasTokens 0 text tokens
  pub named : HasItems tokens items
  pub land : IsLandOfItems plan township items places

-- the canonical text of land that is not empty names that land
abbrev pub CanonicalTextNamesItsLand : Type 0
CanonicalTextNamesItsLand =
    (plan : Lotting) → AreLots plan → (township : Designation) (places : ℕ → ℕ → ℕ → Bool)
    (text : List ℕ) → HasTownshipNumbers township → IsTownshipLand plan places → places ≢ no_places
    → IsCanonicalText plan township places text → NamesLand plan township text places

-- within the limit of descriptions, it is read as items whose land is that land
abbrev pub CanonicalTextIsReadBack : Type 0
CanonicalTextIsReadBack =
    (plan : Lotting) → AreLots plan → (township : Designation) (places : ℕ → ℕ → ℕ → Bool)
    (text : List ℕ) → HasTownshipNumbers township → IsTownshipLand plan places → places ≢ no_places
    → IsCanonicalText plan township places text → length text ≤ TEXT_LIMIT
    → (items : List Item) × IsReadAs text items × IsLandOfItems plan township items places

-- two sets of land in one township have the same canonical text exactly if they are the same set
abbrev pub OneTextForEachLand : Type 0
OneTextForEachLand =
    (plan : Lotting) → AreLots plan → (township : Designation) (places other : ℕ → ℕ → ℕ → Bool)
    (text other_text : List ℕ) → HasTownshipNumbers township
    → IsTownshipLand plan places → IsTownshipLand plan other
    → IsCanonicalText plan township places text → IsCanonicalText plan township other other_text
    → (text ≡ other_text) ↔ (places ≡ other)

-- if a canonical text is read, the canonical text of the land that was read is the same text
abbrev pub CanonicalTextStaysTheSame : Type 0
CanonicalTextStaysTheSame =
    (plan : Lotting) → AreLots plan → (township : Designation) (places found : ℕ → ℕ → ℕ → Bool)
    (text again : List ℕ) (items : List Item) → HasTownshipNumbers township
    → IsTownshipLand plan places → places ≢ no_places → IsCanonicalText plan township places text
    → IsReadAs text items → IsLandOfItems plan township items found
    → IsCanonicalText plan township found again → again ≡ text
