-- What a text describes: whether the reader accepts it, the land that it names, and the description that a
-- changed text leads to.
use Rattle.std.specs.Prelude.{◌≡◌, ◌==◌, ◌⊎◌, ℕ, Bool, true, List, [], ◌∷◌, Option, Some, None}
use Rattle.std.specs.Prelude.{if◌then◌else◌}
use Rattle.twp_grid.specs.Townships.{Designation, designation, line_feed}
use Rattle.std.specs.List.{AllPairs}
use Rattle.twp_grid.specs.Lands.{Lotting, ContainsAll, HasWholeLots, SamePlaces, SharePlace, difference}
use Rattle.twp_grammar.specs.declared.item.Item.{Item}
use Rattle.twp_grammar.specs.declared.item.Item.TheVariants.{Heading}
use Rattle.twp_grammar.specs.ItemPlaces.{item_places, land_of, parts_of}
use Rattle.twp_grammar.specs.OnPlat.{IsLandOfItems}
use Rattle.twp_grammar.specs.Sentences.{IsReadAs}
use Rattle.twp_read.specs.Doubts.{HasNoDoubtfulPlace}
use Rattle.twp_spell.specs.CanonicalText.{IsCanonicalText}
use Rattle.twp_suggest.specs.Excepting.{IsParted, AreAroundExcept}
use Rattle.twp_suggest.specs.declared.meaning.wording.Excepted.{Excepted}
use Rattle.twp_suggest.specs.declared.meaning.manner.Manner.{Manner}
use Rattle.twp_suggest.specs.declared.meaning.manner.Manner.TheVariants.{Changed, LotsNamed, Remainder}

-- the reader accepts the text
pub record IsAccepted (text : List ℕ) : Type 0 where
  pub items : List Item
  pub read : IsReadAs text items

-- a text that the reader accepts, and that can't be read in two ways
pub record IsClear (text : List ℕ) : Type 0 where
  pub accepted : IsAccepted text
  pub clear : HasNoDoubtfulPlace text

-- the text is read as items on the plat of a township, and these are their places
pub record IsLandOfText (lots : Lotting) (township : Designation) (text : List ℕ) (places : ℕ → ℕ → ℕ → Bool)
    : Type 0 where
  pub items : List Item
  pub read : IsReadAs text items
  pub land : IsLandOfItems lots township items places

-- a text names no other places, in any township
abbrev pub IsOnlyLandOfText : Lotting → List ℕ → (ℕ → ℕ → ℕ → Bool) → Type 0
IsOnlyLandOfText lots text places = (township : Designation) (others : ℕ → ℕ → ℕ → Bool)
    → IsLandOfText lots township text others → others ≡ places

-- a text names no land in a township
abbrev pub NamesNoLand : Lotting → Designation → List ℕ → Type 0
NamesNoLand lots township text = (places : ℕ → ℕ → ℕ → Bool) → ¬ IsLandOfText lots township text places

-- a text without its first line
abbrev pub without_first_line : List ℕ → List ℕ
without_first_line [] = []
without_first_line (byte ∷ bytes) = if byte == line_feed then bytes else without_first_line bytes

-- a canonical text, whose first line names the township, as a description of land for which such items were
-- written: without its first line, unless they begin with a township
abbrev pub as_written : List Item → List ℕ → List ℕ
as_written (Heading number north_south range east_west at ∷ items) text = text
as_written items text = without_first_line text

-- a text doesn't name land on the plat that can be excepted from that of another: which lies in it, and isn't
-- all of it
abbrev pub IsNoException : Lotting → Designation → List ℕ → List ℕ → Type 0
IsNoException lots township land less = (places others : ℕ → ℕ → ℕ → Bool)
    → IsLandOfText lots township land places → IsLandOfText lots township less others
    → ContainsAll places others → SamePlaces places others

-- what is after the first ` except ` of a text can't be excepted from what is before it
pub record IsOfDivisions (lots : Lotting) (township : Designation) (made : List ℕ) : Type 0 where
  pub land : List ℕ
  pub less : List ℕ
  pub split : AreAroundExcept made land less
  pub is_none : IsNoException lots township land less

-- the text is read as items, which name these places; an aliquot part may include lots, but the plat has land
-- at each place
pub record AreNamed (lots : Lotting) (text : List ℕ) (places : ℕ → ℕ → ℕ → Bool) : Type 0 where
  pub items : List Item
  pub read : IsReadAs text items
  pub places_are : places ≡ land_of lots (parts_of items)
  pub whole : HasWholeLots lots places
  pub on_land : (section column row : ℕ) → places section column row ≡ true
      → lots.has_land section column row ≡ true

-- a township that items begin with is this one
abbrev pub NamesTownship : List Item → Designation → Type 0
NamesTownship (Heading number north_south range east_west at ∷ items) township =
    designation number north_south range east_west ≡ township
NamesTownship items township = Unit {0}

-- the places of items, in which an aliquot part may include whole lots; the plat has land at each place, and
-- no place is named by two items
pub record AreItemsWithLots (lots : Lotting) (township : Designation) (items : List Item)
    (places : ℕ → ℕ → ℕ → Bool) : Type 0 where
  pub of_township : NamesTownship items township
  pub apart : AllPairs (λ part more. ¬ SharePlace (item_places lots part) (item_places lots more))
      (parts_of items)
  pub places_are : places ≡ land_of lots (parts_of items)
  pub whole : HasWholeLots lots places
  pub on_land : (section column row : ℕ) → places section column row ≡ true
      → lots.has_land section column row ≡ true

-- these are the places of items on the plat of a township, or of those by which a part may include whole lots
abbrev pub IsSomeLandOfItems : Lotting → Designation → List Item → (ℕ → ℕ → ℕ → Bool) → Type 0
IsSomeLandOfItems lots township items places =
    IsLandOfItems lots township items places ⊎ AreItemsWithLots lots township items places

-- the text is read as items, of which these are the places
pub record IsSomeLandOfText (lots : Lotting) (township : Designation) (text : List ℕ)
    (places : ℕ → ℕ → ℕ → Bool)
    : Type 0 where
  pub items : List Item
  pub read : IsReadAs text items
  pub land : IsSomeLandOfItems lots township items places

-- THE REMAINDER: the canonical text of the land of a text, which names no place twice, without the land that
-- it excepts, which lies in it, and isn't all of it; each division is by itself only if what is after the
-- first ` except ` can't be excepted
pub record IsRemainder (lots : Lotting) (made text : List ℕ) : Type 0 where
  pub whole : List ℕ
  pub excepted : List ℕ
  pub at : ℕ
  pub parted : IsParted made whole excepted at
  pub township : Designation
  pub by_itself : at ≡ 0 → IsOfDivisions lots township made
  pub places : ℕ → ℕ → ℕ → Bool
  pub less : ℕ → ℕ → ℕ → Bool
  pub of_whole : IsSomeLandOfText lots township whole places
  pub of_excepted : IsSomeLandOfText lots township excepted less
  pub inside : ContainsAll places less
  pub some_left : ¬ SamePlaces places less
  pub full : List ℕ
  pub spelled : IsCanonicalText lots township (difference places less) full
  pub text_is : text ≡ as_written of_whole.items full

-- what is excepted is read as items, and its text begins at an offset of the changed text
pub record AreExcepted (made : List ℕ) (items : List Item) (part : Excepted) : Type 0 where
  pub whole : List ℕ
  pub excepted : List ℕ
  pub parted : IsParted made whole excepted part.at
  pub read : IsReadAs whole items
  pub read_excepted : IsReadAs excepted part.items

-- THE ITEMS of a changed text, or of what it keeps; and those of what it excepts
abbrev pub AreItemsOf : List ℕ → List Item → Option Excepted → Type 0
AreItemsOf made items None = IsReadAs made items
AreItemsOf made items (Some part) = AreExcepted made items part

-- LOTS NAMED: the canonical text of the land of a text in which an aliquot part may include whole lots
pub record AreLotsNamed (lots : Lotting) (made text : List ℕ) : Type 0 where
  pub township : Designation
  pub places : ℕ → ℕ → ℕ → Bool
  pub named : AreNamed lots made places
  pub of_township : NamesTownship named.items township
  pub full : List ℕ
  pub spelled : IsCanonicalText lots township places full
  pub text_is : text ≡ as_written named.items full

-- how the description comes of the changed text
abbrev pub IsDescribed : Lotting → Manner → List ℕ → List ℕ → Type 0
IsDescribed lots Changed made text = text ≡ made
IsDescribed lots LotsNamed made text = AreLotsNamed lots made text
IsDescribed lots Remainder made text = IsRemainder lots made text
