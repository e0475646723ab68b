-- The land of a text: it is read as one list of items, which names one set of places.
use Rattle.std.proofs.Common.{◌≡◌, ◌↔◌, inl, inr, ℕ, Bool, true, List, IsTrue, false, subst, sym, ap}
use Rattle.std.proofs.lemmas.Bool.{false≢true}
use Rattle.std.proofs.Common.{◌∙◌}
use Rattle.twp_grid.specs.Townships.{Designation}
use Rattle.std.specs.List.{AllPairs}
use Rattle.twp_grid.specs.Lands.{Lotting, ContainsAll, HasWholeLots, SamePlaces, SharePlace, difference}
use Rattle.twp_grammar.specs.declared.item.Item.{Item}
use Rattle.twp_grammar.specs.ItemPlaces.{item_places, parts_of, land_of}
use Rattle.twp_grammar.specs.OnPlat.{AreOnPlat, IsLandOfItems}
use Rattle.twp_grammar.specs.Sentences.{IsReadAs}
use Rattle.twp_spell.specs.CanonicalText.{IsCanonicalText}
use Rattle.twp_suggest.specs.Descriptions.{AreExcepted, IsLandOfText, IsNoException, IsOfDivisions}
use Rattle.twp_suggest.specs.Descriptions.{IsOnlyLandOfText, IsRemainder, IsSomeLandOfItems, IsSomeLandOfText}
use Rattle.twp_suggest.specs.Descriptions.{NamesNoLand, NamesTownship, as_written}
use Rattle.twp_suggest.specs.Excepting.{IsParted}
use Rattle.twp_suggest.specs.declared.meaning.wording.Excepted.{Excepted}

pub is_land : (lots : Lotting) (township : Designation) (text : List ℕ) (items : List Item)
    (places : ℕ → ℕ → ℕ → Bool)
    → IsReadAs text items → IsLandOfItems lots township items places
    → IsLandOfText lots township text places
is_land lots township text items places read land = record { items = items; read = read; land = land }

-- a text names the places of its items, and no others
pub is_only_named : (lots : Lotting) (text : List ℕ) (items : List Item) (places : ℕ → ℕ → ℕ → Bool)
    → ((others : List Item) → IsReadAs text others → items ≡ others)
    → places ≡ land_of lots (parts_of items) → IsOnlyLandOfText lots text places
is_only_named lots text items places only named = λ other others is.
    is.land.land_is
    ∙ ap (λ (its : List Item). land_of lots (parts_of its)) (sym (only is.items is.read))
    ∙ sym named

pub is_only_land : (lots : Lotting) (township : Designation) (text : List ℕ) (items : List Item)
    (places : ℕ → ℕ → ℕ → Bool)
    → ((others : List Item) → IsReadAs text others → items ≡ others)
    → IsLandOfItems lots township items places → IsOnlyLandOfText lots text places
is_only_land lots township text items places only land =
    is_only_named lots text items places only land.land_is

pub is_only_some_land : (lots : Lotting) (township : Designation) (text : List ℕ) (items : List Item)
    (places : ℕ → ℕ → ℕ → Bool)
    → ((others : List Item) → IsReadAs text others → items ≡ others)
    → IsSomeLandOfItems lots township items places → IsOnlyLandOfText lots text places
is_only_some_land lots township text items places only land = elim land [
  | inl on_plat ↦ is_only_named lots text items places only on_plat.land_is
  | inr with_lots ↦ is_only_named lots text items places only with_lots.places_are
]

-- a text whose items don't lie on the plat names no land
pub none_on_plat : (lots : Lotting) (township : Designation) (text : List ℕ) (items : List Item)
    → ((others : List Item) → IsReadAs text others → items ≡ others)
    → ¬ AreOnPlat lots township items → NamesNoLand lots township text
none_on_plat lots township text items only off_plat places is =
    off_plat
    (subst (λ (its : List Item). AreOnPlat lots township its) (sym (only is.items is.read)) is.land.on_plat)

pub not_on_plat : (lots : Lotting) (township : Designation) (items : List Item)
    → IsTrue false ↔ AreOnPlat lots township items → ¬ AreOnPlat lots township items
not_on_plat lots township items on_plat on = false≢true (on_plat.1 on)

pub no_land : (lots : Lotting) (township : Designation) (text : List ℕ) (items : List Item)
    → ((others : List Item) → IsReadAs text others → items ≡ others)
    → IsTrue false ↔ AreOnPlat lots township items → NamesNoLand lots township text
no_land lots township text items only on_plat =
    none_on_plat lots township text items only (not_on_plat lots township items on_plat)

-- land that doesn't lie in other land, or is all of it, can't be excepted
pub is_no_exception : (lots : Lotting) (township : Designation) (whole excepted : List ℕ)
    (land less : ℕ → ℕ → ℕ → Bool) → IsOnlyLandOfText lots whole land → IsOnlyLandOfText lots excepted less
    → (ContainsAll land less → SamePlaces land less) → IsNoException lots township whole excepted
is_no_exception lots township whole excepted land less only_land only_less none =
    λ places others of_whole of_excepted inside.
    let land_is : places ≡ land = only_land township places of_whole in
    let less_is : others ≡ less = only_less township others of_excepted in
    subst (λ it. SamePlaces it others) (sym land_is)
    (subst (λ it. SamePlaces land it) (sym less_is)
    (none (subst (λ it. ContainsAll land it) less_is (subst (λ it. ContainsAll it others) land_is inside))))

-- the land of items on the plat, or by parts that include whole lots
pub land_on_plat : (lots : Lotting) (township : Designation) (items : List Item) (places : ℕ → ℕ → ℕ → Bool)
    → IsLandOfItems lots township items places → IsSomeLandOfItems lots township items places
land_on_plat lots township items places land = inl land

pub land_with_lots : (lots : Lotting) (township : Designation) (items : List Item) (places : ℕ → ℕ → ℕ → Bool)
    → NamesTownship items township → places ≡ land_of lots (parts_of items)
    → AllPairs (λ part more. ¬ SharePlace (item_places lots part) (item_places lots more)) (parts_of items)
    → HasWholeLots lots places
    → ((section column row : ℕ) → places section column row ≡ true → lots.has_land section column row ≡ true)
    → IsSomeLandOfItems lots township items places
land_with_lots lots township items places of_township named apart whole on_land =
    inr record {
      of_township = of_township;
      apart = apart;
      places_are = named;
      whole = whole;
      on_land = on_land;
    }

pub is_some_land : (lots : Lotting) (township : Designation) (text : List ℕ) (items : List Item)
    (places : ℕ → ℕ → ℕ → Bool)
    → IsReadAs text items → IsSomeLandOfItems lots township items places
    → IsSomeLandOfText lots township text places
is_some_land lots township text items places read land = record { items = items; read = read; land = land }

-- what is left of a text without its exception
pub is_remainder : (lots : Lotting) (made whole excepted : List ℕ) (at : ℕ) (text full : List ℕ)
    (items : List Item)
    (township : Designation)
    (places less : ℕ → ℕ → ℕ → Bool) → ((others : List Item) → IsReadAs whole others → items ≡ others)
    → IsSomeLandOfText lots township whole places → IsSomeLandOfText lots township excepted less
    → ContainsAll places less → ¬ SamePlaces places less
    → IsCanonicalText lots township (difference places less) full → text ≡ as_written items full
    → IsParted made whole excepted at → (at ≡ 0 → IsOfDivisions lots township made)
    → IsRemainder lots made text
is_remainder lots made whole excepted at text full items township places less only of_whole of_excepted
    inside some_left spelled written parted by_itself =
    record {
      whole = whole;
      excepted = excepted;
      at = at;
      parted = parted;
      township = township;
      by_itself = by_itself;
      places = places;
      less = less;
      of_whole = of_whole;
      of_excepted = of_excepted;
      inside = inside;
      some_left = some_left;
      full = full;
      spelled = spelled;
      text_is = written ∙ ap (λ (its : List Item). as_written its full) (only of_whole.items of_whole.read);
    }

-- the items of both parts of a text with an exception
pub are_excepted : (made whole excepted : List ℕ) (items : List Item) (part : Excepted) → IsReadAs whole items
    → IsReadAs excepted part.items → IsParted made whole excepted part.at → AreExcepted made items part
are_excepted made whole excepted items part read read_excepted parted = record {
  whole = whole;
  excepted = excepted;
  parted = parted;
  read = read;
  read_excepted = read_excepted;
}
