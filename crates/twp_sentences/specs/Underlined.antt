-- Where ends what is underlined of a refused description.
use Rattle.std.specs.Prelude.{◌≡◌, ◌≢◌, ℕ, ◌+◌, min, List, length, drop, Some, slice_get}
use Rattle.twp_excerpt.specs.declared.spot.Span.{Span}
use Rattle.twp_grammar.specs.declared.item.Item.{Item}
use Rattle.twp_grammar.specs.declared.item.Item.TheVariants as item
use Rattle.twp_resolve.specs.declared.place_fault.PlaceFault.{PlaceFault}
use Rattle.twp_resolve.specs.declared.place_fault.PlaceFault.TheVariants as fault
use Rattle.twp_resolve.specs.PlaceFaults.{start_of}
use Rattle.twp_diagnose.specs.Marks.{IsTokenSpan, IsChainSpan, IsHeadingSpan, IsRangeSpan}
use Rattle.twp_diagnose.specs.Origins.{place_of}
use Rattle.twp_diagnose.specs.Sights.{shown_place, TakesSign}
use Rattle.twp_diagnose.specs.declared.location.Location.{Location}
use Rattle.twp_diagnose.specs.declared.location.Location.TheVariants.{Part}
use Rattle.twp_diagnose.specs.declared.location.Origin.{Origin}

-- what is underlined ends where this place of a text is in its file
pub record EndsAt (origin : Origin) (end : ℕ) (place : Location) : Type 0 where
  pub shown : Span
  pub is_part : place ≡ Part shown
  pub ends : shown.end ≡ place_of origin end

-- what is underlined of a text that isn't read is the first sign from a place on; nothing at the end
pub record EndsWithSign (origin : Origin) (text : List ℕ) (at : ℕ) (place : Location) : Type 0 where
  pub size : ℕ
  pub sign : TakesSign (drop at text) size
  pub ends : EndsAt origin (min (shown_place text at + size) (length text)) place

-- the bytes of an item: a heading, a range from its first number to its last, an aliquot part, or a word
abbrev pub IsItemSpan : List ℕ → Item → Span → Type 0
IsItemSpan text (item.Heading number north_south range east_west at) span = IsHeadingSpan text at span
IsItemSpan text (item.Sections first last whole) span = IsRangeSpan text first.at last.at span
IsItemSpan text (item.Lots first last) span = IsRangeSpan text first.at last.at span
IsItemSpan text (item.Chain steps at) span = IsChainSpan text at span
IsItemSpan text (item.All at) span = IsTokenSpan text at span

-- one of the items begins at this place
pub record IsItemAt (at : ℕ) (items : List Item) (found : Item) : Type 0 where
  pub index : ℕ
  pub is : slice_get items index ≡ Some found
  pub starts : start_of found ≡ at

-- none of the items does
abbrev pub NoneAt : ℕ → List Item → Type 0
NoneAt at items = (index : ℕ) (other : Item) → slice_get items index ≡ Some other → start_of other ≢ at

-- the bytes of the item that begins at a place; where none does, those of the token there
pub data IsSpanAt (text : List ℕ) (items : List Item) (at : ℕ) (span : Span) : Type 0 where
  of_item : (found : Item) → IsItemAt at items found → IsItemSpan text found span
      → IsSpanAt text items at span
  of_token : NoneAt at items → IsTokenSpan text at span → IsSpanAt text items at span

-- the bytes of what is at fault: the heading, the number, the aliquot part, or the item that names land
-- again or land that the plat doesn't have
abbrev pub IsFaultSpan : List ℕ → List Item → PlaceFault → Span → Type 0
IsFaultSpan text items (fault.OtherTownship at) span = IsHeadingSpan text at span
IsFaultSpan text items (fault.NoSection at) span = IsTokenSpan text at span
IsFaultSpan text items (fault.Backward at) span = IsTokenSpan text at span
IsFaultSpan text items (fault.NoLot at) span = IsTokenSpan text at span
IsFaultSpan text items (fault.TooFine at) span = IsChainSpan text at span
IsFaultSpan text items (fault.OnLot at) span = IsChainSpan text at span
IsFaultSpan text items (fault.Overlap at) span = IsSpanAt text items at span
IsFaultSpan text items (fault.NoLand at) span = IsSpanAt text items at span

-- some bytes that are of this kind end here
pub record EndsLike (IsOfKind : Span → Type 0) (end : ℕ) : Type 0 where
  pub span : Span
  pub is : IsOfKind span
  pub ends : end ≡ span.end

-- what is underlined ends where what is at fault does
pub record EndsWithFault (origin : Origin) (text : List ℕ) (items : List Item) (fault : PlaceFault)
    (place : Location) : Type 0 where
  pub end : ℕ
  pub of_fault : EndsLike (IsFaultSpan text items fault) end
  pub ends : EndsAt origin end place
