-- The other place that the explanation of an overlap names: where the land was named before.
use Rattle.std.specs.Prelude.{◌≡◌, ℕ, Bool, List, Option, Some, None, MatchOption, slice_get}
use Rattle.twp_excerpt.specs.declared.spot.Span.{Span}
use Rattle.twp_grid.specs.Townships.{Designation}
use Rattle.twp_grammar.specs.declared.item.Item.{Item}
use Rattle.twp_resolve.specs.SharedLand.{AreFirstSharing, AreRefusedForOverlap}
use Rattle.twp_resolve.specs.declared.place_fault.PlaceFault.{PlaceFault}
use Rattle.twp_resolve.specs.declared.place_fault.PlaceFault.TheVariants as fault
use Rattle.twp_resolve.specs.declared.shared.SharingItems.{SharingItems}
use Rattle.twp_diagnose.specs.Origins.{place_of}
use Rattle.twp_diagnose.specs.declared.explanation.OtherPlace.{OtherPlace}
use Rattle.twp_diagnose.specs.declared.location.Origin.{Origin}
use Rattle.twp_sentences.specs.Underlined.{IsItemSpan}
use Rattle.twp_grid.specs.Lands.{Lotting}

-- the other place is where these bytes of a text are in its file; it is in no record of its own
pub record IsSpanInFile (origin : Origin) (span : Span) (other : OtherPlace) : Type 0 where
  pub no_record : other.number ≡ 0
  pub starts : other.span.start ≡ place_of origin span.start
  pub ends : other.span.end ≡ place_of origin span.end

-- these are the bytes of the item at an index
pub record IsSpanOfItem (text : List ℕ) (items : List Item) (index : ℕ) (span : Span) : Type 0 where
  pub found : Item
  pub is : slice_get items index ≡ Some found
  pub span_is : IsItemSpan text found span

-- the other place is that of the item at an index
pub record IsAtItem (origin : Origin) (text : List ℕ) (items : List Item) (index : ℕ) (other : OtherPlace)
    : Type 0 where
  pub span : Span
  pub span_is : IsSpanOfItem text items index span
  pub in_file : IsSpanInFile origin span other

-- Of items that are refused for an overlap, the other place is that of the earlier of the two items that
-- share land: the first that does.
pub data IsEarlierPlace (lots : Lotting) (origin : Origin) (text : List ℕ) (township : Designation)
    (items : List Item) (other : Option OtherPlace) : Type 0 where
  no_overlap : ¬ AreRefusedForOverlap lots township items → other ≡ None
      → IsEarlierPlace lots origin text township items other
  overlap : (pair : SharingItems) (places : ℕ → ℕ → ℕ → Bool)
      → AreFirstSharing lots township items pair places
      → MatchOption other (slice_get items pair.earlier ≡ None) (IsAtItem origin text items pair.earlier)
      → IsEarlierPlace lots origin text township items other

-- the other place of a fault of items: an overlap has one, and no other fault has
abbrev pub IsOtherPlace : Lotting → Origin → List ℕ → Designation → List Item → PlaceFault → Option OtherPlace
    → Type 0
IsOtherPlace lots origin text township items (fault.OtherTownship at) other = other ≡ None
IsOtherPlace lots origin text township items (fault.NoSection at) other = other ≡ None
IsOtherPlace lots origin text township items (fault.Backward at) other = other ≡ None
IsOtherPlace lots origin text township items (fault.NoLot at) other = other ≡ None
IsOtherPlace lots origin text township items (fault.TooFine at) other = other ≡ None
IsOtherPlace lots origin text township items (fault.OnLot at) other = other ≡ None
IsOtherPlace lots origin text township items (fault.NoLand at) other = other ≡ None
IsOtherPlace lots origin text township items (fault.Overlap at) other =
    IsEarlierPlace lots origin text township items other
