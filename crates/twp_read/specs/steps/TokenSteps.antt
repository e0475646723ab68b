-- What each token does to the items that the reader has so far, and what all tokens of a text do. No public
-- promise speaks of it; proofs/Walk shows that it makes the items that the grammar names.
use Rattle.std.specs.Prelude.{ℕ, if◌then◌else◌, true, false, List, [], ◌∷◌, ◌++◌, Option, Some, None}
use Rattle.twp_grid.specs.declared.township.NorthSouth.{NorthSouth as NorthOrSouth}
use Rattle.twp_grid.specs.declared.township.EastWest.{EastWest as EastOrWest}
use Rattle.twp_grammar.specs.declared.tokens.Kind.{Kind}
use Rattle.twp_grammar.specs.declared.item.Numeral.{Numeral}
use Rattle.twp_grammar.specs.declared.item.Step.{Step}
use Rattle.twp_grammar.specs.declared.item.Step.TheVariants.{Half, Quarter}
use Rattle.twp_grammar.specs.declared.item.Item.{Item}
use Rattle.twp_read.specs.declared.watch.ItemChange.{ItemChange}
use Rattle.twp_grammar.specs.Items.{north_or_south, east_or_west}
use Rattle.twp_grammar.specs.declared.state.State.{State}
use Rattle.twp_grammar.specs.Tokens.{Token}
use Rattle.twp_grammar.specs.Grammar.{class_of}
use Rattle.twp_grammar.specs.Machine.{next, is_in_chain}
use Rattle.twp_grid.specs.declared.township.NorthSouth.TheVariants as ns
use Rattle.twp_grid.specs.declared.township.EastWest.TheVariants as ew
use Rattle.twp_grammar.specs.declared.tokens.Kind.TheVariants as kind
use Rattle.twp_grammar.specs.declared.item.Item.TheVariants as item
use Rattle.twp_read.specs.declared.watch.ItemChange.TheVariants as change
use Rattle.twp_grammar.specs.declared.state.State.TheVariants as past

-- an item with what a token says of it
abbrev pub changed : ItemChange → Item → Item
changed (change.TownshipNumber n) (item.Heading _ side range way at) =
    item.Heading n side range way at
changed (change.TownshipSide side) (item.Heading n _ range way at) =
    item.Heading n side range way at
changed (change.RangeNumber range) (item.Heading n side _ way at) =
    item.Heading n side range way at
changed (change.RangeSide way) (item.Heading n side range _ at) =
    item.Heading n side range way at
changed (change.Last last) (item.Sections first _ whole) = item.Sections first last whole
changed (change.Last last) (item.Lots first _) = item.Lots first last
changed change.Parted (item.Sections first last _) = item.Sections first last false
changed (change.Grown step) (item.Chain steps at) = item.Chain (steps ++ step ∷ []) at
changed _ it = it

-- items are listed here with the newest first
abbrev pub with_newest : ItemChange → List Item → List Item
with_newest change [] = []
with_newest change (it ∷ items) = changed change it ∷ items

-- with its first part a section becomes one that isn't whole
abbrev pub before_parts : State → List Item → List Item
before_parts past.SectionNumber items = with_newest change.Parted items
before_parts past.SectionComma items = with_newest change.Parted items
before_parts _ items = items

-- a step: the next one of a chain, or the first of a new one
abbrev pub take_step : State → Step → ℕ → List Item → List Item
take_step state step at items =
    if is_in_chain state then with_newest (change.Grown step) items
    else item.Chain (step ∷ []) at ∷ before_parts state items

-- N or S: the township's side, or the half of a step
abbrev pub take_north_south : State → NorthOrSouth → ℕ → List Item → List Item
take_north_south past.TownshipNumber side at items = with_newest (change.TownshipSide side) items
take_north_south state side at items = take_step state (Half (north_or_south side)) at items

-- E or W: the range's side, or the half of a step
abbrev pub take_east_west : State → EastOrWest → ℕ → List Item → List Item
take_east_west past.RangeNumber side at items = with_newest (change.RangeSide side) items
take_east_west state side at items = take_step state (Half (east_or_west side)) at items

-- a number: of the heading, the last one of a range, or that of a lot or a section
abbrev pub take_number : State → Numeral → List Item → List Item
take_number past.Township n items = with_newest (change.TownshipNumber n.value) items
take_number past.TownshipStop n items = with_newest (change.TownshipNumber n.value) items
take_number past.Range n items = with_newest (change.RangeNumber n.value) items
take_number past.RangeStop n items = with_newest (change.RangeNumber n.value) items
take_number past.ListTo n items = with_newest (change.Last n) items
take_number past.LotTo n items = with_newest (change.Last n) items
take_number past.Lot n items = item.Lots n n ∷ items
take_number past.LotComma n items = item.Lots n n ∷ items
take_number past.LotLastComma n items = item.Lots n n ∷ items
take_number past.LotAnd n items = item.Lots n n ∷ items
take_number _ n items = item.Sections n n true ∷ items

-- all: of several sections, which are whole anyway, or of one
abbrev pub take_all : State → ℕ → List Item → List Item
take_all past.ListNumber at items = items
take_all past.ListLast at items = items
take_all past.ListInclusive at items = items
take_all past.ListComma at items = items
take_all past.ListLastComma at items = items
take_all past.ListColon at items = items
take_all state at items = item.All at ∷ before_parts state items

-- a heading begins
abbrev pub take_township : ℕ → List Item → List Item
take_township at items = item.Heading 0 ns.N 0 ew.E at ∷ items

-- the items with one more token
abbrev pub take_token : State → Kind → ℕ → List Item → List Item
take_token state kind.T at items = take_township at items
take_token state (kind.NorthSouth side) at items = take_north_south state side at items
take_token state (kind.EastWest side) at items = take_east_west state side at items
take_token state (kind.Corner which) at items = take_step state (Quarter which) at items
take_token state (kind.Number value) at items =
    take_number state (record { value = value; at = at }) items
take_token state kind.Lot at items = before_parts state items
take_token state kind.Colon at items = before_parts state items
take_token state kind.All at items = take_all state at items
take_token state _ at items = items

-- where the machine comes after the tokens, and the items with the newest first; None where it
-- can't take one
abbrev pub run : Option State → List Item → List Token → Option (State × List Item)
run None items tokens = None
run (Some state) items [] = Some (state, items)
run (Some state) items (token ∷ tokens) =
    run (next state (class_of token.kind)) (take_token state token.kind token.at items) tokens
