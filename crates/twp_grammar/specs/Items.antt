-- Derivation trees of the grammar, the tokens that a tree spells, and the items that are read from
-- it.
use Rattle.std.specs.Prelude.{ℕ, ◌⊎◌, List, [], ◌∷◌, ◌++◌, true, false, map}
use Rattle.std.specs.List.{flat_map}
use mathlib.Core.Logic.{inl, inr}
use Rattle.twp_grid.specs.declared.township.NorthSouth.{NorthSouth as NorthOrSouth}
use Rattle.twp_grid.specs.declared.township.NorthSouth.TheVariants as ns
use Rattle.twp_grid.specs.declared.township.EastWest.{EastWest as EastOrWest}
use Rattle.twp_grid.specs.declared.township.EastWest.TheVariants as ew
use Rattle.twp_grid.specs.declared.block.Side.{Side}
use Rattle.twp_grid.specs.declared.block.Side.TheVariants.{N, S, E, W}
use Rattle.twp_grammar.specs.declared.item.Item.{Item}
use Rattle.twp_grammar.specs.declared.item.Item.TheVariants.{Heading, Sections, Lots, Chain, All}
use Rattle.twp_grammar.specs.declared.item.Numeral.{Numeral}
use Rattle.twp_grammar.specs.declared.item.Step.{Step}
use Rattle.twp_grammar.specs.declared.item.Step.TheVariants.{Half, Quarter}
use Rattle.twp_grammar.specs.Tokens.{Token}
use Rattle.twp_grammar.specs.Grammar.{Class, Value, kind_of, Ebnf, never, nothing, one, ◌⨾◌, ◌∣◌, many}
use Rattle.twp_grammar.specs.Grammar.{number, step, chain, through, entry, entries, several, part}
use Rattle.twp_grammar.specs.Grammar.{parts, group, heading, description}

-- a token of a class
pub record Leaf (class : Class) : Type 0 where
  pub value : Value class
  pub text : List ℕ
  pub at : ℕ

-- the token of a leaf
abbrev pub token_of : (class : Class) → Leaf class → Token
token_of class leaf = record { kind = kind_of class leaf.value; text = leaf.text; at = leaf.at }

infixr 6 ◌&◌
-- a tree and the tree after it
pub data Then (A B : Type 0) : Type 0 where
  ◌&◌ : A → B → Then A B

-- the value that is read from the second tree
abbrev pub after : {A B C : Type 0} → (B → C) → Then A B → C
after read (_ & w) = read w

-- the derivations in a grammar
abbrev pub Tree : Ebnf → Type 0
Tree never = ⊥
Tree nothing = Unit {0}
Tree (one class) = Leaf class
Tree (g ⨾ h) = Then (Tree g) (Tree h)
Tree (g ∣ h) = Tree g ⊎ Tree h
Tree (many g) = List (Tree g)

-- the tokens of a derivation, from left to right
abbrev pub tokens : (g : Ebnf) → Tree g → List Token
tokens never v = []
tokens nothing v = []
tokens (one class) leaf = token_of class leaf ∷ []
tokens (g ⨾ h) (v & w) = tokens g v ++ tokens h w
tokens (g ∣ h) (inl v) = tokens g v
tokens (g ∣ h) (inr w) = tokens h w
tokens (many g) vs = flat_map (λ v. tokens g v) vs

-- a number as it is written, and its place
abbrev pub numeral : Leaf number → Numeral
numeral leaf = record { value = leaf.value; at = leaf.at }

-- the half that N or S means in a chain
abbrev pub north_or_south : NorthOrSouth → Side
north_or_south ns.N = N
north_or_south ns.S = S

-- the half that E or W means in a chain
abbrev pub east_or_west : EastOrWest → Side
east_or_west ew.E = E
east_or_west ew.W = W

-- the half or the quarter that a step names
abbrev pub step_of : Tree step → Step
step_of (inl (inl side & _)) = Half (north_or_south side.value)
step_of (inl (inr side & _)) = Half (east_or_west side.value)
step_of (inr (corner & _)) = Quarter corner.value

-- where a step begins
abbrev pub place_of_step : Tree step → ℕ
place_of_step (inl (inl side & _)) = side.at
place_of_step (inl (inr side & _)) = side.at
place_of_step (inr (corner & _)) = corner.at

-- a chain has the place of its first token
abbrev pub chain_item : Tree chain → Item
chain_item (first & more) = Chain (step_of first ∷ map (after step_of) more) (place_of_step first)

-- the numbers from first to last
pub record Range : Type 0 where
  pub first : Numeral
  pub last : Numeral

-- a range's last number
abbrev pub end_of : Tree through → Numeral
end_of (_ & last & _) = numeral last

-- the range of an entry; that of one number is from the number to itself
abbrev pub range_of : Tree entry → Range
range_of (first & inl thru) = record { first = numeral first; last = end_of thru }
range_of (only & inr _) = record { first = numeral only; last = numeral only }

-- the ranges of entries, in order
abbrev pub ranges_of : Tree entries → List Range
ranges_of (first & more) = range_of first ∷ map (after range_of) more

-- the ranges of several entries, in order
abbrev pub ranges_of_several : Tree several → List Range
ranges_of_several (first & inl thru & more) =
    record { first = numeral first; last = end_of thru } ∷ map (after range_of) more
ranges_of_several (first & inr (_ & second) & more) =
    record { first = numeral first; last = numeral first } ∷ range_of second ∷ map (after range_of) more

-- the lots of a range
abbrev pub lots_item : Range → Item
lots_item range = Lots range.first range.last

-- the sections of a range, whole
abbrev pub whole_sections_item : Range → Item
whole_sections_item range = Sections range.first range.last true

-- the items of a part: lots, an aliquot part, or all
abbrev pub part_items : Tree part → List Item
part_items (inl (_ & v)) = map lots_item (ranges_of v)
part_items (inr (inl v)) = chain_item v ∷ []
part_items (inr (inr word)) = All word.at ∷ []

-- the items of parts, in order
abbrev pub parts_items : Tree parts → List Item
parts_items (first & more) = part_items first ++ flat_map (after part_items) more

-- sections, and then their parts; `all` after several sections is not an item
abbrev pub group_items : Tree group → List Item
group_items (inl (_ & _ & only & inl (_ & v))) = Sections (numeral only) (numeral only) false ∷ parts_items v
group_items (inl (_ & _ & only & inr _)) = Sections (numeral only) (numeral only) true ∷ []
group_items (inr (_ & _ & v & _)) = map whole_sections_item (ranges_of_several v)

-- a heading has the place of its T
abbrev pub heading_item : Tree heading → Item
heading_item (letter & _ & township & side & _ & _ & _ & _ & range & way & _) =
    Heading township.value side.value range.value way.value letter.at

-- the items of a description: its heading, and those of its groups in order
abbrev pub items : Tree description → List Item
items (inl v & first & more & _) =
    heading_item v ∷ group_items first ++ flat_map (after (after group_items)) more
items (inr _ & first & more & _) = group_items first ++ flat_map (after (after group_items)) more

-- the items begin with sections, after a heading or immediately
abbrev pub BeginWithSections : List Item → Type 0
BeginWithSections (Heading _ _ _ _ _ ∷ Sections _ _ _ ∷ more) = Unit {0}
BeginWithSections (Sections _ _ _ ∷ more) = Unit {0}
BeginWithSections _ = ⊥
