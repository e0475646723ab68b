-- The grammar of descriptions (the form of the Specifications for Descriptions of Land; the grammar
-- is this project's). It is about classes of tokens only: the value of a number or of a direction
-- makes no difference.
use Rattle.std.specs.Prelude.{ℕ}
use Rattle.twp_grid.specs.declared.township.NorthSouth.{NorthSouth as NorthOrSouth}
use Rattle.twp_grid.specs.declared.township.EastWest.{EastWest as EastOrWest}
use Rattle.twp_grid.specs.declared.block.Corner.{Corner as OneCorner}
use Rattle.twp_grammar.specs.declared.tokens.Kind.{Kind}
use Rattle.twp_grammar.specs.declared.tokens.Kind.TheVariants.{Sec, Lot, All, And, To, Inclusive, Of}
use Rattle.twp_grammar.specs.declared.tokens.Kind.TheVariants.{The, T, R, NorthSouth, EastWest, Corner}
use Rattle.twp_grammar.specs.declared.tokens.Kind.TheVariants.{Half, Quarter, Number, Comma, Semicolon}
use Rattle.twp_grammar.specs.declared.tokens.Kind.TheVariants.{Colon, Stop, Other, BadNumber, BadByte}

-- a kind of token without its value
pub data Class : Type 0 where
  sec lot all and to inclusive of the : Class
  t r north_south east_west corner half quarter number : Class
  comma semicolon colon stop other bad_number bad_byte : Class

-- the values of the tokens of a class
abbrev pub Value : Class → Type 0
Value north_south = NorthOrSouth
Value east_west = EastOrWest
Value corner = OneCorner
Value number = ℕ
Value _ = Unit {0}

-- the class of a kind
abbrev pub class_of : Kind → Class
class_of Sec = sec
class_of Lot = lot
class_of All = all
class_of And = and
class_of To = to
class_of Inclusive = inclusive
class_of Of = of
class_of The = the
class_of T = t
class_of R = r
class_of (NorthSouth side) = north_south
class_of (EastWest side) = east_west
class_of (Corner which) = corner
class_of Half = half
class_of Quarter = quarter
class_of (Number value) = number
class_of Comma = comma
class_of Semicolon = semicolon
class_of Colon = colon
class_of Stop = stop
class_of Other = other
class_of BadNumber = bad_number
class_of BadByte = bad_byte

-- the kind of a class and a value
abbrev pub kind_of : (class : Class) → Value class → Kind
kind_of sec _ = Sec
kind_of lot _ = Lot
kind_of all _ = All
kind_of and _ = And
kind_of to _ = To
kind_of inclusive _ = Inclusive
kind_of of _ = Of
kind_of the _ = The
kind_of t _ = T
kind_of r _ = R
kind_of north_south side = NorthSouth side
kind_of east_west side = EastWest side
kind_of corner which = Corner which
kind_of half _ = Half
kind_of quarter _ = Quarter
kind_of number value = Number value
kind_of comma _ = Comma
kind_of semicolon _ = Semicolon
kind_of colon _ = Colon
kind_of stop _ = Stop
kind_of other _ = Other
kind_of bad_number _ = BadNumber
kind_of bad_byte _ = BadByte

infixr 6 ◌⨾◌
infixr 5 ◌∣◌
-- grammars: no sentence, no tokens, one token of a class, a sequence, an alternative, or a repetition
pub data Ebnf : Type 0 where
  never nothing : Ebnf
  one : Class → Ebnf
  ◌⨾◌ ◌∣◌ : Ebnf → Ebnf → Ebnf
  many : Ebnf → Ebnf

-- an optional part
abbrev pub maybe : Ebnf → Ebnf
maybe g = g ∣ nothing

-- a half or a quarter
abbrev pub step : Ebnf
step = (one north_south ∣ one east_west) ⨾ one half ∣ one corner ⨾ one quarter

-- an aliquot part: NE1/4SW1/4, or NE1/4 of the SW1/4
abbrev pub chain : Ebnf
chain = step ⨾ many (maybe (one of ⨾ maybe (one the)) ⨾ step)

-- thru 4, or thru 4, inclusive
abbrev pub through : Ebnf
through = one to ⨾ one number ⨾ maybe (maybe (one comma) ⨾ one inclusive)

-- a number, or a range of numbers
abbrev pub entry : Ebnf
entry = one number ⨾ maybe through

-- the separator between two entries or two parts
abbrev pub separator : Ebnf
separator = one comma ⨾ maybe (one and) ∣ one and

-- one or more entries
abbrev pub entries : Ebnf
entries = entry ⨾ many (separator ⨾ entry)

-- entries that are not one number alone, as a law states
abbrev pub several : Ebnf
several = one number ⨾ (through ∣ separator ⨾ entry) ⨾ many (separator ⨾ entry)

-- lots, an aliquot part, or all
abbrev pub part : Ebnf
part = one lot ⨾ entries ∣ chain ∣ one all

-- one or more parts
abbrev pub parts : Ebnf
parts = part ⨾ many (separator ⨾ part)

-- the optional mark between the sections and the parts taken of them
abbrev pub comma_or_colon : Ebnf
comma_or_colon = maybe (one comma ∣ one colon)

-- one section and its parts, or several whole sections
abbrev pub group : Ebnf
group = one sec ⨾ maybe (one stop) ⨾ one number ⨾ maybe (comma_or_colon ⨾ parts)
    ∣ one sec ⨾ maybe (one stop) ⨾ several ⨾ maybe (comma_or_colon ⨾ one all)

-- T. 2 N., R. 3 W.,
abbrev pub heading : Ebnf
heading = one t ⨾ maybe (one stop) ⨾ one number ⨾ one north_south ⨾ maybe (one stop) ⨾ maybe (one comma)
    ⨾ one r ⨾ maybe (one stop) ⨾ one number ⨾ one east_west ⨾ maybe (one stop) ⨾ maybe (one comma)

-- a heading, if there is one, and groups
abbrev pub description : Ebnf
description = maybe heading ⨾ group ⨾ many (one semicolon ⨾ maybe (one and) ⨾ group) ⨾ maybe (one stop)
