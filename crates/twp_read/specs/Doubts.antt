-- Places of a description that can be read in two ways, though the grammar reads them in one. Each kind is a
-- pattern over tokens in a row.
use Rattle.std.specs.Prelude.{◌≡◌, ◌==◌, ◌||◌, ◌&&◌, not, ℕ, ◌+◌, nat_lt, Bool, true, false, List, [], ◌∷◌}
use Rattle.std.specs.Prelude.{if◌then◌else◌, Option, Some, None, length}
use Rattle.twp_grammar.specs.declared.tokens.Kind.{Kind}
use Rattle.twp_grammar.specs.declared.tokens.Kind.TheVariants.{Sec, Lot, And, To, Of, The, T, R}
use Rattle.twp_grammar.specs.declared.tokens.Kind.TheVariants.{NorthSouth, EastWest}
use Rattle.twp_grammar.specs.declared.tokens.Kind.TheVariants.{Corner, Half, Quarter, Number, Comma, Colon}
use Rattle.twp_grammar.specs.declared.tokens.Kind.TheVariants.{Stop}
use Rattle.twp_grammar.specs.Tokens.{Token, HasTokens}
use Rattle.twp_read.specs.declared.doubt.Doubt.{Doubt}
use Rattle.twp_read.specs.declared.doubt.Doubt.TheVariants as doubt
use Rattle.twp_read.specs.declared.doubt.DoubtfulPlace.{DoubtfulPlace}
use Rattle.twp_read.specs.declared.doubt.Doubts.{Doubts}

-- a doubtful place of this kind
abbrev place : Doubt → ℕ → DoubtfulPlace
place kind at = record { doubt = kind; at = at }

-- the letters of a side or of a corner, with which a step begins
abbrev pub begins_step : Kind → Bool
begins_step (NorthSouth side) = true
begins_step (EastWest side) = true
begins_step (Corner corner) = true
begins_step _ = false

-- the letters or the fraction of a step
abbrev pub is_of_step : Kind → Bool
is_of_step Half = true
is_of_step Quarter = true
is_of_step kind = begins_step kind

abbrev pub is_number : Kind → Bool
is_number (Number value) = true
is_number _ = false

abbrev pub is_and : Kind → Bool
is_and And = true
is_and _ = false

abbrev pub is_of : Kind → Bool
is_of Of = true
is_of _ = false

-- the place after a token
abbrev pub end_of : Token → ℕ
end_of token = token.at + length token.text

-- JOINED: the fraction of a step, white space, and the letters of another step
abbrev pub joined_at : Token → List Token → Option DoubtfulPlace
joined_at fraction [] = None
joined_at fraction (letters ∷ more) =
    if begins_step letters.kind && nat_lt (end_of fraction) letters.at
    then Some (place doubt.Joined letters.at)
    else None

-- what is left after the letters and fractions of steps
abbrev pub after_steps : List Token → List Token
after_steps [] = []
after_steps (token ∷ more) = if is_of_step token.kind then after_steps more else token ∷ more

abbrev pub begin_with_of : List Token → Bool
begin_with_of [] = false
begin_with_of (token ∷ more) = is_of token.kind

-- steps, and `of`
abbrev pub begin_with_part_of : List Token → Bool
begin_with_part_of [] = false
begin_with_part_of (token ∷ more) = begins_step token.kind && begin_with_of (after_steps more)

-- `and`, steps, and `of`
abbrev pub joins_part : List Token → Bool
joins_part [] = false
joins_part (token ∷ more) = is_and token.kind && begin_with_part_of more

-- SHARED: a part without `of`, `and`, and a part with `of`
abbrev pub shared_at : List Token → Option DoubtfulPlace
shared_at [] = None
shared_at (letters ∷ more) =
    if begins_step letters.kind && joins_part (after_steps more)
    then Some (place doubt.Shared letters.at)
    else None

-- the letters or the fraction of a step, `of`, or `the`
abbrev pub is_of_part : Kind → Bool
is_of_part Of = true
is_of_part The = true
is_of_part kind = is_of_step kind

-- what is left after a part
abbrev pub after_part : List Token → List Token
after_part [] = []
after_part (token ∷ more) = if is_of_part token.kind then after_part more else token ∷ more

-- steps, and no `of`
abbrev pub begin_with_lone_part : List Token → Bool
begin_with_lone_part [] = false
begin_with_lone_part (token ∷ more) = begins_step token.kind && not (begin_with_of (after_steps more))

-- `and`, steps, and no `of`
abbrev pub adds_part : List Token → Bool
adds_part [] = false
adds_part (token ∷ more) = is_and token.kind && begin_with_lone_part more

-- SPREAD: a part with `of`, `and`, and a part without `of`
abbrev pub spread_at : List Token → Option DoubtfulPlace
spread_at [] = None
spread_at (letters ∷ more) =
    if begin_with_part_of (letters ∷ more) && adds_part (after_part more)
    then Some (place doubt.Spread letters.at)
    else None

-- the first of two doubtful places, if there is one
abbrev pub first_place : Option DoubtfulPlace → Option DoubtfulPlace → Option DoubtfulPlace
first_place None second = second
first_place (Some first) second = Some first

-- a part that may be of the land of the next one, or part of it
abbrev pub part_at : List Token → Option DoubtfulPlace
part_at tokens = first_place (shared_at tokens) (spread_at tokens)

-- a word in the singular: `sec` and `lot` have three letters, and `section` has seven
abbrev pub is_singular : List ℕ → Bool
is_singular word = (length word == 3) || (length word == 7)

abbrev pub begin_with_number : List Token → Bool
begin_with_number [] = false
begin_with_number (token ∷ more) = is_number token.kind

-- `and` and a number
abbrev pub begin_with_and_number : List Token → Bool
begin_with_and_number [] = false
begin_with_and_number (token ∷ more) = is_and token.kind && begin_with_number more

-- `to`, `and`, a comma, or a comma and `and` join a number to the one before it
abbrev pub joins_number : Kind → List Token → Bool
joins_number To more = begin_with_number more
joins_number And more = begin_with_number more
joins_number Comma more = begin_with_number more || begin_with_and_number more
joins_number _ more = false

-- a number, and another that is joined to it
abbrev pub begin_several : List Token → Bool
begin_several [] = false
begin_several (number ∷ []) = false
begin_several (number ∷ join ∷ more) = is_number number.kind && joins_number join.kind more

-- the same after a period, if there is one
abbrev pub are_several_after : Kind → Token → List Token → Bool
are_several_after Stop token more = begin_several more
are_several_after _ token more = begin_several (token ∷ more)

abbrev pub are_several : List Token → Bool
are_several [] = false
are_several (token ∷ more) = are_several_after token.kind token more

-- SEVERAL: the word for a section or a lot in the singular, and several numbers
abbrev pub several_at : Token → List Token → Option DoubtfulPlace
several_at word more =
    if is_singular word.text && are_several more then Some (place doubt.Several word.at) else None

-- a zero and more digits
abbrev pub is_padded : List ℕ → Bool
is_padded [] = false
is_padded (digit ∷ []) = false
is_padded (digit ∷ next ∷ more) = digit == 48

abbrev pub padded_number : List Token → Option DoubtfulPlace
padded_number [] = None
padded_number (token ∷ more) =
    if is_number token.kind && is_padded token.text then Some (place doubt.Padded token.at) else None

-- PADDED: after `T` or `R`, and a period, if there is one, a number that begins with a zero
abbrev pub padded_after : Kind → Token → List Token → Option DoubtfulPlace
padded_after Stop token more = padded_number more
padded_after _ token more = padded_number (token ∷ more)

abbrev pub padded_at : List Token → Option DoubtfulPlace
padded_at [] = None
padded_at (token ∷ more) = padded_after token.kind token more

-- the doubtful place of which this is the first token, or the one before the first: a part follows the number
-- of a section, a comma, a colon, or `and`
abbrev pub doubt_after : Kind → Token → List Token → Option DoubtfulPlace
doubt_after Half token more = joined_at token more
doubt_after Quarter token more = joined_at token more
doubt_after Sec token more = several_at token more
doubt_after Lot token more = several_at token more
doubt_after T token more = padded_at more
doubt_after R token more = padded_at more
doubt_after (Number value) token more = part_at more
doubt_after Comma token more = part_at more
doubt_after Colon token more = part_at more
doubt_after And token more = part_at more
doubt_after _ token more = None

abbrev pub doubt_at : List Token → Option DoubtfulPlace
doubt_at [] = None
doubt_at (token ∷ more) = doubt_after token.kind token more

-- the places, with one before them, if there is one
abbrev pub with_place : Option DoubtfulPlace → List DoubtfulPlace → List DoubtfulPlace
with_place None places = places
with_place (Some place) places = place ∷ places

-- the doubtful places of tokens, from left to right
abbrev pub doubts : List Token → List DoubtfulPlace
doubts [] = []
doubts (token ∷ more) = with_place (doubt_at (token ∷ more)) (doubts more)

-- these are the doubtful places of a text
pub record HasDoubts (text : List ℕ) (places : List DoubtfulPlace) : Type 0 where
  pub tokens : List Token
  pub cut : HasTokens 0 text tokens
  pub places_are : doubts tokens ≡ places

abbrev pub HasNoDoubtfulPlace : List ℕ → Type 0
HasNoDoubtfulPlace text = HasDoubts text []

-- a list of places begins with the first of these, and has so many more
pub record IsFound (places : List DoubtfulPlace) (found : Doubts) : Type 0 where
  pub more : List DoubtfulPlace
  pub first : places ≡ found.first ∷ more
  pub others : length more ≡ found.others

-- the first doubtful place of a text, and how many more there are
pub record AreDoubts (text : List ℕ) (found : Doubts) : Type 0 where
  pub places : List DoubtfulPlace
  pub all : HasDoubts text places
  pub found_is : IsFound places found
