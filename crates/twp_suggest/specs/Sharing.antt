-- Two parts with `and` between them, only one of which has an `of`: it may apply to both. And two steps with
-- white space between them, which may be one part or two. The other way to read them is found in the tokens
-- of a text.
use Rattle.std.specs.Prelude.{◌≡◌, ◌==◌, ◌||◌, ◌&&◌, ℕ, ◌+◌, ◌-◌, Bool, true, false, List, [], ◌∷◌}
use Rattle.std.specs.Prelude.{if◌then◌else◌, length, map, nat_le, nat_lt, not, Option, None}
use Rattle.std.specs.Prelude.{slice_index}
use Rattle.twp_grammar.specs.declared.tokens.Kind.{Kind}
use Rattle.twp_grammar.specs.declared.tokens.Kind.TheVariants.{And, Comma, Colon, Half, Quarter, The}
use Rattle.twp_grammar.specs.Tokens.{Token, HasTokens, is_white}
use Rattle.twp_read.specs.Doubts.{after_part, begins_step, end_of, is_and, is_number, is_of, is_of_part}
use Rattle.twp_read.specs.Doubts.{is_of_step}
use Rattle.twp_rules.specs.declared.rule.Rule.{Rule}
use Rattle.twp_rules.specs.declared.rule.Rule.TheVariants as rule
use Rattle.twp_rules.specs.Changes.{Change}
use Rattle.twp_rules.specs.Naming.{is_side}
use Rattle.twp_suggest.specs.declared.sharing.SoughtChanges.{SoughtChanges}
use Rattle.twp_suggest.specs.declared.sharing.SoughtChanges.TheVariants.{Copies, Phrases}
use Rattle.twp_suggest.specs.declared.way.Way.{Way}
use Rattle.twp_suggest.specs.declared.way.Way.TheVariants.{Again, Apart}
use Rattle.twp_suggest.specs.Ways.{IfWay, way_if}

-- a comma
abbrev pub is_comma : Kind → Bool
is_comma Comma = true
is_comma kind = false

-- the word `the`
abbrev pub is_the : Kind → Bool
is_the The = true
is_the kind = false

-- what is before a part: the number of a section, a comma, a colon, or `and`
abbrev pub leads_part : Kind → Bool
leads_part Comma = true
leads_part Colon = true
leads_part And = true
leads_part kind = is_number kind

-- there are no tokens
abbrev pub is_nothing : List Token → Bool
is_nothing [] = true
is_nothing (token ∷ more) = false

-- the place of the first token, or of the end
abbrev pub first_at : ℕ → List Token → ℕ
first_at end [] = end
first_at end (token ∷ more) = token.at

-- tokens without `the` before them
abbrev pub without_the : List Token → List Token
without_the [] = []
without_the (token ∷ more) = if is_the token.kind then more else token ∷ more

-- the tokens after the `of` of a part that follows `count` others, or nothing
abbrev pub after_of : ℕ → List Token → List Token
after_of count [] = []
after_of count (token ∷ more) =
    if is_of token.kind then (if count == 0 then without_the more else after_of (count - 1) more)
    else (if is_of_part token.kind then after_of count more else [])

-- how many `of` a part has, at most three
abbrev pub of_count : List Token → ℕ
of_count part =
    if is_nothing (after_of 0 part) then 0
    else (if is_nothing (after_of 1 part) then 1 else (if is_nothing (after_of 2 part) then 2 else 3))

-- the first token begins a step, and so a part
abbrev pub begins_part : List Token → Bool
begins_part [] = false
begins_part (token ∷ more) = begins_step token.kind

-- a part with more than so many `of`
abbrev pub is_part_of : ℕ → List Token → Bool
is_part_of count part = begins_part part && not (is_nothing (after_of count part))

-- the tokens of a list of parts without `of`
abbrev pub is_listed : Kind → Bool
is_listed kind = is_of_step kind || is_and kind || is_comma kind

-- the part with more than so many `of` that is after `and` at the end of a list of parts
abbrev pub last_part : ℕ → List Token → List Token
last_part count [] = []
last_part count (token ∷ more) =
    if is_and token.kind && is_part_of count more then more
    else (if is_listed token.kind then last_part count more else [])

-- a rule writes steps again, or leaves out a phrase
abbrev pub is_sought : SoughtChanges → Rule → Bool
is_sought Copies (rule.CopiedStep from to) = true
is_sought Phrases rule.Repeated = true
is_sought Phrases rule.MovedSection = true
is_sought Phrases rule.MovedHeading = true
is_sought Phrases rule.Meridian = true
is_sought Phrases rule.Acreage = true
is_sought Phrases rule.Label = true
is_sought sought other = false

-- such a change is between two places of the text that changes make
abbrev pub is_within : SoughtChanges → ℕ → ℕ → ℕ → ℕ → List Change → Bool
is_within sought from to at place [] = false
is_within sought from to at place (change ∷ changes) =
    is_sought sought change.rule && nat_le from (place + (change.start - at))
    && nat_lt (place + (change.start - at)) to
    || is_within sought from to change.end (place + (change.start - at) + length change.written) changes

-- no phrase is left out between two parts, and all steps of one of them are from the text
abbrev pub are_as_written : List Change → ℕ → ℕ → ℕ → ℕ → Bool
are_as_written changes from to first end =
    not (is_within Phrases from to 0 0 changes) && not (is_within Copies first end 0 0 changes)

-- the tokens after the additional `of` of another part, repeated after a part, before other tokens
abbrev pub tail_by : List Change → ℕ → ℕ → ℕ → ℕ → List Token → Option Way
tail_by changes end count first next [] = None
tail_by changes end count first next (token ∷ more) =
    way_if (are_as_written changes first token.at first next)
    (Again next (first_at end (after_of count (token ∷ more))) (first_at end (after_part (token ∷ more))))

-- THE LAND AFTER `OF` IS OF AN EARLIER PART TOO, as in `NE1/4 and SE1/4 of SW1/4`
abbrev pub tail_of : List Change → ℕ → List Token → Option Way
tail_of changes end part =
    tail_by changes end (of_count part) (first_at end part) (first_at end (after_part part))
    (last_part (of_count part) (after_part part))

-- the part after `and`
abbrev pub part_after_and : List Token → List Token
part_after_and [] = []
part_after_and (token ∷ more) = if is_and token.kind && begins_part more then more else []

-- the tokens before the additional `of` of a part, repeated before another part
abbrev pub head_by : List Change → ℕ → List Token → List Token → Option Way
head_by changes end part [] = None
head_by changes end part (token ∷ more) =
    way_if (nat_lt (of_count (token ∷ more)) (of_count part)
    && are_as_written changes (first_at end part) token.at token.at
    (first_at end (after_part (token ∷ more))))
    (Again token.at (first_at end part)
    (first_at end (after_of (of_count part - of_count (token ∷ more) - 1) part)))

-- WHAT IS BEFORE `OF` IS PART OF THE NEXT PART TOO, as in `N1/2 of NE1/4 and SE1/4`
abbrev pub head_of : List Change → ℕ → List Token → Option Way
head_of changes end part = head_by changes end part (part_after_and (after_part part))

-- the first of these, if a token before a part leads to it
abbrev pub tail_after : List Change → ℕ → Kind → List Token → Option Way
tail_after changes end kind more =
    if leads_part kind && begins_part more then tail_of changes end more else None

-- and the second
abbrev pub head_after : List Change → ℕ → Kind → List Token → Option Way
head_after changes end kind more =
    if leads_part kind && begins_part more then head_of changes end more else None

-- a fraction of a half or a quarter
abbrev pub is_fraction : Kind → Bool
is_fraction Half = true
is_fraction Quarter = true
is_fraction kind = false

-- TWO STEPS WITH WHITE SPACE BETWEEN THEM MAY BE TWO PARTS, if the first one is from the text
abbrev pub apart_after : List Change → Token → List Token → Option Way
apart_after changes token [] = None
apart_after changes token (next ∷ more) =
    way_if (is_fraction token.kind && begins_step next.kind && nat_lt (end_of token) next.at
    && not (is_within Copies (token.at - 2) token.at 0 0 changes)) (Apart (end_of token))

-- the other ways at a token before others are given
abbrev pub AtToken : (Way → Type 0) → List Change → ℕ → Token → List Token → Type 0
AtToken IsGiven changes end token more =
    IfWay IsGiven (tail_after changes end token.kind more)
    × IfWay IsGiven (head_after changes end token.kind more)
    × IfWay IsGiven (apart_after changes token more)

-- THE OTHER WAYS AT EACH TOKEN ARE GIVEN, in tokens of a text that ends at a place
abbrev pub AreShared : (Way → Type 0) → List Change → ℕ → List Token → Type 0
AreShared IsGiven changes end [] = Unit {0}
AreShared IsGiven changes end (token ∷ more) =
    AtToken IsGiven changes end token more × AreShared IsGiven changes end more

-- a comma is written for `&`
abbrev pub is_comma_by : Rule → List ℕ → ℕ → ℕ → Bool
is_comma_by rule.Comma text start end =
    nat_lt start end && (end - start == 1) && (slice_index text start == 38)
is_comma_by other text start end = false

-- a comma at a place of the text that changes make is written for `&`
abbrev pub is_for_and : List ℕ → ℕ → ℕ → ℕ → List Change → Bool
is_for_and text seat at place [] = false
is_for_and text seat at place (change ∷ changes) =
    is_comma_by change.rule text change.start change.end
    && (place + (change.start - at) == seat)
    || is_for_and text seat change.end (place + (change.start - at) + length change.written) changes

-- a token as it is in the text: such a comma is `and`
abbrev pub as_and : List ℕ → List Change → Token → Token
as_and text changes token = record {
  kind = if is_comma token.kind && is_for_and text token.at 0 0 changes then And else token.kind;
  text = token.text;
  at = token.at;
}

-- tokens of what changes make of a text, with `and` for `&`
pub record HasJoinedTokens (text made : List ℕ) (changes : List Change) (tokens : List Token) : Type 0 where
  pub cut_tokens : List Token
  pub cut : HasTokens 0 made cut_tokens
  pub joined : tokens ≡ map (as_and text changes) cut_tokens

-- F, which of the words of a description only `of` has
abbrev pub is_f : ℕ → Bool
is_f byte = (byte == 102) || (byte == 70)

-- the last byte of a step
abbrev pub may_end_step : ℕ → Bool
may_end_step byte = (byte == 50) || (byte == 52) || (byte == 188) || (byte == 189)

-- white space between a step and another, or more white space
abbrev pub may_be_between : ℕ → ℕ → ℕ → Bool
may_be_between before byte after =
    is_white byte && may_end_step before && (is_side after || is_white after)

-- `of` may be written in a text, or white space between two steps
abbrev pub has_place : ℕ → List ℕ → Bool
has_place before [] = false
has_place before (byte ∷ bytes) =
    is_f byte || may_be_between before byte (slice_index bytes 0) || has_place byte bytes

-- the other ways at each token of a text are given
pub record IsShared (IsGiven : Way → Type 0) (text made : List ℕ) (changes : List Change) : Type 0 where
  pub tokens : List Token
  pub joined : HasJoinedTokens text made changes tokens
  pub given : AreShared IsGiven changes (length made) tokens
