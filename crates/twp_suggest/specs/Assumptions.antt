-- What a change of a reading assumes that its text doesn't state, and the phrase that the assumption is
-- about. Letters of either case are the same.
use Rattle.std.specs.Prelude.{◌==◌, ◌||◌, ◌&&◌, ◌+◌, ◌-◌, ℕ, zero, suc, Bool, true, List, [], ◌∷◌}
use Rattle.std.specs.Prelude.{Option, Some, None}
use Rattle.std.specs.Prelude.{drop, if◌then◌else◌, codes, length, slice_index, slice_range, take, not}
use Rattle.twp_grammar.specs.Tokens.{is_white}
use Rattle.twp_rules.specs.Changes.{Change}
use Rattle.twp_rules.specs.Edges.{is_one_of, without_white}
use Rattle.twp_rules.specs.Naming.{is_side, word_of}
use Rattle.twp_rules.specs.declared.rule.Rule.{Rule}
use Rattle.twp_rules.specs.Rules.{is_worn}
use Rattle.twp_rules.specs.declared.rule.Rule.TheVariants.{Half, Quarter, Copied, OnePart, Repeated}
use Rattle.twp_rules.specs.declared.rule.Rule.TheVariants.{Meridian, Acreage, Label}
use Rattle.twp_suggest.specs.declared.assumptions.Assumption.{Assumption}
use Rattle.twp_suggest.specs.declared.assumptions.Assumption.TheVariants.{SameMeridian, SameAcreage, NotLand}
use Rattle.twp_suggest.specs.declared.assumptions.Assumption.TheVariants.{SaidBefore, WrongLetter}
use Rattle.twp_suggest.specs.declared.assumptions.Assumption.TheVariants.{NoMissingComma}

-- words for sides and corners
abbrev pub side_words : List (List ℕ)
side_words = codes "north" ∷ codes "south" ∷ codes "east" ∷ codes "west" ∷ codes "northeast"
    ∷ codes "northwest" ∷ codes "southeast" ∷ codes "southwest" ∷ []

-- the last letters of what may be only half of a corner: N, S, North, South
abbrev pub half_corner_ends : List (List ℕ)
half_corner_ends = codes "n" ∷ codes "s" ∷ codes "h" ∷ []

-- letters are all N, S, E, or W
abbrev pub are_sides : List ℕ → Bool
are_sides [] = true
are_sides (byte ∷ bytes) = is_side byte && are_sides bytes

-- a text begins with a step of a part: with letters N, S, E, and W alone, or a word for them
abbrev pub begins_step : List ℕ → Bool
begins_step rest =
    is_one_of (word_of rest) side_words || is_side (slice_index rest 0) && are_sides (word_of rest)

-- the last byte before a place that is neither white space nor a period, or 0
abbrev pub last_before : List ℕ → ℕ → ℕ
last_before text zero = 0
last_before text (suc at) =
    if is_white (slice_index text at) || (slice_index text at == 46) then last_before text at
    else slice_index text at

-- a step ends before a place, and another one begins after it
abbrev pub is_between_steps : List ℕ → ℕ → ℕ → Bool
is_between_steps text start end =
    not (is_one_of (last_before text start ∷ []) half_corner_ends)
    && begins_step (without_white (drop end text))

-- if a step follows another without a mark, no comma is missing there
abbrev pub if_joined : Bool → Option Assumption
if_joined joined = if joined then Some NoMissingComma else None

-- what a rule assumes where it changes a text from one place up to another, and where nothing is worn
abbrev pub assumed_by : Rule → List ℕ → ℕ → ℕ → Option Assumption
assumed_by Meridian text start end = Some SameMeridian
assumed_by Acreage text start end = Some SameAcreage
assumed_by Label text start end = Some NotLand
assumed_by Repeated text start end = Some SaidBefore
assumed_by Half text start end = if_joined (begins_step (drop end text))
assumed_by Quarter text start end = if_joined (begins_step (drop end text))
assumed_by OnePart text start end = if_joined (is_between_steps text start end)
assumed_by rule text start end = None

-- what a rule reads of a text: what it copies, or what it looks at
abbrev pub read_by : Rule → List ℕ → ℕ → ℕ → List ℕ
read_by (Copied from to) text start end = slice_range text from to
read_by rule text start end = slice_range text start end

-- WHAT A CHANGE ASSUMES that its text doesn't say, if it assumes anything
abbrev pub assumed : List ℕ → Change → Option Assumption
assumed text change =
    if is_worn change.rule (read_by change.rule text change.start change.end) change.written
    then Some WrongLetter
    else assumed_by change.rule text change.start change.end

-- an assumption in words
abbrev pub words_of : Assumption → List ℕ
words_of SameMeridian = codes "the meridian, state, or county is that of the plat"
words_of SameAcreage = codes "the acreage is not compared"
words_of NotLand = codes "this is not land"
words_of SaidBefore = codes "this repeats what is before it"
words_of WrongLetter = codes "a letter or digit is wrong"
words_of NoMissingComma = codes "no comma is missing"

-- a byte between words: white space, a comma, a semicolon, a colon, or a bar
abbrev pub is_between_words : ℕ → Bool
is_between_words byte = is_white byte || (byte == 44) || (byte == 59) || (byte == 58) || (byte == 124)

-- where the word before a place begins
abbrev pub word_start : List ℕ → ℕ → ℕ
word_start text zero = 0
word_start text (suc at) = if is_between_words (slice_index text at) then suc at else word_start text at

-- the length of the word at the beginning of a text
abbrev pub word_length : List ℕ → ℕ
word_length [] = 0
word_length (byte ∷ bytes) = if is_between_words byte then 0 else suc (word_length bytes)

-- where the white space before a place begins
abbrev pub white_start : List ℕ → ℕ → ℕ
white_start text zero = 0
white_start text (suc at) = if is_white (slice_index text at) then white_start text at else suc at

-- how long the white space is with which a text begins
abbrev pub white_length : List ℕ → ℕ
white_length [] = 0
white_length (byte ∷ bytes) = if is_white byte then suc (white_length bytes) else 0

-- where the white space after a place ends
abbrev pub white_end : List ℕ → ℕ → ℕ
white_end text at = at + white_length (drop at text)

-- where the word after a place ends
abbrev pub word_end : List ℕ → ℕ → ℕ
word_end text at = at + word_length (drop at text)

-- a text without the period at its end
abbrev pub without_period : List ℕ → List ℕ
without_period bytes =
    if slice_index bytes (length bytes - 1) == 46 then take (length bytes - 1) bytes else bytes

-- the words that a text has from one place up to another, whole, without the period at their end
abbrev pub words_around : List ℕ → ℕ → ℕ → List ℕ
words_around text start end =
    without_period (slice_range text (word_start text start) (word_end text end))

-- the phrase that a change by a rule is about: what is left out; and where a letter is wrong, or a comma may
-- be missing, the words around it
abbrev pub phrase_by : Rule → List ℕ → ℕ → ℕ → List ℕ
phrase_by Meridian text start end = slice_range text start end
phrase_by Acreage text start end = slice_range text start end
phrase_by Label text start end = slice_range text start end
phrase_by Repeated text start end = slice_range text start end
phrase_by (Copied from to) text start end = words_around text from to
phrase_by OnePart text start end = words_around text (white_start text start) (white_end text end)
phrase_by rule text start end = words_around text start end

-- THE PHRASE that a change is about
abbrev pub phrase : List ℕ → Change → List ℕ
phrase text change = phrase_by change.rule text change.start change.end
