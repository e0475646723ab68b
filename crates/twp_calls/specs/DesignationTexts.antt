-- How a township is spelled: `T. 2 N., R. 3 W.` as in the heading of a description, `T2N R3W`,
-- `Township 2 North, Range 3 West`, `T-2-N, R-3-W`, `2N-3W`, or `0020N 0030W` as in a register. Letters may
-- be uppercase or lowercase, and white space may be between any two tokens.
use Rattle.std.specs.Prelude.{◌≡◌, ◌==◌, ◌&&◌, ℕ, suc, ◌+◌, ◌/◌, ◌%◌, ◌<◌, ◌≤◌, nat_le, List, [], ◌∷◌}
use Rattle.std.specs.Prelude.{◌++◌}
use Rattle.std.specs.Prelude.{Option, Some, None, length, take, map, codes, decimal, if◌then◌else◌}
use Rattle.std.specs.List.{Contains}
use Rattle.std.specs.Str.{str_to_ascii_lowercase}
use Rattle.twp_grid.specs.Townships.{Designation, IsTownshipNumber, north_south_letter, east_west_letter}
use Rattle.twp_grid.specs.declared.refusal.Refusal.{Refusal}
use Rattle.twp_grid.specs.declared.township.NorthSouth.{NorthSouth}
use Rattle.twp_grid.specs.declared.township.EastWest.{EastWest}
use Rattle.twp_grid.specs.declared.township.NorthSouth.TheVariants as ns
use Rattle.twp_grid.specs.declared.township.EastWest.TheVariants as ew
use Rattle.twp_grammar.specs.Tokens.{Token, HasTokens, same_bytes}
use Rattle.twp_grammar.specs.declared.tokens.Kind.{Kind}
use Rattle.twp_grammar.specs.declared.tokens.Kind.TheVariants as kind
use Rattle.twp_read.specs.TextFaults.{TEXT_LIMIT, refusal, place_of_token}
use Rattle.twp_calls.specs.declared.designation_mark.DesignationMark.{DesignationMark}
use Rattle.twp_calls.specs.declared.designation_mark.DesignationMark.TheVariants as mark
use Rattle.twp_calls.specs.declared.designation_parts.SpelledNumber.{SpelledNumber}
use Rattle.twp_calls.specs.declared.designation_parts.DesignationParts.{DesignationParts}

-- a word, in lowercase letters, and its meaning
pub record Meaning : Type 0 where
  pub letters : List ℕ
  pub mark : DesignationMark

-- a word with this meaning
abbrev pub means : List ℕ → DesignationMark → Meaning
means letters mark = record { letters = letters; mark = mark }

-- the words before the number of a township, and before that of a range, besides T and R
abbrev pub name_words : List Meaning
name_words = means (codes "township") mark.Township ∷ means (codes "twp") mark.Township
    ∷ means (codes "twsp") mark.Township ∷ means (codes "tp") mark.Township
    ∷ means (codes "range") mark.Range ∷ means (codes "rng") mark.Range
    ∷ means (codes "rge") mark.Range ∷ means (codes "rg") mark.Range ∷ []

-- the directions, besides N, S, E, and W
abbrev pub direction_words : List Meaning
direction_words = means (codes "north") (mark.NorthSouth ns.N) ∷ means (codes "south") (mark.NorthSouth ns.S)
    ∷ means (codes "east") (mark.EastWest ew.E) ∷ means (codes "west") (mark.EastWest ew.W) ∷ []

-- the numbers from one to nine, which may follow tens
abbrev pub unit_words : List Meaning
unit_words = means (codes "one") (mark.Unit 1) ∷ means (codes "two") (mark.Unit 2)
    ∷ means (codes "three") (mark.Unit 3) ∷ means (codes "four") (mark.Unit 4)
    ∷ means (codes "five") (mark.Unit 5) ∷ means (codes "six") (mark.Unit 6)
    ∷ means (codes "seven") (mark.Unit 7) ∷ means (codes "eight") (mark.Unit 8)
    ∷ means (codes "nine") (mark.Unit 9) ∷ []

-- the numbers from ten on, and the tens
abbrev pub higher_numbers : List Meaning
higher_numbers = means (codes "ten") (mark.Number 10) ∷ means (codes "eleven") (mark.Number 11)
    ∷ means (codes "twelve") (mark.Number 12) ∷ means (codes "thirteen") (mark.Number 13)
    ∷ means (codes "fourteen") (mark.Number 14) ∷ means (codes "fifteen") (mark.Number 15)
    ∷ means (codes "sixteen") (mark.Number 16) ∷ means (codes "seventeen") (mark.Number 17)
    ∷ means (codes "eighteen") (mark.Number 18) ∷ means (codes "nineteen") (mark.Number 19)
    ∷ means (codes "twenty") (mark.Tens 20) ∷ means (codes "thirty") (mark.Tens 30) ∷ []

-- the meaning of these letters, if they are one of the words
abbrev pub meaning_among : List ℕ → List Meaning → Option DesignationMark
meaning_among letters [] = None
meaning_among letters (w ∷ ws) =
    if same_bytes letters w.letters then Some w.mark else meaning_among letters ws

-- the first meaning that there is
abbrev pub first_meaning : Option DesignationMark → Option DesignationMark → Option DesignationMark
first_meaning None second = second
first_meaning (Some first) second = Some first

abbrev pub or_other : Option DesignationMark → DesignationMark
or_other None = mark.Other
or_other (Some found) = found

-- the meaning of a word in letters of either case
abbrev pub mark_of_word : List ℕ → DesignationMark
mark_of_word text =
    let letters = str_to_ascii_lowercase text in
    or_other
    (first_meaning (meaning_among letters name_words) (first_meaning (meaning_among letters direction_words)
    (first_meaning (meaning_among letters unit_words) (meaning_among letters higher_numbers))))

-- A number of up to three digits is 1 to 99, with zeros before it or not. Four digits are those of a
-- register: three for the number, filled with zeros, and a fraction digit, which must be 0.
abbrev pub mark_of_digits : ℕ → ℕ → DesignationMark
mark_of_digits digits value =
    if nat_le digits 3 then (if nat_le 1 value && nat_le value 99 then mark.Number value else mark.Other)
    else (if (value % 10 == 0) && (nat_le 1 (value / 10) && nat_le (value / 10) 99)
    then mark.Filled (value / 10) else mark.Other)

-- a byte that begins no word, number, or mark of a description: a hyphen and a slash are marks here
abbrev pub mark_of_byte : List ℕ → DesignationMark
mark_of_byte text =
    if same_bytes text (codes "-") then mark.Hyphen
    else if same_bytes text (codes "/") then mark.Slash
    else mark.Other

-- what a token of this kind, and with this text, is in a township's name
abbrev pub mark_of : Kind → List ℕ → DesignationMark
mark_of kind.T text = mark.Township
mark_of kind.R text = mark.Range
mark_of (kind.NorthSouth side) text = mark.NorthSouth side
mark_of (kind.EastWest side) text = mark.EastWest side
mark_of (kind.Number value) text = mark_of_digits (length text) value
mark_of kind.Comma text = mark.Comma
mark_of kind.Stop text = mark.Stop
mark_of kind.BadByte text = mark_of_byte text
mark_of kind.Other text = mark_of_word text
mark_of _ text = mark.Other

abbrev pub mark_of_token : Token → DesignationMark
mark_of_token token = mark_of token.kind token.text

-- a mark without its value
pub data MarkSort : Type 0 where
  tier_word range_word complete unit tens filled north_south east_west stop comma hyphen slash other :
      MarkSort

abbrev pub sort_of : DesignationMark → MarkSort
sort_of mark.Township = tier_word
sort_of mark.Range = range_word
sort_of (mark.Number value) = complete
sort_of (mark.Unit value) = unit
sort_of (mark.Tens value) = tens
sort_of (mark.Filled value) = filled
sort_of (mark.NorthSouth side) = north_south
sort_of (mark.EastWest side) = east_west
sort_of mark.Stop = stop
sort_of mark.Comma = comma
sort_of mark.Hyphen = hyphen
sort_of mark.Slash = slash
sort_of mark.Other = other

-- the sorts of tokens, in order
abbrev pub sorts : List Token → List MarkSort
sorts tokens = map (λ token. sort_of (mark_of_token token)) tokens

-- A slot of a form is a choice between sequences of tokens; a form is one slot after another.
abbrev pub FormSlot : Type 0
FormSlot = List (List MarkSort)

abbrev pub SpellingForm : Type 0
SpellingForm = List FormSlot

-- a token of this sort
abbrev pub must_be : MarkSort → FormSlot
must_be sort = (sort ∷ []) ∷ []

-- a token of one of these sorts, or none
abbrev pub may_be : List MarkSort → FormSlot
may_be sorts = [] ∷ map (λ sort. sort ∷ []) sorts

-- a number: 2, twelve, twenty, twenty five, or twenty-five
abbrev pub number_slot : FormSlot
number_slot =
    (complete ∷ []) ∷ (unit ∷ []) ∷ (tens ∷ []) ∷ (tens ∷ unit ∷ []) ∷ (tens ∷ hyphen ∷ unit ∷ []) ∷ []

-- T. 2 N., R. 3 W., or in words
abbrev pub lettered_form : SpellingForm
lettered_form =
    must_be tier_word ∷ may_be (stop ∷ hyphen ∷ []) ∷ number_slot ∷ may_be (hyphen ∷ []) ∷ must_be north_south
    ∷ may_be (stop ∷ []) ∷ may_be (comma ∷ hyphen ∷ slash ∷ [])
    ∷ must_be range_word ∷ may_be (stop ∷ hyphen ∷ []) ∷ number_slot ∷ may_be (hyphen ∷ [])
    ∷ must_be east_west
    ∷ may_be (stop ∷ []) ∷ may_be (comma ∷ []) ∷ []

-- 2N-3W: the same without T and R
abbrev pub bare_form : SpellingForm
bare_form =
    number_slot ∷ may_be (hyphen ∷ []) ∷ must_be north_south
    ∷ may_be (stop ∷ []) ∷ may_be (comma ∷ hyphen ∷ slash ∷ [])
    ∷ number_slot ∷ may_be (hyphen ∷ []) ∷ must_be east_west
    ∷ may_be (stop ∷ []) ∷ may_be (comma ∷ []) ∷ []

-- 0020N 0030W, as registers write it
abbrev pub register_form : SpellingForm
register_form =
    must_be filled ∷ must_be north_south ∷ may_be (comma ∷ hyphen ∷ slash ∷ [])
    ∷ must_be filled ∷ must_be east_west ∷ may_be (stop ∷ []) ∷ may_be (comma ∷ []) ∷ []

abbrev pub spelling_forms : List SpellingForm
spelling_forms = lettered_form ∷ bare_form ∷ register_form ∷ []

-- the sorts fill the slots of a form, one after another
abbrev pub Fills : SpellingForm → List MarkSort → Type 0
Fills [] sorts = sorts ≡ []
Fills (slot ∷ form) sorts =
    (chosen : List MarkSort) × (more : List MarkSort) × Contains slot chosen × (sorts ≡ chosen ++ more)
    × Fills form more

-- the sorts have one of the forms
abbrev pub AreFormed : List SpellingForm → List MarkSort → Type 0
AreFormed spelling_forms sorts = (form : SpellingForm) × Contains spelling_forms form × Fills form sorts

-- a numeral with this mark in it: twenty is tens, and five is a unit
abbrev pub with_numeral : SpelledNumber → DesignationMark → SpelledNumber
with_numeral count (mark.Number value) = record count { ones = value }
with_numeral count (mark.Unit value) = record count { ones = value }
with_numeral count (mark.Tens value) = record count { tens = value }
with_numeral count (mark.Filled value) = record count { ones = value }
with_numeral count _ = count

-- the value of a numeral: twenty-five is 20 and 5
abbrev pub value_of_spelled : SpelledNumber → ℕ
value_of_spelled count = count.tens + count.ones

-- the numerals up to the direction of the township are its number, and those after it are that of the range
abbrev pub with_number : DesignationParts → Option NorthSouth → DesignationMark → DesignationParts
with_number parts None mark = record parts { tier = with_numeral parts.tier mark }
with_number parts (Some side) mark = record parts { range = with_numeral parts.range mark }

abbrev pub with_mark : DesignationParts → DesignationMark → DesignationParts
with_mark parts (mark.NorthSouth side) = record parts { north_south = Some side }
with_mark parts (mark.EastWest side) = record parts { east_west = Some side }
with_mark parts mark = with_number parts parts.north_south mark

abbrev pub no_parts : DesignationParts
no_parts = record {
  tier = record { tens = 0; ones = 0 };
  north_south = None;
  range = record { tens = 0; ones = 0 };
  east_west = None;
}

-- the parts with those that tokens name
abbrev pub with_tokens : DesignationParts → List Token → DesignationParts
with_tokens parts [] = parts
with_tokens parts (token ∷ tokens) = with_tokens (with_mark parts (mark_of_token token)) tokens

-- the parts are those of a township
pub record AreOf (parts : DesignationParts) (township : Designation) : Type 0 where
  pub number_is : township.number ≡ value_of_spelled parts.tier
  pub north_south_is : parts.north_south ≡ Some township.north_south
  pub range_is : township.range ≡ value_of_spelled parts.range
  pub east_west_is : parts.east_west ≡ Some township.east_west
  pub numbers : IsTownshipNumber township.number × IsTownshipNumber township.range

-- the tokens spell the township
pub record Spell (tokens : List Token) (township : Designation) : Type 0 where
  pub formed : AreFormed spelling_forms (sorts tokens)
  pub parts : AreOf (with_tokens no_parts tokens) township

-- the text is a spelling of the township
pub record IsSpelling (text : List ℕ) (township : Designation) : Type 0 where
  pub within : length text ≤ TEXT_LIMIT
  pub tokens : List Token
  pub cut : HasTokens 0 text tokens
  pub spelled : Spell tokens township

-- some spelling begins with these tokens
abbrev pub BeginSpelling : List Token → Type 0
BeginSpelling tokens = (more : List MarkSort) × AreFormed spelling_forms (sorts tokens ++ more)

-- the tokens before the i-th begin a spelling, but no spelling begins with them and the i-th; or i is the
-- number of tokens, which spell no township
pub record IsNoSpelling (tokens : List Token) (i : ℕ) : Type 0 where
  pub within : i ≤ length tokens
  pub before : BeginSpelling (take i tokens)
  pub here : i < length tokens → ¬ BeginSpelling (take (suc i) tokens)
  pub at_end : i ≡ length tokens → (township : Designation) → ¬ Spell tokens township

-- the refusal after these parts: 31 if the township's number is missing, 32 if its direction is, 33 if the
-- range or its number is, 34 if the range's direction is, and 35 if nothing is missing
abbrev pub number_after_range : Option EastWest → ℕ
number_after_range None = 34
number_after_range (Some side) = 35

abbrev pub number_after_tier : Option NorthSouth → DesignationParts → ℕ
number_after_tier None parts = 32
number_after_tier (Some side) parts =
    if value_of_spelled parts.range == 0 then 33 else number_after_range parts.east_west

abbrev pub number_of_refusal : DesignationParts → ℕ
number_of_refusal parts =
    if value_of_spelled parts.tier == 0 then 31 else number_after_tier parts.north_south parts

-- the text has too many bytes, or goes wrong at the place of a token, or at its end
pub data IsNoDesignation (text : List ℕ) (answer : Refusal) : Type 0 where
  too_large : TEXT_LIMIT < length text → answer ≡ refusal 36 TEXT_LIMIT → IsNoDesignation text answer
  goes_wrong : length text ≤ TEXT_LIMIT → (tokens : List Token) → HasTokens 0 text tokens
      → (i : ℕ) → IsNoSpelling tokens i
      → answer ≡ refusal (number_of_refusal (with_tokens no_parts (take i tokens)))
      (place_of_token tokens i (length text))
      → IsNoDesignation text answer

-- the text between the numbers of a township and of its range, and the text after them
abbrev pub after_tier : NorthSouth → List ℕ
after_tier side = codes " " ++ north_south_letter side ++ codes "., R. "

abbrev pub after_range : EastWest → List ℕ
after_range side = codes " " ++ east_west_letter side ++ codes "."

-- the spelling that is written, as in T. 2 N., R. 3 W.
abbrev pub designation_text : Designation → List ℕ
designation_text township =
    codes "T. " ++ decimal township.number ++ after_tier township.north_south
    ++ decimal township.range ++ after_range township.east_west
