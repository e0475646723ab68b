-- What the reader's loop watches for, so that it can say that a text has no doubtful place. No public promise
-- speaks of it.
use Rattle.std.specs.Prelude.{◌≡◌, ◌||◌, ◌&&◌, not, ℕ, nat_lt, Bool, true, false, List, [], ◌∷◌, Option}
use Rattle.std.specs.Prelude.{Some, None, if◌then◌else◌, ⊤}
use Rattle.twp_grammar.specs.declared.tokens.Kind.{Kind}
use Rattle.twp_grammar.specs.declared.tokens.Kind.TheVariants.{Sec, Lot, And, To, NorthSouth, EastWest}
use Rattle.twp_grammar.specs.declared.tokens.Kind.TheVariants.{Corner}
use Rattle.twp_grammar.specs.declared.tokens.Kind.TheVariants.{Number}
use Rattle.twp_grammar.specs.declared.state.State.{State}
use Rattle.twp_grammar.specs.declared.state.State.TheVariants as past
use Rattle.twp_grammar.specs.Tokens.{Token}
use Rattle.twp_grammar.specs.Grammar.{class_of}
use Rattle.twp_grammar.specs.Machine.{next}
use Rattle.twp_read.specs.declared.watch.ListWord.{ListWord}
use Rattle.twp_read.specs.declared.watch.ListWord.TheVariants as word
use Rattle.twp_read.specs.declared.watch.Watch.{Watch}
use Rattle.twp_read.specs.Doubts.{end_of, is_singular, is_padded}

-- after a whole step
abbrev pub is_step : State → Bool
is_step past.Step = true
is_step _ = false

-- after the number of a section, where a list of sections may begin
abbrev pub is_section : State → Bool
is_section past.SectionNumber = true
is_section past.SectionComma = true
is_section _ = false

-- where the number of a heading follows
abbrev pub is_heading : State → Bool
is_heading past.Township = true
is_heading past.TownshipStop = true
is_heading past.Range = true
is_heading past.RangeStop = true
is_heading _ = false

-- where another lot may follow the first one
abbrev pub is_lot_join : State → Bool
is_lot_join past.LotComma = true
is_lot_join past.LotAnd = true
is_lot_join past.LotTo = true
is_lot_join _ = false

-- where it isn't known yet whether a second number follows
abbrev pub is_pending : State → Bool
is_pending past.SectionStop = true
is_pending past.LotNumber = true
is_pending state = is_section state || is_lot_join state

abbrev pub is_pending_at : Option State → Bool
is_pending_at None = false
is_pending_at (Some state) = is_pending state

-- several sections
abbrev pub is_plural : ListWord → Bool
is_plural word.Sections = true
is_plural _ = false

-- one lot
abbrev pub is_lone : ListWord → Bool
is_lone word.Lot = true
is_lone _ = false

-- the word whose numbers are read one by one, after one more token, which leads to this state
abbrev pub word_after : Kind → List ℕ → Option State → ListWord → ListWord
word_after Sec text after it = if is_singular text then word.Usual else word.Sections
word_after Lot text after it = if is_singular text then word.Lot else word.Usual
word_after _ text after it = if is_pending_at after then it else word.Usual

-- another number makes a list of sections, after a word that isn't plural
abbrev pub begins_list : ListWord → State → Bool
begins_list it state = is_section state && not (is_plural it)

-- a token is doubtful, or may become so: after this word, in this state, where the token before it ends;
-- `and` after a step is let pass, or is not
abbrev pub clouds : Bool → ListWord → State → ℕ → Token → Kind → Bool
clouds ands it state end token And = begins_list it state || (is_step state && not ands)
clouds ands it state end token To = begins_list it state
clouds ands it state end token (Number value) =
    begins_list it state || (is_heading state && is_padded token.text)
    || (is_lot_join state && is_lone it)
clouds ands it state end token (NorthSouth side) = is_step state && nat_lt end token.at
clouds ands it state end token (EastWest side) = is_step state && nat_lt end token.at
clouds ands it state end token (Corner which) = is_step state && nat_lt end token.at
clouds ands it state end token _ = false

-- `and` right after a step
abbrev pub joins_parts : State → Kind → Bool
joins_parts state And = is_step state
joins_parts state _ = false

-- a token that says nothing new after a word that needs no watching
abbrev pub is_quiet : State → Kind → Bool
is_quiet state Sec = false
is_quiet state Lot = false
is_quiet state And = false
is_quiet state To = false
is_quiet state (Number value) = false
is_quiet state (NorthSouth side) = not (is_step state)
is_quiet state (EastWest side) = not (is_step state)
is_quiet state (Corner which) = not (is_step state)
is_quiet state _ = true

-- what was seen with one more token
abbrev pub watch_after : Watch → State → ℕ → Token → State → Watch
watch_after it state end token after = record {
  word = word_after token.kind token.text (Some after) it.word;
  joins_parts = it.joins_parts || joins_parts state token.kind;
  is_clouded = it.is_clouded || clouds true it.word state end token token.kind;
}

-- no token clouds the text, from a state on
abbrev pub Unclouded : Bool → ListWord → ℕ → Option State → List Token → Type 0
Unclouded ands it end None tokens = ⊥
Unclouded ands it end (Some state) [] = ⊤
Unclouded ands it end (Some state) (token ∷ tokens) =
    (clouds ands it state end token token.kind ≡ false)
    × Unclouded ands (word_after token.kind token.text (next state (class_of token.kind)) it) (end_of token)
    (next state (class_of token.kind)) tokens

-- a token that needs no watching after a word that needs none
abbrev pub is_usual : State → ℕ → Token → Kind → Bool
is_usual state end token Sec = is_singular token.text
is_usual state end token Lot = not (is_singular token.text)
is_usual state end token kind = not (clouds false word.Usual state end token kind)

-- where the last of some tokens ends
abbrev pub end_from : ℕ → List Token → ℕ
end_from end [] = end
end_from end (token ∷ tokens) = end_from (end_of token) tokens

-- the word whose numbers are read one by one after some tokens
abbrev pub word_from : ListWord → Option State → List Token → ListWord
word_from it None tokens = it
word_from it (Some state) [] = it
word_from it (Some state) (token ∷ tokens) =
    word_from (word_after token.kind token.text (next state (class_of token.kind)) it)
    (next state (class_of token.kind)) tokens
