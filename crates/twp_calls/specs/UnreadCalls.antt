-- What is unread of a text as data: its unread runs, and the phrases that can be read in two ways.
use Rattle.std.specs.Prelude.{◌≡◌, ◌≤◌, ◌<◌, ◌++◌, ℕ, List, length, map, drop}
use Rattle.twp_phrases.specs.declared.stretches.Stretch.{Stretch}
use Rattle.twp_phrases.specs.declared.unread.Ambiguity.{Ambiguity}
use Rattle.twp_phrases.specs.declared.unread.Ambiguity.TheVariants as ambiguity
use Rattle.twp_phrases.specs.declared.unread.AmbiguousPhrase.{AmbiguousPhrase}
use Rattle.twp_phrases.specs.Unread.{HasUnread}
use Rattle.twp_calls.specs.Answers.{ACCEPTED, NO_MEMORY, NO_ROOM, bare, with_text}
use Rattle.twp_calls.specs.declared.answer.TownshipAnswer.{TownshipAnswer}
use Rattle.twp_calls.specs.declared.unread.TownshipStretch.{TownshipStretch}

-- the number of the two ways to read a phrase
abbrev pub ways_of : Ambiguity → ℕ
ways_of ambiguity.SectionOrHalf = 1
ways_of ambiguity.LotOrHalf = 2
ways_of ambiguity.QuarterOrSection = 3
ways_of ambiguity.NumberOrFigure = 4
ways_of ambiguity.RangeOrHalf = 5
ways_of ambiguity.PartOrSection = 6

-- an unread run as data
abbrev pub run_data : Stretch → TownshipStretch
run_data run = record { start = run.start; end = run.end; ways = 0; reserved = 0 }

-- a phrase that can be read in two ways, as data
abbrev pub ambiguous_data : AmbiguousPhrase → TownshipStretch
ambiguous_data phrase = record {
  start = phrase.place.start;
  end = phrase.place.end;
  ways = ways_of phrase.ambiguity;
  reserved = 0;
}

-- WHAT IS UNREAD of a text, as data: its unread runs, from left to right, and then some phrases that can be
-- read in two ways
pub record AreUnreadData (text : List ℕ) (list : List TownshipStretch) : Type 0 where
  pub runs : List Stretch
  pub are : HasUnread text runs
  pub ambiguous : List AmbiguousPhrase
  pub list_is : list ≡ map run_data runs ++ map ambiguous_data ambiguous

-- They were written at the front of the room, or there is less room than they take.
pub data AreStretchesPut (list old new : List TownshipStretch) (answer : TownshipAnswer) : Type 0 where
  stretches_put : length list ≤ length old → new ≡ list ++ drop (length list) old
      → answer ≡ with_text (bare ACCEPTED) (length list) → AreStretchesPut list old new answer
  stretches_not_put : length old < length list → answer ≡ with_text (bare NO_ROOM) (length list)
      → AreStretchesPut list old new answer

-- `township_unread`: what is unread of the text; or memory ran out.
pub data IsUnreadCall (text : List ℕ) (old new : List TownshipStretch) (answer : TownshipAnswer)
    : Type 0 where
  unread_found : (list : List TownshipStretch) → AreUnreadData text list → AreStretchesPut list old new answer
      → IsUnreadCall text old new answer
  no_memory : answer ≡ bare NO_MEMORY → IsUnreadCall text old new answer
