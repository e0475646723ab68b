-- The parts of an explanation, or of a note, as numbers: where in the input its place is, and the other place
-- that it names; and where in the text its sentence, its excerpt, its hints, and the only reading of a
-- refused description are.
use Rattle.std.specs.Prelude.{◌≡◌, ℕ, ◌-◌, List, Option, Some, None, slice_range}
use Rattle.twp_excerpt.specs.declared.message.MessageParts.{MessageParts}
use Rattle.twp_excerpt.specs.declared.spot.Span.{Span}
use Rattle.twp_grammar.specs.Sentences.{IsReadAs}
use Rattle.twp_grammar.specs.declared.item.Item.{Item}
use Rattle.twp_diagnose.specs.declared.explanation.Explanation.{Explanation}
use Rattle.twp_diagnose.specs.declared.explanation.OtherPlace.{OtherPlace}
use Rattle.twp_diagnose.specs.declared.location.Location.{Location}
use Rattle.twp_diagnose.specs.declared.location.Location.TheVariants.{Whole, Line, Field, Part}
use Rattle.twp_explain.specs.NoteMarks.{IsSentenceOf}
use Rattle.twp_explain.specs.declared.note.Note.{Note}
use Rattle.twp_calls.specs.declared.explanation.TownshipExplanation.{TownshipExplanation}

-- what is shown of the input: nothing, a line, or underlined bytes
abbrev pub SHOWN_NOTHING : ℕ
SHOWN_NOTHING = 0

abbrev pub SHOWN_LINE : ℕ
SHOWN_LINE = 1

abbrev pub SHOWN_BYTES : ℕ
SHOWN_BYTES = 2

abbrev pub shown_code : Location → ℕ
shown_code Whole = SHOWN_NOTHING
shown_code (Line at_) = SHOWN_LINE
shown_code (Field span) = SHOWN_BYTES
shown_code (Part span) = SHOWN_BYTES

-- no bytes
abbrev pub no_bytes : Span
no_bytes = record { start = 0; end = 0 }

-- the bytes that are shown; of a line, none at its place
abbrev pub shown_bytes : Location → Span
shown_bytes Whole = no_bytes
shown_bytes (Line at_) = record { start = at_; end = at_ }
shown_bytes (Field span) = span
shown_bytes (Part span) = span

-- whether there is another place, its record, and its bytes
abbrev pub other_code : Option OtherPlace → ℕ
other_code None = 0
other_code (Some other) = 1

abbrev pub other_record : Option OtherPlace → ℕ
other_record None = 0
other_record (Some other) = other.number

abbrev pub other_bytes : Option OtherPlace → Span
other_bytes None = no_bytes
other_bytes (Some other) = other.span

-- how many bytes a span has
abbrev pub size_of : Span → ℕ
size_of span = span.end - span.start

-- the parts as numbers
abbrev pub numbers_of : Location → Option OtherPlace → MessageParts → Span → Span → TownshipExplanation
numbers_of place other parts sentence repair = record {
  shown = shown_code place;
  has_other = other_code other;
  other_record = other_record other;
  continued = parts.continued;
  start = (shown_bytes place).start;
  end = (shown_bytes place).end;
  other_start = (other_bytes other).start;
  other_end = (other_bytes other).end;
  sentence = sentence.start;
  sentence_length = size_of sentence;
  excerpt = parts.excerpt.start;
  excerpt_length = size_of parts.excerpt;
  hints = parts.help.start;
  hints_length = size_of parts.help;
  repair = repair.start;
  repair_length = size_of repair;
}

-- the reader accepts the text
pub record CanBeRead (text : List ℕ) : Type 0 where
  pub items : List Item
  pub read : IsReadAs text items

-- there is no reading; or these bytes of the text are one, which the reader accepts
pub data IsRepair (text : List ℕ) (repair : Span) : Type 0 where
  no_repair : repair ≡ no_bytes → IsRepair text repair
  can_be_read : CanBeRead (slice_range text repair.start repair.end) → IsRepair text repair

-- the parts of an explanation
pub record ArePartsOf (explanation : Explanation) (parts : TownshipExplanation) : Type 0 where
  pub repair : Span
  pub repair_is : IsRepair explanation.text.bytes.items repair
  pub parts_are : parts
      ≡ numbers_of explanation.place explanation.other explanation.parts explanation.parts.sentence repair

-- the parts of a note
pub record ArePartsOfNote (note : Note) (parts : TownshipExplanation) : Type 0 where
  pub sentence : Span
  pub sentence_is : IsSentenceOf note.text.bytes.items note.parts.sentence sentence
  pub parts_are : parts ≡ numbers_of (Part note.span) None note.parts sentence no_bytes
