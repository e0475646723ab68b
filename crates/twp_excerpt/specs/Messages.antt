-- A message about a place in a file: its head, which names the file and the place; a sentence; an
-- excerpt of the file, if a line is to be shown; and help, if there is any.
use Rattle.std.specs.Prelude.{◌≡◌, ℕ, ◌+◌, min, List, [], ◌∷◌, ◌++◌, length, codes, Option, Some, None}
use Rattle.std.specs.Prelude.{encode_utf8_all}
use Rattle.std.specs.Fmt.{decimal}
use Rattle.twp_excerpt.specs.Excerpts.{excerpt}
use Rattle.twp_excerpt.specs.Shown.{IsTextOf, is_shown_or_feed}
use Rattle.twp_excerpt.specs.Signs.{escaped}
use Rattle.twp_excerpt.specs.declared.message.MessagePlace.{MessagePlace}
use Rattle.twp_excerpt.specs.declared.message.MessagePlace.TheVariants.{File, Line, Place}
use Rattle.twp_excerpt.specs.declared.message.Extract.{Extract}
use Rattle.twp_excerpt.specs.declared.message.Message.{Message}
use Rattle.twp_excerpt.specs.declared.message.MessageParts.{MessageParts}

-- the line and the column of a heading, each after a colon
abbrev pub number_text : ℕ → List ℕ
number_text number = codes ":" ++ decimal number

abbrev pub heading_text : MessagePlace → List ℕ
heading_text File = []
heading_text (Line line) = number_text line
heading_text (Place spot) = number_text spot.line ++ number_text spot.column

-- the head of a message, such as `township: land.txt:1:13: `
abbrev pub message_head : List ℕ → MessagePlace → List ℕ
message_head name heading =
    codes "township: " ++ (escaped name ++ (heading_text heading ++ codes ": "))

-- the excerpt of a text, in which as much is underlined as is in the text
abbrev pub extract_text : Option Extract → List ℕ
extract_text None = []
extract_text (Some it) =
    excerpt it.text.now (min it.span.start (min it.span.end (length it.text.now)))
    (min it.span.end (length it.text.now)) it.line

-- help begins with two spaces; if there is none, nothing is added
abbrev pub BeginsHelp : List ℕ → List ℕ → Type 0
BeginsHelp [] added = added ≡ []
BeginsHelp (byte ∷ rest) added = (lines : List ℕ) × (added ≡ 32 ∷ 32 ∷ lines)

abbrev pub AddsHelp : List ℕ → List ℕ → List ℕ → Type 0
AddsHelp help old new = (added : List ℕ) × (new ≡ old ++ added) × BeginsHelp help added

-- The text is the message: the head, the sentence on one or more lines, the excerpt, and the help.
-- Each of its characters is either shown or ends a line.
pub record IsMessage (message : Message) (text : List ℕ) : Type 0 where
  pub sentence : List ℕ
  pub help : List ℕ
  pub text_is : text
      ≡ encode_utf8_all (message_head message.name.now message.heading) ++ sentence ++ 10
      ∷ (encode_utf8_all (extract_text message.extract) ++ help)
  pub helps : BeginsHelp message.help.now help
  pub shown : IsTextOf is_shown_or_feed text

-- The text is the message, and its parts are here: the sentence, up to the line feed that ends it, the
-- excerpt, and the help.
pub record IsInParts (message : Message) (text : List ℕ) (parts : MessageParts) : Type 0 where
  pub is : IsMessage message text
  pub sentence_starts : parts.sentence.start
      ≡ length (encode_utf8_all (message_head message.name.now message.heading))
  pub sentence_ends : parts.sentence.end ≡ parts.sentence.start + length is.sentence
  pub excerpt_starts : parts.excerpt.start ≡ parts.sentence.end + 1
  pub excerpt_ends : parts.excerpt.end
      ≡ parts.excerpt.start + length (encode_utf8_all (extract_text message.extract))
  pub help_starts : parts.help.start ≡ parts.excerpt.end
  pub help_ends : parts.help.end ≡ length text
