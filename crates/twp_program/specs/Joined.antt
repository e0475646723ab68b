-- A description and field notes in one text. The description is the text before the first line
-- feed.
use Rattle.std.specs.Prelude.{ℕ, ◌+◌, ◌==◌, List, take}
use Rattle.std.specs.List.{before_first, after_first}
use Rattle.twp_grid.specs.Townships.{line_feed}
use Rattle.twp_notes.specs.FieldNotes.{NOTES_MOST}
use Rattle.twp_read.specs.TextFaults.{TEXT_LIMIT}

-- the most bytes that are read: a description, a line feed, and one byte more than notes can have
abbrev pub JOINED_MOST : ℕ
JOINED_MOST = TEXT_LIMIT + 1 + (NOTES_MOST + 1)

-- the part of joined input that is read
unfoldable pub joined_bytes : List ℕ → List ℕ
joined_bytes bytes = take JOINED_MOST bytes

-- the description of joined input: the bytes before the first line feed
abbrev pub joined_description : List ℕ → List ℕ
joined_description bytes = before_first (λ byte. byte == line_feed) (joined_bytes bytes)

-- the notes of joined input: the bytes after the first line feed, none if there is no line feed
abbrev pub joined_notes : List ℕ → List ℕ
joined_notes bytes = after_first (λ byte. byte == line_feed) (joined_bytes bytes)
