-- An excerpt: the line that contains a place, after its number, and a line below it with carets
-- under part of it.
use Rattle.std.specs.Prelude.{ℕ, zero, suc, ◌+◌, ◌-◌, ◌/◌, ◌==◌, ◌&&◌, nat_lt, nat_le, Bool, true, false}
use Rattle.std.specs.Prelude.{if◌then◌else◌, List, [], ◌∷◌, ◌++◌, length, take, drop, reverse, replicate}
use Rattle.std.specs.Prelude.{slice_index, min, max, codes}
use Rattle.std.specs.List.{flat_map, position_or_len}
use Rattle.std.specs.Fmt.{decimal}
use Rattle.twp_excerpt.specs.Signs.{Sign, sign_size, signs, in_line, width}
use Rattle.twp_excerpt.specs.Spots.{is_feed, line_start}

-- the most columns of a line in an excerpt
abbrev pub COLUMNS : ℕ
COLUMNS = 100

-- the index of the line feed that ends the line of a place, or the text's end
abbrev pub feed_after : List ℕ → ℕ → ℕ
feed_after text at = at + position_or_len is_feed (drop at text)

-- the line of a place ends with a carriage return before its line feed
abbrev pub ends_in_return : List ℕ → ℕ → Bool
ends_in_return text at =
    nat_lt (feed_after text at) (length text) && nat_lt (line_start text at) (feed_after text at)
    && (slice_index text (feed_after text at - 1) == 13)

-- where the line of a place ends: before its line feed, or before its carriage return and line feed
abbrev pub line_end : List ℕ → ℕ → ℕ
line_end text at =
    if ends_in_return text at then feed_after text at - 1 else feed_after text at

-- signs as they are written in a line, and the columns that they take
abbrev pub line_text : List Sign → List ℕ
line_text line = flat_map in_line line

abbrev pub line_width : List Sign → ℕ
line_width line = width (line_text line)

-- the longest prefix of some signs that fits in a number of columns, and the longest suffix
unfoldable pub front_within : ℕ → List Sign → List Sign
front_within room [] = []
front_within room (sign ∷ rest) =
    if nat_le (width (in_line sign)) room
    then sign ∷ front_within (room - width (in_line sign)) rest
    else []

abbrev pub end_within : ℕ → List Sign → List Sign
end_within room line = reverse (front_within room (reverse line))

-- the part that is kept of some signs, and whether other signs are omitted; two dots mark the
-- omission
pub record ShownPart : Type 0 where
  pub kept : List Sign
  pub is_cut : Bool

abbrev pub dots : Bool → List ℕ
dots is_cut = if is_cut then codes ".." else []

-- the columns of a piece, including its dots
abbrev pub piece_width : ShownPart → ℕ
piece_width piece = line_width piece.kept + length (dots piece.is_cut)

-- some signs, all of them if they fit in a number of columns; otherwise the prefix that fits before
-- two dots, or the suffix that fits after them
abbrev pub whole_piece : List Sign → ShownPart
whole_piece line = record { kept = line; is_cut = false }

abbrev pub front_piece : ℕ → List Sign → ShownPart
front_piece room line =
    if nat_le (line_width line) room
    then whole_piece line
    else record { kept = front_within (room - 2) line; is_cut = true }

abbrev pub end_piece : ℕ → List Sign → ShownPart
end_piece room line =
    if nat_le (line_width line) room
    then whole_piece line
    else record { kept = end_within (room - 2) line; is_cut = true }

-- How a line is cut around a place: half of the room, or as much of it as they need, is for the
-- signs from the place on; the signs before the place get the rest; and whatever these do not need
-- goes to the signs from the place on.
abbrev pub least_ahead : ℕ → List Sign → ℕ
least_ahead room ahead = max 1 (piece_width (front_piece (room - room / 2) ahead))

abbrev pub piece_before : ℕ → List Sign → List Sign → ShownPart
piece_before room before ahead = end_piece (room - least_ahead room ahead) before

abbrev pub piece_ahead : ℕ → List Sign → List Sign → ShownPart
piece_ahead room before ahead =
    front_piece (room - piece_width (piece_before room before ahead)) ahead

-- the signs that begin within a number of bytes
unfoldable pub begun : ℕ → List Sign → List Sign
begun zero line = []
begun (suc size) [] = []
begun (suc size) (sign ∷ rest) = sign ∷ begun (suc size - sign_size sign) rest

-- the parts that are shown of a line, and the number of carets below it, at least one
pub record View : Type 0 where
  pub before : ShownPart
  pub ahead : ShownPart
  pub carets : ℕ

-- the view of a line, given the signs before a place, those from it on, and how many bytes are
-- underlined there
abbrev pub view_of : ℕ → List Sign → List Sign → ℕ → View
view_of room before ahead size = record {
  before = piece_before room before ahead;
  ahead = piece_ahead room before ahead;
  carets = max 1 (line_width (begun size (piece_ahead room before ahead).kept));
}

-- the gutter before the line, and the gutter before the carets below a number with this many digits
abbrev pub gutter : List ℕ → List ℕ
gutter number = codes "  " ++ (number ++ codes " | ")

abbrev pub empty_gutter : ℕ → List ℕ
empty_gutter digits = replicate (2 + digits) 32 ++ codes " | "

-- a piece as it is written: a suffix after its dots, or a prefix before them
abbrev pub end_text : ShownPart → List ℕ
end_text piece = dots piece.is_cut ++ line_text piece.kept

abbrev pub front_text : ShownPart → List ℕ
front_text piece = line_text piece.kept ++ dots piece.is_cut

-- the numbered line, and the line of carets
abbrev pub numbered_line : List ℕ → View → List ℕ
numbered_line number view = gutter number ++ (end_text view.before ++ front_text view.ahead)

abbrev pub caret_line : ℕ → View → List ℕ
caret_line digits view =
    empty_gutter digits ++ (replicate (piece_width view.before) 32 ++ replicate view.carets 94)

-- the place if it is within its line, otherwise the line's end
abbrev pub place_in_line : List ℕ → ℕ → ℕ
place_in_line text at = min at (line_end text at)

-- the bytes of a text from one place to another
abbrev pub between : List ℕ → ℕ → ℕ → List ℕ
between text start end = take (end - start) (drop start text)

-- the view of the line on which a span of a text starts, in a number of columns
unfoldable pub view_in : ℕ → List ℕ → ℕ → ℕ → View
view_in room text start end =
    view_of room
    (signs (between text (line_start text start) (place_in_line text start)))
    (signs (between text (place_in_line text start) (line_end text start)))
    (min end (line_end text start) - place_in_line text start)

-- the two lines of an excerpt that shows a view, after a line number
abbrev pub excerpt_lines : List ℕ → View → List ℕ
excerpt_lines number view =
    numbered_line number view ++ 10 ∷ (caret_line (length number) view ++ 10 ∷ [])

-- the two lines of the excerpt of a span, after its line number
unfoldable pub excerpt : List ℕ → ℕ → ℕ → ℕ → List ℕ
excerpt text start end line =
    excerpt_lines (decimal line) (view_in (COLUMNS - length (decimal line) - 5) text start end)
