-- Where texts are in their files.
use Rattle.std.specs.Prelude.{◌≡◌, ℕ, ◌+◌, ◌-◌, ◌==◌, ◌&&◌, ◌||◌, Bool, true, false, not, if◌then◌else◌}
use Rattle.std.specs.Prelude.{List, [], ◌∷◌, length, drop, min}
use Rattle.twp_grammar.specs.Tokens.{begins_with}
use Rattle.twp_diagnose.specs.declared.location.Origin.{Origin}

-- the text is its file
pub record IsWholeFile (origin : Origin) : Type 0 where
  pub starts : origin.start ≡ 0
  pub plain : origin.is_quoted ≡ false

-- the byte is a quotation mark
abbrev pub is_mark : ℕ → Bool
is_mark byte = byte == 34

-- the field goes on with the byte after its closing quotation mark: it is no comma, line feed, or carriage
-- return
abbrev pub goes_on : ℕ → Bool
goes_on byte = not ((byte == 44) || (byte == 10) || (byte == 13))

-- These bytes follow a field's closing quotation mark: how many bytes from that mark on come before an offset
-- of the text that is left. The text goes on with those bytes as they are; where the field ends at the mark,
-- so does it.
abbrev pub place_at_closing : List ℕ → ℕ → ℕ
place_at_closing bytes at = if begins_with goes_on bytes then at + 1 else 0

-- These bytes follow a field's opening quotation mark: how many of them come before an offset of the field's
-- text. A doubled quotation mark is one byte of the text; a mark that isn't doubled closes the quotation.
unfoldable pub place_in_quotes : List ℕ → ℕ → ℕ
place_in_quotes [] at = 0
place_in_quotes (byte ∷ []) at = if is_mark byte || (at == 0) then 0 else 1
place_in_quotes (byte ∷ next ∷ rest) at =
    if is_mark byte && not (is_mark next) then place_at_closing (next ∷ rest) at
    else if at == 0 then 0
    else if is_mark byte then 2 + place_in_quotes rest (at - 1)
    else 1 + place_in_quotes (next ∷ rest) (at - 1)

-- how many bytes of a file, from where a text begins, come before an offset of the text
abbrev pub place_in_text : Bool → List ℕ → ℕ → ℕ
place_in_text true bytes at = place_in_quotes bytes at
place_in_text false bytes at = at

-- where in its file an offset of a text is, or the file's end
abbrev pub place_of : Origin → ℕ → ℕ
place_of origin at =
    min (origin.start + place_in_text origin.is_quoted (drop origin.start origin.file.bytes.now) at)
    (length origin.file.bytes.now)

-- the text is the field that begins at an offset of its file: after its opening quotation mark, if it has one
pub record IsFieldAt (start : ℕ) (origin : Origin) : Type 0 where
  pub quoted : origin.is_quoted ≡ begins_with is_mark (drop start origin.file.bytes.now)
  pub quoted_starts : origin.is_quoted ≡ true → origin.start ≡ start + 1
  pub plain_starts : origin.is_quoted ≡ false → origin.start ≡ start
