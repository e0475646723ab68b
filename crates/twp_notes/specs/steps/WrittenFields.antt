-- How a field is written, and the text that is left if writing fails.
use Rattle.std.specs.Prelude.{◌≡◌, ℕ, List, [], ◌∷◌, length, take}
use Rattle.std.specs.Prelude.{decimal}
use Rattle.twp_measure.specs.LengthTexts.{length_text}
use Rattle.twp_notes.specs.declared.writing.Field.{Field}
use Rattle.twp_notes.specs.declared.writing.Field.TheVariants as field

-- the text of a field that is written
abbrev pub field_text : Field → List ℕ
field_text (field.Letter byte) = byte ∷ []
field_text (field.Number number) = decimal number
field_text (field.Distance length) = length_text length
field_text field.Nothing = []

-- the text begins with these bytes
abbrev pub BeginsWith : List ℕ → List ℕ → Type 0
BeginsWith front bytes = take (length front) bytes ≡ front
