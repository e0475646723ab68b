-- Lists of texts, written as one text: words with a space between each two of them, or texts with a bar. In
-- an entry of a table, `=` is between a text and what is written instead.
use Rattle.std.specs.Prelude.{◌==◌, ℕ, List, [], ◌∷◌, if◌then◌else◌}

-- the bytes before a mark
abbrev pub before : ℕ → List ℕ → List ℕ
before mark [] = []
before mark (byte ∷ bytes) = if byte == mark then [] else byte ∷ before mark bytes

-- the bytes after it
abbrev pub after : ℕ → List ℕ → List ℕ
after mark [] = []
after mark (byte ∷ bytes) = if byte == mark then bytes else after mark bytes

-- a byte before the first text of a list
abbrev pub before_first : ℕ → List (List ℕ) → List (List ℕ)
before_first byte [] = (byte ∷ []) ∷ []
before_first byte (text ∷ texts) = (byte ∷ text) ∷ texts

-- the texts between the marks of a text
abbrev pub between : ℕ → List ℕ → List (List ℕ)
between mark [] = [] ∷ []
between mark (byte ∷ bytes) =
    if byte == mark then [] ∷ between mark bytes else before_first byte (between mark bytes)

-- those between spaces
abbrev pub words : List ℕ → List (List ℕ)
words text = between 32 text

-- and those between bars
abbrev pub texts : List ℕ → List (List ℕ)
texts text = between 124 text
