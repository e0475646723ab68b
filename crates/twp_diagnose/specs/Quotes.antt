-- How a field is quoted in a sentence.
use Rattle.std.specs.Prelude.{ℕ, ◌++◌, List, codes, encode_utf8_all}
use Rattle.twp_excerpt.specs.Signs.{escaped}

-- the most bytes of a field that are quoted
abbrev pub QUOTED_MOST : ℕ
QUOTED_MOST = 36

-- the bytes of a field's text, escaped, between marks
abbrev pub quoted : List ℕ → List ℕ
quoted text = codes "`" ++ (encode_utf8_all (escaped text) ++ codes "`")
