-- Land that a changed text excepts: what is before the first ` except ` is without what is after it. Or
-- semicolons divide the text, and each division is land, or land without what is after its own ` except `.
use Rattle.std.specs.Prelude.{◌≡◌, ◌≢◌, ◌-◌, ◌<◌, ℕ, List, [], ◌∷◌, ◌++◌}
use Rattle.std.specs.Prelude.{codes, drop, length, replicate, slice_index, take}
use Rattle.std.specs.List.{All, flat_map}

-- what is written between land and what it is without
abbrev pub except : List ℕ
except = codes " except "

-- the marks between and before divisions
abbrev pub semicolon : ℕ
semicolon = 59

abbrev pub blank : ℕ
blank = 32

-- as many blanks
abbrev pub blanks : ℕ → List ℕ
blanks count = replicate count blank

-- no semicolon is in a text
abbrev pub HasNoSemicolon : List ℕ → Type 0
HasNoSemicolon text = (at : ℕ) → at < length text → slice_index text at ≢ semicolon

-- no ` except ` begins before a place of a text
abbrev pub HasNoExceptBefore : List ℕ → ℕ → Type 0
HasNoExceptBefore text place = (at : ℕ) → at < place → take (length except) (drop at text) ≢ except

-- these are a text before its first ` except `, and after it
pub record AreAroundExcept (text land less : List ℕ) : Type 0 where
  pub is : text ≡ land ++ except ++ less
  pub first : HasNoExceptBefore text (length land)

-- a division of a text: land alone, or land, and what it is without
pub data Division : Type 0 where
  alone : List ℕ → Division
  without : List ℕ → List ℕ → Division

-- a division as it is written
abbrev pub written : Division → List ℕ
written (alone land) = land
written (without land less) = land ++ except ++ less

-- what it keeps: its land, and blanks instead of the rest
abbrev pub kept : Division → List ℕ
kept (alone land) = land
kept (without land less) = land ++ blanks (length except) ++ blanks (length less)

-- what it takes: what its land is without, after a mark, and blanks instead of the rest
abbrev pub taken : ℕ → Division → List ℕ
taken mark (alone land) = blanks (length land)
taken mark (without land less) = blanks (length land) ++ mark ∷ blanks (length except - 1) ++ less

-- the mark before the next exception: a blank before the first one, and then a semicolon
abbrev pub mark_after : ℕ → Division → ℕ
mark_after mark (alone land) = mark
mark_after mark (without land less) = semicolon

-- it contains no semicolon, and excepts what is after its first ` except `
abbrev pub IsDivision : Division → Type 0
IsDivision (alone land) = HasNoSemicolon land × HasNoExceptBefore land (length land)
IsDivision (without land less) =
    HasNoSemicolon (land ++ except ++ less) × HasNoExceptBefore (land ++ except ++ less) (length land)

-- divisions as they are written, or what they keep: a semicolon ends each of them
abbrev pub all_of : (Division → List ℕ) → List Division → List ℕ
all_of text divisions = flat_map (λ division. text division ++ semicolon ∷ []) divisions

-- what they take: a blank ends each of them
abbrev pub all_taken : ℕ → List Division → List ℕ
all_taken mark [] = []
all_taken mark (division ∷ more) = taken mark division ++ blank ∷ all_taken (mark_after mark division) more

-- THE DIVISIONS of a text, each but the last with a semicolon after it: what they keep, and what they take
pub record IsDivided (made whole excepted : List ℕ) : Type 0 where
  pub divisions : List Division
  pub each : All IsDivision divisions
  pub made_is : made ++ semicolon ∷ [] ≡ all_of written divisions
  pub whole_is : whole ++ semicolon ∷ [] ≡ all_of kept divisions
  pub excepted_is : excepted ++ blank ∷ [] ≡ all_taken blank divisions

-- the land of a text, what is excepted from it, and the offset of the text of this: what is before the first
-- ` except `, and what is after it; or, if a semicolon is after it, what the divisions keep and take
pub data IsParted (made whole excepted : List ℕ) (at : ℕ) : Type 0 where
  of_last : AreAroundExcept made whole excepted → at ≡ length (whole ++ except)
      → IsParted made whole excepted at
  of_each : (land less : List ℕ) → AreAroundExcept made land less → ¬ HasNoSemicolon less
      → IsDivided made whole excepted → at ≡ 0 → IsParted made whole excepted at
