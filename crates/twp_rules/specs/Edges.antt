-- What a text begins with, ends with, or is, in letters of either case; and the byte before a place.
use Rattle.std.specs.Prelude.{◌==◌, ◌||◌, ◌&&◌, ℕ, ◌-◌, Bool, false, List, [], ◌∷◌, length, drop, take}
use Rattle.std.specs.Prelude.{if◌then◌else◌, nat_le, slice_index}
use Rattle.std.specs.Str.{str_to_ascii_lowercase}
use Rattle.twp_grammar.specs.Tokens.{same_bytes, is_white}

-- a text ends with another, in letters of either case
abbrev pub ends_with : List ℕ → List ℕ → Bool
ends_with seen end =
    nat_le (length end) (length seen)
    && same_bytes (str_to_ascii_lowercase (drop (length seen - length end) seen)) end

-- it ends with one of these
abbrev pub ends_with_one : List ℕ → List (List ℕ) → Bool
ends_with_one seen [] = false
ends_with_one seen (end ∷ ends) = ends_with seen end || ends_with_one seen ends

-- a text begins with another, in letters of either case
abbrev pub begins_with : List ℕ → List ℕ → Bool
begins_with seen front =
    nat_le (length front) (length seen)
    && same_bytes (str_to_ascii_lowercase (take (length front) seen)) front

-- it begins with one of these
abbrev pub begins_with_one : List ℕ → List (List ℕ) → Bool
begins_with_one seen [] = false
begins_with_one seen (front ∷ fronts) = begins_with seen front || begins_with_one seen fronts

-- it is one of these
abbrev pub is_one_of : List ℕ → List (List ℕ) → Bool
is_one_of seen [] = false
is_one_of seen (text ∷ texts) = same_bytes (str_to_ascii_lowercase seen) text || is_one_of seen texts

-- a text without the white space before it
abbrev pub without_white : List ℕ → List ℕ
without_white [] = []
without_white (byte ∷ bytes) = if is_white byte then without_white bytes else byte ∷ bytes

-- the byte before a place, or 0 at the beginning
abbrev pub byte_before : List ℕ → ℕ → ℕ
byte_before text at = if at == 0 then 0 else slice_index text (at - 1)
