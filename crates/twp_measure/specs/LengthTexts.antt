-- Which bytes spell a length, and the text that is written for one. Lengths are in thousandths of a
-- chain.
use Rattle.std.specs.Prelude.{◌≡◌, ◌==◌, ℕ, ◌+◌, ◌-◌, ◌*◌, ◌/◌, ◌%◌, ◌^◌, ◌≤◌, ◌<◌, ◌⊎◌, List, []}
use Rattle.std.specs.Prelude.{◌∷◌, ◌++◌, length, take, drop, decimal, if◌then◌else◌}
use Rattle.std.specs.List.{position_or_len}
use Rattle.std.specs.Str.Parse.{IsNumeral, digits_value}

-- the lengths: under 100 chains (this project's limit)
abbrev pub IsLength : ℕ → Type 0
IsLength v = v < 100000

-- the byte of a decimal point
abbrev pub point : ℕ
point = 46

-- the index of the first point, or the text's length if there is none
abbrev pub place_of_point : List ℕ → ℕ
place_of_point text = position_or_len (λ byte. byte == point) text

-- the bytes before the first point: all bytes if there is none
abbrev pub before_point : List ℕ → List ℕ
before_point text = take (place_of_point text) text

-- the bytes after the first point: no bytes if there is none
abbrev pub after_point : List ℕ → List ℕ
after_point text = drop (place_of_point text + 1) text

-- one or two digits spell this number
pub record IsShortNumber (text : List ℕ) (n : ℕ) : Type 0 where
  pub numeral : IsNumeral 10 text
  pub places : length text ≤ 2
  pub value : n ≡ digits_value 10 text

-- the thousandths of a chain that the digits after a point represent
abbrev pub fraction_of : List ℕ → ℕ
fraction_of decimals = digits_value 10 decimals * 10 ^ (3 - length decimals)

-- one to three digits after a point are this many thousandths of a chain
pub record IsDecimals (text : List ℕ) (thousandths : ℕ) : Type 0 where
  pub numeral : IsNumeral 10 text
  pub places : length text ≤ 3
  pub value : thousandths ≡ fraction_of text

-- whole chains, a point, and decimals
pub record IsPointed (text : List ℕ) (v : ℕ) : Type 0 where
  pub whole : List ℕ
  pub decimals : List ℕ
  pub chains : ℕ
  pub thousandths : ℕ
  pub before : IsShortNumber whole chains
  pub after : IsDecimals decimals thousandths
  pub text_is : text ≡ whole ++ point ∷ decimals
  pub value : v ≡ 1000 * chains + thousandths

-- the text is a length of v thousandths: whole chains, with or without decimals
abbrev pub IsLengthText : List ℕ → ℕ → Type 0
IsLengthText text v = ((chains : ℕ) × IsShortNumber text chains × (v ≡ 1000 * chains)) ⊎ IsPointed text v

-- the byte of a digit
abbrev pub digit_byte : ℕ → ℕ
digit_byte digit = 48 + digit

-- the third decimal, unless it is 0
abbrev pub third_decimal : ℕ → List ℕ
third_decimal v = if v % 10 == 0 then [] else digit_byte (v % 10) ∷ []

-- the text that is written for a length: whole chains, a point, and two or three decimals
abbrev pub length_text : ℕ → List ℕ
length_text v = decimal (v / 1000)
    ++ point ∷ digit_byte (v / 100 % 10) ∷ digit_byte (v / 10 % 10) ∷ third_decimal v
